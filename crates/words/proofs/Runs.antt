-- Bytes stored one run behind the other are stored as one run. Assumes nothing.
use Prim.Native.Nat.{ℕ, suc, ◌+◌, ◌≤◌, ◌<◌}
use mathlib.Core.Path.{◌≡◌, refl, ◌∙◌}
use mathlib.Core.List.{List, [], ◌∷◌, ◌++◌, append-nil}
use native.Mathlib.Numerals.{add-one}
use native.Mathlib.Omega.{arith}
use lib.ListN.{length, get_or, take, drop, set, drop_of_length-le, length-append}
use lib.Seq.{sets, sets-eq, length-sets, take-suc, take_at, length-take-le}
use Rattle.words.specs.Words.{with_bytes}
use Rattle.words.proofs.Inside.{place_inside}

-- the next run is stored where the first one ends
pub sets-append : (l : List ℕ) (i n : ℕ) (v w : List ℕ) → length v ≡ n → sets (sets l i v) (i + n) w ≡ sets l i (v ++ w)
sets-append l i n [] w e =
    let here : i + n ≡ i = omega arith in
    rw here
sets-append l i n (a ∷ v) w e =
    let there : i + n ≡ suc i + length v = omega arith in
    rw there (sets-append _ (suc i) (length v) v w refl)

-- a run, one byte longer
pub run_more :
    (l v : List ℕ) (at i : ℕ) → i < length v → set (sets l at (take i v)) (at + i) (get_or v i 0) ≡ sets l at (take (i + 1) v)
run_more l v at i h =
    rw (add-one i, take-suc v i 0 h) (sets-append l at i (take i v) (get_or v i 0 ∷ []) (length-take-le i v (omega arith)))

-- a run at the front, and the rest
pub sets-front : (l v : List ℕ) → length v ≤ length l → sets l 0 v ≡ v ++ drop (length v) l
sets-front l v h =
    let e : 0 + length v ≡ length v = omega arith in
    sets-eq v l 0 (omega arith) ∙ rw e

-- a run of all of it
pub sets-all : (l v : List ℕ) → length v ≡ length l → sets l 0 v ≡ v
sets-all l v e = sets-front l v (omega arith) ∙ rw (drop_of_length-le l {i = length v} (omega arith)) (append-nil v)

-- the same of bytes stored in a row, where they are all inside
pub place-append :
    (l : List ℕ) (i n : ℕ) (v w : List ℕ) → length v ≡ n → i + n + length w ≤ length l →
    with_bytes (with_bytes l i v) (i + n) w ≡ with_bytes l i (v ++ w)
place-append l i n v w e fits =
    rw (
      place_inside l i v (omega (arith, e)),
      place_inside l i (v ++ w) (omega (arith, e, length-append v w)),
      place_inside (sets l i v) (i + n) w (omega (arith, length-sets l i v)),
    )
    (sets-append l i n v w e)

pub place-front : (l v : List ℕ) → length v ≤ length l → with_bytes l 0 v ≡ v ++ drop (length v) l
place-front l v h = place_inside l 0 v (omega arith) ∙ sets-front l v h

pub take-front : (l v : List ℕ) (n : ℕ) → length v ≡ n → n ≤ length l → take n (with_bytes l 0 v) ≡ v
take-front l v n e h = rw (place-front l v (omega arith)) (take_at v (drop (length v) l) n e)

pub place-all : (l v : List ℕ) → length v ≡ length l → with_bytes l 0 v ≡ v
place-all l v e = place_inside l 0 v (omega arith) ∙ sets-all l v e
