-- Reading and storing words, and storing bytes in a row, that are all inside, or not. Assumes nothing.
use mathlib.Core.Path.{◌≡◌, sym, ◌∙◌}
use mathlib.Core.List.{List, append_assoc, ◌++◌}
use Prim.Native.Nat.{ℕ, suc, ◌+◌, ◌*◌, ◌≤◌, ◌<◌}
use native.Mathlib.Omega.{arith}
use borrow.Author.Tests.{le-leb, lt-leb}
use lib.ListN.{length, get_or, take, drop, get_or-append}
use Rattle.std.proofs.lemmas.List.{get_or-drop, length-drop, drop-drop}
use lib.Seq.{sets, sets-eq}
use Rattle.words.specs.Choice.{pick}
use Rattle.words.specs.Words.{word_of, bytes_of, word_at, words_of, put_word, word_or0, with_word, with_bytes}
use Rattle.words.proofs.Table.{table_same}

module _ (s : List ℕ) (at : ℕ) (h : at + 4 ≤ length s) where
  pub get_inside : word_or0 s at ≡ word_at s at
  unfolding pick
  get_inside = rw (le-leb (at + 4) (length s) h)

  pub put_inside : (w : ℕ) → with_word s at w ≡ put_word s at w
  unfolding pick
  put_inside w = rw (le-leb (at + 4) (length s) h)

-- where it is not all inside, 0 is read
module _ (s : List ℕ) (at : ℕ) (h : length s < at + 4) where
  pub get_outside : word_or0 s at ≡ 0
  unfolding pick
  get_outside = rw (lt-leb (at + 4) (length s) h)

-- bytes in a row, likewise
pub place_inside : (s : List ℕ) (at : ℕ) (bytes : List ℕ) → at + length bytes ≤ length s → with_bytes s at bytes ≡ sets s at bytes
unfolding pick
place_inside s at bytes h = rw (le-leb (at + length bytes) (length s) h)

pub place_outside : (s : List ℕ) (at : ℕ) (bytes : List ℕ) → length s < at + length bytes → with_bytes s at bytes ≡ s
unfolding pick
place_outside s at bytes h = rw (lt-leb (at + length bytes) (length s) h)

-- stored so, they stand between what is in front of them and what is behind
pub place_split :
    (s : List ℕ) (at n : ℕ) (bytes : List ℕ) → length bytes ≡ n → at + n ≤ length s →
    take at s ++ (bytes ++ drop n (drop at s)) ≡ with_bytes s at bytes
place_split s at n bytes e h =
    let e' : at + n ≡ at + length bytes = omega arith in
    rw (drop-drop n at s, e', ← append_assoc (take at s) bytes (drop (at + length bytes) s)) (sym (place_inside s at bytes (omega arith) ∙ sets-eq bytes s at (omega arith)))

-- a word is stored as its four bytes are
pub put_placed : (s : List ℕ) (at w : ℕ) → with_bytes s at (bytes_of w) ≡ with_word s at w
unfolding put_word
put_placed s at w =
    let second : at + 1 ≡ suc at = omega arith in
    let third : at + 2 ≡ suc (suc at) = omega arith in
    let fourth : at + 3 ≡ suc (suc (suc at)) = omega arith in
    rw (second, third, fourth)

-- the word that the rest of a list opens with, from a place on
pub get_opens :
    (s : List ℕ) (at : ℕ) (rest : List ℕ) → rest ≡ drop at s → 4 ≤ length rest →
    word_of (get_or rest 0 0) (get_or rest 1 0) (get_or rest 2 0) (get_or rest 3 0) ≡ word_or0 s at
get_opens s at rest e h =
    let there : at + 0 ≡ at = omega arith in
    let inside : 4 ≤ length (drop at s) = rw e at h in
    rw (e, get_or-drop at s 0 0, get_or-drop at s 1 0, get_or-drop at s 2 0, get_or-drop at s 3 0, there)
    (sym (get_inside s at (omega (arith, inside, length-drop at s))))

-- words that lie in the first of two lists
pub words_front : (n : ℕ) (s t : List ℕ) → 4 * n ≤ length s → words_of n (s ++ t) ≡ words_of n s
unfolding words_of
words_front n s t h = table_same _ _ n (λ i below. word_front (4 * i) (omega arith))
  where
    word_front : (at : ℕ) → at + 4 ≤ length s → word_at (s ++ t) at ≡ word_at s at
    word_front at k =
        rw (
          get_or-append s t 0 at (omega arith),
          get_or-append s t 0 (at + 1) (omega arith),
          get_or-append s t 0 (at + 2) (omega arith),
          get_or-append s t 0 (at + 3) (omega arith),
        )
