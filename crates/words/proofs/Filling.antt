-- A buffer filled from the front: what is filled, then the buffer as it was. Storing at the seam makes the filled part
-- longer, by a byte, by an element of a list that is copied, or by a word. Assumes nothing.
use mathlib.Core.Path.{◌≡◌, refl, sym, ◌∙◌}
use mathlib.Core.List.{List, [], ◌∷◌, ◌++◌, append_assoc}
use Prim.Native.Nat.{ℕ, zero, suc, ◌+◌, ◌-◌, ◌*◌, ◌/◌, ◌%◌, ◌≤◌, ◌<◌}
use native.Mathlib.Nat.{sub-zero, zero-sub, suc-sub-suc}
use native.Mathlib.Numerals.{add-one}
use native.Mathlib.Omega.{arith}
use lib.ListN.{length, get_or, take, drop, set, replicate, length-append}
use lib.Seq.{drop-cons, set_at, append_snoc, take-suc, length-take-le}
use Rattle.words.specs.Words.{bytes_of, bytes_of_all, put_word}
use Rattle.words.proofs.Spread.{spread_more, length_spread_take}

-- the element a stored at the seam
pub fill_more : (x z : List ℕ) (i j a : ℕ) → length x ≡ i → j ≡ i + 1 → i < length z → set (x ++ drop i z) i a ≡ (x ++ (a ∷ [])) ++ drop j z
fill_more x z i j a e k h = rw (drop-cons z i 0, k, add-one i) (set_at x _ _ a i e ∙ sym (append_snoc x a (drop (suc i) z)))

-- the next element of a list that is copied
pub copy_more :
    (from z : List ℕ) (i : ℕ) → i < length from → i < length z →
    set (take i from ++ drop i z) i (get_or from i 0) ≡ take (i + 1) from ++ drop (i + 1) z
copy_more from z i hf hz =
    rw (add-one i, take-suc from i 0 hf) (fill_more (take i from) z i (suc i) _ (length-take-le i from (omega arith)) (sym (add-one i)) hz)

length_more : (x : List ℕ) (i j a : ℕ) → length x ≡ i → j ≡ i + 1 → length (x ++ (a ∷ [])) ≡ j
length_more x i j a e k = length-append x (a ∷ []) ∙ omega arith

-- the four bytes of a word
pub word_more : (x z : List ℕ) (i w : ℕ) → length x ≡ i → i + 4 ≤ length z → put_word (x ++ drop i z) i w ≡ (x ++ bytes_of w) ++ drop (i + 4) z
unfolding put_word
word_more x z i w e h =
    let x₁ = x ++ (w / 16777216 ∷ []) in
    let x₂ = x₁ ++ (w / 65536 % 256 ∷ []) in
    let x₃ = x₂ ++ (w / 256 % 256 ∷ []) in
    let e₁ : length x₁ ≡ i + 1 = length_more x i (i + 1) _ e refl in
    let e₂ : length x₂ ≡ i + 2 = length_more x₁ (i + 1) (i + 2) _ e₁ (omega arith) in
    let e₃ : length x₃ ≡ i + 3 = length_more x₂ (i + 2) (i + 3) _ e₂ (omega arith) in
    rw (
      fill_more x z i (i + 1) (w / 16777216) e refl (omega arith),
      fill_more x₁ z (i + 1) (i + 2) (w / 65536 % 256) e₁ (omega arith) (omega arith),
      fill_more x₂ z (i + 2) (i + 3) (w / 256 % 256) e₂ (omega arith) (omega arith),
      fill_more x₃ z (i + 3) (i + 4) (w % 256) e₃ (omega arith) (omega arith),
    )
    (simp append_assoc)

-- the next of several words
pub words_more :
    (h z : List ℕ) (i : ℕ) → i < length h → 4 * i + 4 ≤ length z →
    put_word (bytes_of_all (take i h) ++ drop (4 * i) z) (4 * i) (get_or h i 0) ≡ bytes_of_all (take (i + 1) h) ++ drop (4 * (i + 1)) z
words_more h z i hh hz =
    let place : 4 * (i + 1) ≡ 4 * i + 4 = omega arith in
    rw (
      place,
      spread_more bytes_of h i hh,
    )
    (word_more (bytes_of_all (take i h)) z (4 * i) (get_or h i 0) (length_spread_take bytes_of 4 (λ w. refl) h i (omega arith)) hz)

-- what is left of a buffer of one byte repeated
pub drop-replicate : (n k a : ℕ) → drop n (replicate k a) ≡ replicate (k - n) a
drop-replicate zero k a = rw (sub-zero k)
drop-replicate (suc n) zero a = rw (zero-sub (suc n))
drop-replicate (suc n) (suc k) a = rw (suc-sub-suc k n) (drop-replicate n k a)
