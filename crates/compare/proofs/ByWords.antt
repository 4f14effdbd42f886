-- Bytes compared a word at a time: whole words are equal exactly where their bytes are. Assumes nothing.
use mathlib.Core.Path.{◌≡◌, sym, ap, ◌∙◌}
use mathlib.Core.List.{List, ◌∷◌}
use Prim.Native.Nat.{ℕ, ◌*◌}
use lib.Bits.{bit_or, bit_xor, xor_self}
use lib.Dec.{eqb}
use lib.ListN.{length}
use Rattle.words.specs.Words.{Bytes, words_of}
use Rattle.words.proofs.Back.{bytes_back}
use Rattle.compare.specs.Compare.{same_bytes, differences}
use Rattle.compare.proofs.Agree.{xor-none, or_none_l, or_none_r, none_differs, none_equal, decides}

-- a first element, compared apart from the others
module _ (n w v : ℕ) (a b : List ℕ) where
  pub first_equal : length a ≡ n → length b ≡ n → bit_or (bit_xor w v) (differences n a b) ≡ 0 → w ∷ a ≡ v ∷ b
  first_equal la lb none =
      rw (xor-none w v (or_none_l _ (differences n a b) none), none_equal n a b la lb (or_none_r (bit_xor w v) _ none))

  pub first-none : w ∷ a ≡ v ∷ b → bit_or (bit_xor w v) (differences n a b) ≡ 0
  first-none e =
      let first : w ≡ v = cc in
      let others : a ≡ b = cc in
      rw (first, others, xor_self v, none_differs n b)

-- a number that is 0 exactly where the words are equal says whether the bytes are the same
pub words_decide :
    (n : ℕ) (a b : List ℕ) → length a ≡ 4 * n → length b ≡ 4 * n → Bytes a → Bytes b → (x : ℕ) →
    (x ≡ 0 → words_of n a ≡ words_of n b) → (words_of n a ≡ words_of n b → x ≡ 0) → eqb x 0 ≡ same_bytes a b
words_decide n a b la lb bytes-a bytes-b x to from =
    decides x a b (λ none. sym (bytes_back a bytes-a n la) ∙ rw (to none) (bytes_back b bytes-b n lb)) (λ e. from (ap (words_of n) e))
