-- No bit differs exactly when the bytes are the same: an or is 0 only of zeros, and an xor only of equals. Assumes nothing.
use mathlib.Core.Path.{◌≡◌, refl, ap, sym, ◌∙◌}
use mathlib.Core.Bool.{Bool, true, false}
use mathlib.Core.List.{List, [], ◌∷◌}
use mathlib.Core.Logic.{⊎_elim}
use Prim.Native.Nat.{ℕ, zero, suc, ◌<◌}
use native.Mathlib.Nat.{not-suc-le-zero, le_of_suc-le-suc, eq-or-lt_of_le}
use native.Mathlib.Omega.{arith}
use borrow.Author.Tests.{eq-eqb, ne_eqb, eqb-true}
use lib.Bits.{bit_or, bit_xor, or_add_and, xor_add_and, and_le_l, and_le_r, xor_self}
use lib.Dec.{eqb}
use lib.ListN.{length, get_or}
use lib.Seq.{ext_get_or}
use Rattle.words.specs.Choice.{pick}
use Rattle.words.proofs.Choice.{never, both}
use Rattle.compare.specs.Compare.{same_bytes, differences}

pub xor-none : (x y : ℕ) → bit_xor x y ≡ 0 → x ≡ y
xor-none x y e = omega (arith, xor_add_and x y, and_le_l x y, and_le_r x y)

pub or_none_l : (x y : ℕ) → bit_or x y ≡ 0 → x ≡ 0
or_none_l x y e = omega (arith, or_add_and x y, and_le_l x y, and_le_r x y)

pub or_none_r : (x y : ℕ) → bit_or x y ≡ 0 → y ≡ 0
or_none_r x y e = omega (arith, or_add_and x y, and_le_l x y, and_le_r x y)

-- no bit differs in a list and itself
pub none_differs : (n : ℕ) (a : List ℕ) → differences n a a ≡ 0
unfolding differences
none_differs zero a = refl
none_differs (suc n) a = rw (none_differs n a, xor_self (get_or a n 0))

-- where no bit differs, each byte is the same
each_same : (n : ℕ) (a b : List ℕ) → differences n a b ≡ 0 → (i : ℕ) → i < n → get_or a i 0 ≡ get_or b i 0
unfolding differences
each_same zero a b e i h = absurd (not-suc-le-zero h)
each_same (suc n) a b e i h =
    ⊎_elim (λ p. rw p (xor-none (get_or a n 0) (get_or b n 0) (or_none_r (differences n a b) _ e)))
    (λ l. each_same n a b (or_none_l _ (bit_xor (get_or a n 0) (get_or b n 0)) e) i l)
    (eq-or-lt_of_le (le_of_suc-le-suc h))

-- so that the lists are equal
pub none_equal : (n : ℕ) (a b : List ℕ) → length a ≡ n → length b ≡ n → differences n a b ≡ 0 → a ≡ b
none_equal n a b la lb none = ext_get_or 0 a b (la ∙ sym lb) (λ i h. each_same n a b none i (rw la at h))

-- a list is the same as itself
pub same_self : (a : List ℕ) → same_bytes a a ≡ true
unfolding same_bytes pick
same_self [] = refl
same_self (x ∷ a) = rw (eq-eqb x x refl, same_self a)

-- lists that are the same are equal
pub same_equal : (a b : List ℕ) → same_bytes a b ≡ true → a ≡ b
unfolding same_bytes
same_equal [] [] e = refl
same_equal [] (y ∷ b) e = absurd (never e)
same_equal (x ∷ a) [] e = absurd (never e)
same_equal (x ∷ a) (y ∷ b) e =
    let parts = both (eqb x y) (same_bytes a b) e in
    rw (eqb-true x y parts.0, same_equal a b parts.1)

-- a number that is 0 exactly where two lists are equal says whether they are the same
module _ (x : ℕ) (a b : List ℕ) (to : x ≡ 0 → a ≡ b) (from : a ≡ b → x ≡ 0) where
  by_answer : (s : Bool) → same_bytes a b ≡ s → eqb x 0 ≡ s
  by_answer true e = eq-eqb x 0 (from (same_equal a b e))
  by_answer false e = ne_eqb x 0 (λ none. never (sym e ∙ rw (to none) (same_self b)))

  pub decides : eqb x 0 ≡ same_bytes a b
  decides = by_answer (same_bytes a b) refl

module _ (a b : List ℕ) where
  pub agree : length a ≡ length b → eqb (differences (length a) a b) 0 ≡ same_bytes a b
  agree l = decides _ a b (none_equal (length a) a b refl (sym l)) (λ e. rw e (none_differs (length b) b))

  other_length : (s : Bool) → same_bytes a b ≡ s → (length a ≡ length b → ⊥) → same_bytes a b ≡ false
  other_length true e ne = absurd (ne (ap length (same_equal a b e)))
  other_length false e ne = e

  pub lengths : (length a ≡ length b → ⊥) → same_bytes a b ≡ false
  lengths = other_length (same_bytes a b) refl
