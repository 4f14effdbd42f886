-- The laws of `pick` and `or_else`. Assumes nothing.
use Prim.Native.Nat.{ℕ}
use mathlib.Core.Path.{◌≡◌, refl, sym, ◌∙◌, subst}
use mathlib.Core.Bool.{Bool, true, false}
use borrow.Author.Tests.{eqb-true, eq-eqb}
use lib.Dec.{T, eqb}
use Rattle.words.specs.Choice.{pick, or_else}

pub never : false ≡ true → ⊥
never e = subst T (sym e) tt

-- the second test is made only where the first holds
pub both : (s t : Bool) → pick s t false ≡ true → (s ≡ true) × (t ≡ true)
unfolding pick
both true t e = (refl, e)
both false t e = absurd (never e)

-- where the first holds and not both do, the second does not
pub not_both : (s t : Bool) → pick s t false ≡ false → s ≡ true → t ≡ false
unfolding pick
not_both true t e first = e
not_both false t e first = absurd (never first)

-- what holds of both, each where its test leads to it, holds of the one picked
pub either :
    {A : Type 0} (P : A → Type 0) (t : Bool) (a b : A) → (t ≡ true → P a) → (t ≡ false → P b) → P (pick t a b)
unfolding pick
either P true a b f g = f refl
either P false a b f g = g refl

-- of two numbers, one told after the other: the first where it is not 0, else the second
pub first_told : (first second : ℕ) → eqb first 0 ≡ false → first ≡ or_else first second
unfolding pick
first_told first second e = rw e

pub second_told : (first second : ℕ) → first ≡ 0 → second ≡ or_else first second
unfolding pick
second_told first second e = rw e

-- of two numbers one of which is told, both are 0 where 0 is told
or_zero_by : (a b : ℕ) (t : Bool) → eqb a 0 ≡ t → pick t b a ≡ 0 → (a ≡ 0) × (b ≡ 0)
unfolding pick
or_zero_by a b true e z = (eqb-true a 0 e, z)
or_zero_by a b false e z = absurd (never (sym e ∙ eq-eqb a 0 z))

pub or_zero : (a b : ℕ) → or_else a b ≡ 0 → (a ≡ 0) × (b ≡ 0)
or_zero a b z = or_zero_by a b _ refl z

-- the second, where the test fails
pub otherwise : {A : Type 0} (t : Bool) (x y : A) → t ≡ false → pick t x y ≡ y
unfolding pick
otherwise true x y e = absurd (never (sym e))
otherwise false x y e = refl

-- what holds only where it holds already does not hold anew
pub same_not_new : (x : Bool) → pick x false x ≡ false
unfolding pick
same_not_new true = refl
same_not_new false = refl
