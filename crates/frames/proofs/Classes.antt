-- A frame is of a class exactly when it has document 01's numbers for it. Assumes nothing.
use Prim.Native.Nat.{ℕ, suc, ◌<◌}
use mathlib.Core.Path.{◌≡◌, refl}
use mathlib.Core.List.{List, [], ◌∷◌}
use native.Mathlib.Omega.{arith}
use borrow.Author.Tests.{ltb-true, ltb-false, eqb-true, eqb-false, lt-ltb, ne_eqb}
use lib.ListN.{length, get_or}
use Rattle.words.specs.Choice.{pick}
use Rattle.words.proofs.Choice.{either}
use Rattle.frames.specs.declared.Class.{Class}
use Rattle.frames.specs.declared.Class.TheVariants.{Empty, EnableReset, Reset, Read, Unnamed, CommandFrame}
use Rattle.frames.specs.Classes.{named_class, class_of, Numbers, FrameOf}

numbers_named : (first size : ℕ) → 0 < size → Numbers (named_class first size) first size
unfolding named_class
numbers_named first size some =
    let P : Class → Type 0 = λ c. Numbers c first size in
    either P _ _ _
    (λ f. let e = eqb-true first 0x66 f in
    either P _ _ _ (λ s. (e, eqb-true size 1 s))
    (λ s. (some, λ _ n. eqb-false size 1 s n, λ b _. omega (arith, e, b), λ b _. omega (arith, e, b), λ b. absurd (omega (arith, e, b)))))
    (λ f₁. either P _ _ _
    (λ f. let e = eqb-true first 0x99 f in
    either P _ _ _ (λ s. (e, eqb-true size 1 s))
    (λ s. (some, λ b _. omega (arith, e, b), λ _ n. eqb-false size 1 s n, λ b _. omega (arith, e, b), λ b. absurd (omega (arith, e, b)))))
    (λ f₂. either P _ _ _
    (λ f. let e = eqb-true first 0x96 f in
    either P _ _ _ (λ s. (e, eqb-true size 2 s))
    (λ s. (some, λ b _. omega (arith, e, b), λ b _. omega (arith, e, b), λ _ n. eqb-false size 2 s n, λ b. absurd (omega (arith, e, b)))))
    (λ f₃. either P _ _ _
    (λ f. let e = eqb-true first 0x9B f in
    either P _ _ _ (λ s. (e, omega (arith, ltb-true 1 size s)))
    (λ s. (some, λ b _. omega (arith, e, b), λ b _. omega (arith, e, b), λ b _. omega (arith, e, b), λ _. omega (arith, some, ltb-false 1 size s))))
    (λ f₄. (
      some,
      λ b _. eqb-false first 0x66 f₁ b,
      λ b _. eqb-false first 0x99 f₂ b,
      λ b _. eqb-false first 0x96 f₃ b,
      λ b. absurd (eqb-false first 0x9B f₄ b),
    )))))

-- a frame has the numbers of its class
pub numbers_kept : (frame : List ℕ) → FrameOf (class_of frame) frame
unfolding class_of pick
numbers_kept [] = refl
numbers_kept (first ∷ more) =
    rw (ne_eqb (suc (length more)) 0 (λ e. omega (arith, e))) (numbers_named first (suc (length more)) (omega arith))

-- and of no other
unnamed_only : (first size : ℕ) → Numbers Unnamed first size → named_class first size ≡ Unnamed
unfolding named_class
unnamed_only first size n =
    let P : Class → Type 0 = λ c. c ≡ Unnamed in
    either P _ _ _
    (λ f. either P _ _ _ (λ s. absurd (n.1 (eqb-true first 0x66 f) (eqb-true size 1 s))) (λ _. refl))
    (λ _. either P _ _ _
    (λ f. either P _ _ _ (λ s. absurd (n.2 (eqb-true first 0x99 f) (eqb-true size 1 s))) (λ _. refl))
    (λ _. either P _ _ _
    (λ f. either P _ _ _ (λ s. absurd (n.3 (eqb-true first 0x96 f) (eqb-true size 2 s))) (λ _. refl))
    (λ _. either P _ _ _
    (λ f. either P _ _ _ (λ s. absurd (omega (arith, ltb-true 1 size s, n.4 (eqb-true first 0x9B f)))) (λ _. refl))
    (λ _. refl))))

pub class_by_numbers : (class : Class) (frame : List ℕ) → FrameOf class frame → class_of frame ≡ class
unfolding class_of named_class pick
class_by_numbers Empty frame n = rw n
class_by_numbers EnableReset frame n = rw (n.0, n.1)
class_by_numbers Reset frame n = rw (n.0, n.1)
class_by_numbers Read frame n = rw (n.0, n.1)
class_by_numbers CommandFrame frame n =
    rw (n.0, ne_eqb (length frame) 0 (λ e. omega (arith, e, n.1)), lt-ltb 1 (length frame) (omega (arith, n.1)))
class_by_numbers Unnamed frame n =
    rw (ne_eqb (length frame) 0 (λ e. omega (arith, e, n.0))) (unnamed_only (get_or frame 0 0) (length frame) n)
