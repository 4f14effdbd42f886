-- The outcome of checks that a status tells: no two failures post one status, and none posts 0. Assumes nothing.
use mathlib.Core.Path.{◌≡◌, refl, ap, sym, ◌∙◌}
use Rattle.std.specs.Prelude.{ℕ, ◌/◌, Result, Ok, Err, [], ◌∷◌, get_or, eqb, false}
use Rattle.checks.specs.declared.Failure.{Failure}
use Rattle.checks.specs.declared.Failure.TheVariants.{WrongState, WrongFrame, NoCounter, NotReady, WrongData, Fatal}
use Rattle.checks.specs.Failures.{status, status_of}

-- the outcome of a status; all are even
outcome_of : ℕ → Result (Unit {0}) Failure
outcome_of n =
    get_or
    (Ok tt
    ∷ Err WrongState
    ∷ Err WrongFrame
    ∷ Err NoCounter
    ∷ Err NotReady
    ∷ Ok tt
    ∷ Ok tt
    ∷ Ok tt
    ∷ Err WrongData
    ∷ [])
    (n / 2) (Err Fatal)

outcome_back : (x : Result (Unit {0}) Failure) → outcome_of (status_of x) ≡ x
unfolding outcome_of
outcome_back (Ok _) = refl
outcome_back (Err WrongState) = refl
outcome_back (Err WrongFrame) = refl
outcome_back (Err NoCounter) = refl
outcome_back (Err NotReady) = refl
outcome_back (Err WrongData) = refl
outcome_back (Err Fatal) = refl

pub one_outcome : (x y : Result (Unit {0}) Failure) → status_of x ≡ status_of y → x ≡ y
one_outcome x y e = sym (outcome_back x) ∙ ap outcome_of e ∙ outcome_back y

-- no failure posts 0
pub posts : (failure : Failure) → eqb (status failure) 0 ≡ false
posts WrongState = refl
posts WrongFrame = refl
posts NoCounter = refl
posts NotReady = refl
posts WrongData = refl
posts Fatal = refl
