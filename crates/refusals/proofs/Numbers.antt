-- The outcome that a number tells: no two refusals have one number. Assumes nothing.
use mathlib.Core.Path.{◌≡◌, refl, ap, sym, ◌∙◌}
use Rattle.std.specs.Prelude.{ℕ, [], ◌∷◌, Result, Ok, Err, get_or, eqb, false}
use Rattle.refusals.specs.declared.Refusal.{Refusal}
use Rattle.refusals.specs.declared.Refusal.TheVariants.{
  ImageLength,
  CounterCount,
  Layout,
  Job,
  CounterNumber,
  InputLength,
  OutputLength,
  ReplyLength,
  MessageLength,
}
use Rattle.refusals.specs.Numbers.{number, number_of}

-- the outcome of a number, of a call that answers a where it is done
pub outcome_of : {A : Type 0} → A → ℕ → Result A Refusal
outcome_of a n =
    get_or
    (Ok a
    ∷ Err ImageLength
    ∷ Err CounterCount
    ∷ Err Layout
    ∷ Err Job
    ∷ Err CounterNumber
    ∷ Err InputLength
    ∷ Err OutputLength
    ∷ Err ReplyLength
    ∷ Ok a
    ∷ Ok a
    ∷ Err MessageLength
    ∷ [])
    n (Ok a)

pub outcome_done : {A : Type 0} (a : A) → outcome_of a 0 ≡ Ok a
unfolding outcome_of
outcome_done a = refl

pub outcome_refused : {A : Type 0} (a : A) (refusal : Refusal) → outcome_of a (number refusal) ≡ Err refusal
unfolding outcome_of
outcome_refused a ImageLength = refl
outcome_refused a CounterCount = refl
outcome_refused a Layout = refl
outcome_refused a Job = refl
outcome_refused a CounterNumber = refl
outcome_refused a InputLength = refl
outcome_refused a OutputLength = refl
outcome_refused a ReplyLength = refl
outcome_refused a MessageLength = refl

pub outcome_back : (x : Result (Unit {0}) Refusal) → outcome_of tt (number_of x) ≡ x
outcome_back (Ok _) = outcome_done tt
outcome_back (Err refusal) = outcome_refused tt refusal

-- where nothing is answered but that it is done, the number tells the outcome
pub one_outcome : (x y : Result (Unit {0}) Refusal) → number_of x ≡ number_of y → x ≡ y
one_outcome x y e = sym (outcome_back x) ∙ ap (outcome_of tt) e ∙ outcome_back y

-- no refusal has number 0
pub numbered : (refusal : Refusal) → eqb (number refusal) 0 ≡ false
numbered ImageLength = refl
numbered CounterCount = refl
numbered Layout = refl
numbered Job = refl
numbered CounterNumber = refl
numbered InputLength = refl
numbered OutputLength = refl
numbered ReplyLength = refl
numbered MessageLength = refl
