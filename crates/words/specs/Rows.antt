-- A table read from its first row down: the first row whose test holds gives the answer. Assumes nothing.
use Rattle.std.specs.Prelude.{ℕ, Bool, true, false, List, [], ◌∷◌}
use Rattle.words.specs.Choice.{pick}

-- a row: what is asked, and the answer if it holds
pub record Row (A : Type 0) : Type 0 where
  pub holds : Bool
  pub answer : A

infix 25 ◌gives◌
abbrev pub ◌gives◌ : {A : Type 0} → Bool → A → Row A
test gives answer = record { holds = test; answer = answer }

-- the answer of the first row that holds, or the one behind the last row
unfoldable pub first_of : {A : Type 0} → List (Row A) → A → A
first_of [] last = last
first_of (row ∷ more) last = pick row.holds row.answer (first_of more last)

-- rows that say what fails, with a number each: a refusal's, or a status; 0 where none fails
abbrev pub first_failing : List (Row ℕ) → ℕ
first_failing rows = first_of rows 0

-- a row with several tests: one of them holds
unfoldable pub any_of : List Bool → Bool
any_of [] = false
any_of (test ∷ more) = pick test true (any_of more)
