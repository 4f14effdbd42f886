-- What a table's answer says of its rows. If the answer is none of those that stand in the rows, then no row holds, whichever is
-- asked for: this is the one inversion of every list of checks, refusals and verdicts. Assumes nothing.
use Prim.Native.Nat.{ℕ, zero, suc}
use mathlib.Core.Path.{◌≡◌, refl, sym}
use mathlib.Core.Bool.{Bool, true, false}
use mathlib.Core.List.{List, [], ◌∷◌, ◌++◌}
use lib.Dec.{eqb}
use Rattle.words.specs.Choice.{pick, or_else}
use Rattle.words.specs.Rows.{Row, first_of, first_failing, any_of}
use Rattle.words.proofs.Choice.{never}

-- the test of row i; past the last row none holds
abbrev pub holds_at : {A : Type 0} → List (Row A) → ℕ → Bool
holds_at [] i = false
holds_at (row ∷ more) zero = row.holds
holds_at (row ∷ more) (suc i) = holds_at more i

-- test i of several
abbrev pub test_at : List Bool → ℕ → Bool
test_at [] i = false
test_at (test ∷ more) zero = test
test_at (test ∷ more) (suc i) = test_at more i

-- no answer of the rows is one of these
abbrev pub none_is : {A : Type 0} → (A → Bool) → List (Row A) → Bool
none_is is [] = true
none_is is (row ∷ more) = pick (is row.answer) false (none_is is more)

-- a test that fails, and what stands behind it
first_fails : (t rest : Bool) → pick t false rest ≡ true → t ≡ false
unfolding pick
first_fails true rest e = absurd (never e)
first_fails false rest e = refl

rest_holds : (t rest : Bool) → pick t false rest ≡ true → rest ≡ true
unfolding pick
rest_holds true rest e = absurd (never e)
rest_holds false rest e = e

-- the answer is one that no row has: the test of a row fails, and the answer is that of the rows behind it
row_fails :
    {A : Type 0} (is : A → Bool) (answer after : A) (rest t : Bool) → pick (is answer) false rest ≡ true →
    is (pick t answer after) ≡ true → (t ≡ false) × (is after ≡ true)
unfolding pick
row_fails is answer after rest true n e = absurd (never (rw e at n))
row_fails is answer after rest false n e = (refl, e)

pub none_holds :
    {A : Type 0} (is : A → Bool) (rows : List (Row A)) (last : A) → none_is is rows ≡ true → is (first_of rows last) ≡ true →
    (i : ℕ) → holds_at rows i ≡ false
unfolding first_of
none_holds is [] last n e i = refl
none_holds is (row ∷ more) last n e zero =
    (row_fails is row.answer (first_of more last) (none_is is more) row.holds n e).0
none_holds is (row ∷ more) last n e (suc i) =
    none_holds is more last (rest_holds (is row.answer) (none_is is more) n)
    (row_fails is row.answer (first_of more last) (none_is is more) row.holds n e).1 i

-- the same of numbers that are not 0, where the answer is 0
abbrev pub is_zero : ℕ → Bool
is_zero n = eqb n 0

abbrev pub named : List (Row ℕ) → Bool
named rows = none_is is_zero rows

pub none_fails : (rows : List (Row ℕ)) → named rows ≡ true → first_failing rows ≡ 0 → (i : ℕ) → holds_at rows i ≡ false
none_fails rows n e i = none_holds is_zero rows 0 n (rw e) i

pub no_test : (tests : List Bool) → any_of tests ≡ false → (i : ℕ) → test_at tests i ≡ false
unfolding any_of pick
no_test [] e i = refl
no_test (true ∷ more) e i = absurd (never (sym e))
no_test (false ∷ more) e zero = refl
no_test (false ∷ more) e (suc i) = no_test more e i

-- two tables, one behind the other
append_by :
    (t : Bool) (number after later : ℕ) → eqb number 0 ≡ false → pick t number (or_else after later) ≡ or_else (pick t number after) later
unfolding pick
append_by true number after later e = rw e
append_by false number after later e = refl

none_first : (n : ℕ) → n ≡ or_else 0 n
unfolding pick
none_first n = refl

pub first-append :
    (rows more : List (Row ℕ)) → named rows ≡ true → first_failing (rows ++ more) ≡ or_else (first_failing rows) (first_failing more)
unfolding first_of
first-append [] more n = none_first (first_failing more)
first-append (row ∷ rows) more n =
    rw (first-append rows more (rest_holds (is_zero row.answer) (named rows) n))
    (append_by row.holds row.answer (first_failing rows) (first_failing more) (first_fails (is_zero row.answer) (named rows) n))
