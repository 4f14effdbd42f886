-- The two ends of a build: refused, and the output is as it was; or built, and what the call was handed was right. Assumes nothing.
use Prim.Native.Nat.{ℕ, ◌≤◌}
use mathlib.Core.Path.{◌≡◌, refl, sym, ◌∙◌}
use mathlib.Core.List.{List}
use borrow.Author.Tests.{ltb-false, eqb-true, not-false, eq-eqb, ne_eqb}
use Rattle.words.specs.Choice.{pick}
use Rattle.words.proofs.Rows.{none_fails, no_test}
use Rattle.host.specs.Building.{build_refusals, build_refusal, built, Answers}

pub accepted :
    (counter key given needed room size : ℕ) → build_refusal counter key given needed room size ≡ 0 →
    (counter ≤ 3) × (key ≡ 32) × (given ≡ needed) × (size ≤ room)
unfolding build_refusal pick
accepted counter key given needed room size z =
    let row = none_fails (build_refusals counter key given needed room size) refl z in
    let lengths = no_test _ (row 1) in (
      ltb-false 3 counter (row 0),
      eqb-true key 32 (not-false _ (lengths 0)),
      eqb-true given needed (not-false _ (lengths 1)),
      ltb-false room size (row 2),
    )

-- a number that is not 0 is told, and the output is left
pub left_as_found :
    (told number : ℕ) (filled output : List ℕ) → told ≡ number → (told ≡ 0 → ⊥) →
    Answers (built number filled output) told output
unfolding pick
left_as_found told number filled output e refused = (e, rw (← e, ne_eqb told 0 refused))

-- where no refusal is given, 0 is told, and the output is what it was filled with
pub filled_as_built :
    (told number : ℕ) (filled output after : List ℕ) → told ≡ number → told ≡ 0 → after ≡ filled →
    Answers (built number filled output) 0 after
unfolding pick
filled_as_built told number filled output after e zero done = (sym zero ∙ e, rw (← e, eq-eqb told 0 zero) done)
