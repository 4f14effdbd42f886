-- What an increment that no check fails has met: its signature verifies, its data is the value, and the value is not at its end.
-- Assumes nothing.
use Prim.Native.Nat.{ℕ}
use mathlib.Core.Path.{◌≡◌, refl}
use mathlib.Core.Bool.{false}
use mathlib.Core.List.{List}
use borrow.Author.Tests.{eqb-true, eqb-false, not-false}
use Rattle.words.specs.Choice.{pick}
use Rattle.words.specs.Rows.{Row}
use Rattle.words.specs.Words.{word_or0}
use Rattle.words.proofs.Rows.{none_fails}
use Rattle.jobs.specs.declared.Command.TheVariants.{IncrementCounter}
use Rattle.decision.specs.Decision.{last_checks_of, decision}
use Rattle.rules.specs.Whole.{Outcome, frame_kept, value_in, signature, Verifies, last_status}

module _ (o : Outcome) (frame : List ℕ) (passed : last_status IncrementCounter o frame ≡ 0) where
  abbrev rows : List (Row ℕ)
  rows = last_checks_of IncrementCounter (frame_kept frame) (signature IncrementCounter o frame) (value_in o frame)

  row : (i : ℕ) → Rattle.words.proofs.Rows.holds_at rows i ≡ false
  unfolding last_status decision pick
  row = none_fails rows refl passed

  pub signature_verified : Verifies IncrementCounter o frame
  unfolding pick
  signature_verified = not-false _ (row 1)

  pub data_was_the_value : word_or0 (frame_kept frame) 4 ≡ value_in o frame
  unfolding pick
  data_was_the_value = eqb-true _ _ (not-false _ (row 2))

  pub not_at_its_end : value_in o frame ≡ 0xFFFFFFFF → ⊥
  unfolding pick
  not_at_its_end = eqb-false _ _ (row 3)
