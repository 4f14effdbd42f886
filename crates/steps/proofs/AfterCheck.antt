-- A job after its check: it goes on where no check fails, and else has ended with that check's status. By the test that `decided`
-- makes. Assumes nothing.
use Rattle.std.proofs.Common.{◌≡◌, ℕ, true, false, eqb}
use Rattle.words.specs.Choice.{pick}
use Rattle.jobs.specs.Jobs.{command_of}
use Rattle.state.specs.declared.State.{State}
use Rattle.state.specs.Parts.{posted}
use Rattle.steps.specs.Ending.{advanced}
use Rattle.steps.specs.Deciding.{with_kept, decision_of, decided}
use Rattle.rules.specs.Whole.{kept_after}

-- the state that goes on after a check that passed
abbrev pub passed : State → ℕ → State
passed s value = advanced (with_kept s (kept_after (command_of s.job.kind) s.job.kept value))

pub decided_good : (s : State) (value v : ℕ) → decision_of s value ≡ v → eqb v 0 ≡ true → decided s value ≡ passed s value
unfolding decided pick
decided_good s value v e good = rw (e, good)

pub decided_bad : (s : State) (value v : ℕ) → decision_of s value ≡ v → eqb v 0 ≡ false → decided s value ≡ posted s v
unfolding decided pick
decided_bad s value v e bad = rw (e, bad)
