-- A job that runs is there and has a step left, and where there is no job none runs. Assumes nothing.
use Prim.Native.Nat.{◌<◌}
use mathlib.Core.Path.{◌≡◌}
use mathlib.Core.Bool.{true, false}
use borrow.Author.Tests.{ltb-true}
use Rattle.words.specs.Choice.{pick}
use Rattle.words.proofs.Choice.{both}
use Rattle.jobs.specs.Jobs.{length_of}
use Rattle.state.specs.declared.State.{State}
use Rattle.state.specs.Refusal.{is_running}

pub running_there : (s : State) → is_running s ≡ true → s.job.there ≡ true
unfolding is_running
running_there s e = (both s.job.there _ e).0

pub step_left : (s : State) → is_running s ≡ true → s.job.step < length_of s.job.kind
unfolding is_running
step_left s e = ltb-true _ _ (both s.job.there _ e).1

-- no job, none that runs
pub no_job_idle : (s : State) → s.job.there ≡ false → is_running s ≡ false
unfolding is_running pick
no_job_idle s e = rw e
