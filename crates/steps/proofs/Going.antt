-- A job goes on: a step that is not the last of its kind leaves the job there, but for the step of a check that fails. Assumes nothing.
use Rattle.std.proofs.Common.{◌≡◌, ℕ, ◌+◌, true, false, eqb, List, ap, ◌∙◌}
use Rattle.words.specs.Choice.{pick}
use Rattle.words.proofs.Choice.{either}
use Rattle.jobs.specs.Jobs.{command_of, signature_steps}
use Rattle.state.specs.declared.State.{State}
use Rattle.state.specs.Refusal.{is_running}
use Rattle.state.proofs.Running.{running_there}
use Rattle.signing.specs.Hashed.{with_block, hashed}
use Rattle.steps.specs.Ending.{with_step, is_last, advanced}
use Rattle.steps.specs.Deciding.{with_kept, hash_step}
use Rattle.steps.specs.Step.{is_hash, step_state}
use Rattle.steps.proofs.Advancing.{on_from}
use Rattle.steps.proofs.AfterCheck.{passed}

-- one more step is done, not the last
advanced_there : (s : State) → is_last s ≡ false → (advanced s).job.there ≡ s.job.there
unfolding with_step
advanced_there s more = ap (λ (t : State). t.job.there) (on_from s more)

-- after a check that passed
pub passed_there : (s : State) (value : ℕ) → is_last s ≡ false → (passed s value).job.there ≡ s.job.there
unfolding with_kept
passed_there s value more = advanced_there (with_kept s _) more

-- a step in which no check is made
pub step_there :
    (image : List ℕ) (s : State) → is_running s ≡ true → is_last s ≡ false →
    eqb (s.job.step + 1) (signature_steps (command_of s.job.kind)) ≡ false → (step_state image s).job.there ≡ true
unfolding step_state hash_step hashed with_block pick
step_there image s runs more unchecked =
    rw (runs, unchecked)
    (either (λ (t : State). t.job.there ≡ true) (is_hash s.job) _ _
    (λ _. advanced_there (hashed s) more ∙ running_there s runs)
    (λ _. advanced_there s more ∙ running_there s runs))
