-- Document 01, "Steps": the work call takes a quota of steps and reports the steps done. Assumes nothing.
use Rattle.std.specs.Prelude.{ℕ, zero, suc, min, List}
use Rattle.words.specs.Choice.{pick}
use Rattle.jobs.specs.Jobs.{longest}
use Rattle.state.specs.declared.State.{State}
use Rattle.state.specs.Refusal.{is_running}
use Rattle.steps.specs.Step.{step_state, step_image}

-- a device: the image and the state
pub record Device : Type 0 where
  pub image : List ℕ
  pub state : State

-- one step
unfoldable pub stepped : Device → Device
stepped d = record { image = step_image d.image d.state; state = step_state d.image d.state }

-- n steps
unfoldable pub run : ℕ → Device → Device
run zero d = d
run (suc n) d = stepped (run n d)

-- the steps until no job runs, at most n
unfoldable pub within : ℕ → Device → ℕ
within zero d = 0
within (suc n) d = pick (is_running d.state) (suc (within n (stepped d))) 0

-- the steps left: busy clears after at most as many steps as the longest job has
unfoldable pub steps_left : Device → ℕ
steps_left d = within longest d

-- the smaller of the quota and the steps left
abbrev pub steps_done : ℕ → Device → ℕ
steps_done quota d = min quota (steps_left d)
