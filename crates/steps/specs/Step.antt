-- Document 01, "Steps": one step is one SHA-256 block or one aligned image word stored. Assumes nothing.
use Rattle.std.specs.Prelude.{ℕ, ◌-◌, Bool, List, nat_lt}
use Rattle.words.specs.Choice.{pick}
use Rattle.jobs.specs.Jobs.{command_of, hash_steps}
use Rattle.plan.specs.declared.Store.{Store}
use Rattle.plan.specs.Stores.{store_of}
use Rattle.plan.specs.Storing.{stored}
use Rattle.state.specs.declared.Job.{Job}
use Rattle.state.specs.declared.State.{State}
use Rattle.state.specs.Refusal.{is_running}
use Rattle.steps.specs.Ending.{advanced}
use Rattle.steps.specs.Deciding.{hash_step}

-- the job's next step is a block
abbrev pub is_hash : Job → Bool
is_hash job = nat_lt job.step (hash_steps (command_of job.kind))

-- the word that the job's next step stores
abbrev pub store_now : Job → Store
store_now job = store_of job.kind (job.step - hash_steps (command_of job.kind)) job.frame job.kept

-- the state after a step; idle, nothing changes
unfoldable pub step_state : List ℕ → State → State
step_state image s = pick (is_running s) (pick (is_hash s.job) (hash_step image s) (advanced s)) s

-- the image after a step
unfoldable pub step_image : List ℕ → State → List ℕ
step_image image s = pick (is_running s) (pick (is_hash s.job) image (stored image s.job.counter (store_now s.job))) image
