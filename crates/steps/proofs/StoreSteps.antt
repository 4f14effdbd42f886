-- A step that stores: it makes the store of its number and no other change, so the stores so far are one more. By the two tests that a
-- step makes. Assumes nothing.
use Rattle.std.proofs.Common.{◌≡◌, ℕ, suc, ◌+◌, ◌-◌, ◌<◌, true, false, List, length, take, ◌∙◌, arith}
use Rattle.words.specs.Choice.{pick}
use Rattle.jobs.specs.Jobs.{command_of, hash_steps}
use Rattle.jobs.specs.declared.Kind.{Kind}
use Rattle.state.specs.declared.State.{State}
use Rattle.state.specs.Refusal.{is_running}
use Rattle.plan.specs.Stores.{stores, store_of}
use Rattle.plan.specs.Storing.{stored, all_stored}
use Rattle.plan.proofs.Plans.{stored_more}
use Rattle.steps.specs.Ending.{advanced}
use Rattle.steps.specs.Step.{is_hash, store_now, step_state, step_image}

-- the image after a step: as it was, or with one store more
pub step_image_lem : (image : List ℕ) (s : State) → is_running s ≡ true → step_image image s ≡ pick (is_hash s.job) image (stored image s.job.counter (store_now s.job))
unfolding step_image pick
step_image_lem image s runs = rw runs

-- a step that is no block stores a word, and no more
pub store_image : (image : List ℕ) (s : State) → is_running s ≡ true → is_hash s.job ≡ false → step_image image s ≡ stored image s.job.counter (store_now s.job)
unfolding step_image pick
store_image image s runs no_block = rw (runs, no_block)

pub store_state : (image : List ℕ) (s : State) → is_running s ≡ true → is_hash s.job ≡ false → step_state image s ≡ advanced s
unfolding step_state pick
store_state image s runs no_block = rw (runs, no_block)

-- a step that is no block makes the store of its number: the stores so far are one more
pub one_more :
    (kind : Kind) (c : ℕ) (frame image now : List ℕ) (s : State) (j : ℕ) → s.job.kind ≡ kind → s.job.counter ≡ c →
    s.job.frame ≡ frame → s.job.step ≡ hash_steps (command_of kind) + j → is_running s ≡ true → is_hash s.job ≡ false →
    j < length (stores kind frame s.job.kept) → now ≡ all_stored (take j (stores kind frame s.job.kept)) image c →
    step_image now s ≡ all_stored (take (suc j) (stores kind frame s.job.kept)) image c
unfolding store_of
one_more kind c frame image now s j is-kind is-counter is-frame is-step runs no_block left so_far =
    let place : hash_steps (command_of kind) + j - hash_steps (command_of kind) ≡ j = omega arith in
    store_image now s runs no_block
    ∙ rw (stored_more (stores kind frame s.job.kept) j image c left, ← so_far, is-counter, is-kind, is-frame, is-step, place)
