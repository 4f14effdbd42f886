-- The steps after the blocks make the plan's stores, one each and in order, and the last of them ends the job. By one induction over
-- the stores made: each step makes the store of its number, and goes on or ends. A job without stores has ended at once. Assumes
-- nothing.
use Prim.Native.Nat.{ℕ, zero, suc, ◌+◌, ◌-◌, ◌≤◌, ◌<◌}
use mathlib.Core.Path.{◌≡◌, refl, ap, ap₂, ◌∙◌}
use mathlib.Core.Bool.{true, false}
use mathlib.Core.List.{List}
use native.Mathlib.Omega.{arith}
use borrow.Author.Tests.{lt-ltb, le-ltb, eq-eqb, ne_eqb}
use lib.ListN.{length, take}
use lib.Seq.{take-length}
use Rattle.words.specs.Choice.{pick}
use Rattle.jobs.specs.Jobs.{length_of, command_of, hash_steps}
use Rattle.jobs.specs.declared.Command.{Command}
use Rattle.state.specs.declared.State.{State}
use Rattle.state.specs.Refusal.{is_running}
use Rattle.plan.specs.declared.Store.{Store}
use Rattle.plan.specs.Stores.{stores}
use Rattle.plan.specs.Storing.{all_stored}
use Rattle.plan.proofs.Plans.{plan-length}
use Rattle.steps.specs.Ending.{with_step, finished_by, advanced}
use Rattle.steps.specs.Step.{is_hash, step_image}
use Rattle.steps.proofs.Advancing.{on_from, end_from, finished_idle}
use Rattle.steps.proofs.StoreSteps.{store_state, one_more}
use Rattle.device.specs.Work.{stepped, run}
use Rattle.device.specs.Calls.{device}
use Rattle.progress.proofs.Runs.{run_idle, run_add}

-- a state with a job that is in its blocks until step p is done
module _ (s : State) (p : ℕ) (there : s.job.there ≡ true) (blocks : hash_steps (command_of s.job.kind) ≡ p + 1) where
  abbrev plan : List Store
  plan = stores s.job.kind s.job.frame s.job.kept

  abbrev command : Command
  command = command_of s.job.kind

  long : length_of s.job.kind ≡ p + 1 + length plan
  long = omega (arith, blocks, plan-length s.job.kind s.job.frame s.job.kept)

  -- a store is left: the job goes on, runs, and its next step is no block
  goes_on : (j : ℕ) → j < length plan → advanced (with_step s (p + j)) ≡ with_step s (p + suc j)
  unfolding with_step
  goes_on j h =
      on_from (with_step s (p + j)) (ne_eqb (p + j + 1) (length_of s.job.kind) (λ e. omega (arith, e, h, long)))
      ∙ ap (with_step s) (next j)
    where
      next : (j : ℕ) → p + j + 1 ≡ p + suc j
      next j = omega arith

  store_runs : (j : ℕ) → j < length plan → is_running (with_step s (p + suc j)) ≡ true
  unfolding with_step is_running pick
  store_runs j h = rw there (lt-ltb (p + suc j) (length_of s.job.kind) (omega (arith, h, long)))

  no_block : (j : ℕ) → is_hash (with_step s (p + suc j)).job ≡ false
  unfolding with_step
  no_block j = le-ltb (p + suc j) (hash_steps command) (omega (arith, blocks))

  -- one step makes one store
  image_on :
      (image : List ℕ) (j : ℕ) → j < length plan →
      step_image (all_stored (take j plan) image s.job.counter) (with_step s (p + suc j)) ≡
      all_stored (take (suc j) plan) image s.job.counter
  unfolding with_step
  image_on image j h =
      one_more s.job.kind s.job.counter s.job.frame image (all_stored (take j plan) image s.job.counter)
      (with_step s (p + suc j)) j refl refl refl (omega (arith, blocks)) (store_runs j h) (no_block j) h refl

  one_store :
      (image : List ℕ) (j : ℕ) → j < length plan →
      stepped (device (all_stored (take j plan) image s.job.counter) (advanced (with_step s (p + j)))) ≡
      device (all_stored (take (suc j) plan) image s.job.counter) (advanced (with_step s (p + suc j)))
  unfolding stepped
  one_store image j h =
      let now = all_stored (take j plan) image s.job.counter in
      ap (λ (t : State). stepped (device now t)) (goes_on j h)
      ∙ ap₂ device (image_on image j h) (store_state now (with_step s (p + suc j)) (store_runs j h) (no_block j))

  -- the first stores of the plan, as many as steps
  pub stores_made :
      (image : List ℕ) (j : ℕ) → j ≤ length plan →
      run j (device image (advanced (with_step s p))) ≡ device (all_stored (take j plan) image s.job.counter) (advanced (with_step s (p + j)))
  unfolding run all_stored
  stores_made image zero h =
      let none : p ≡ p + 0 = omega arith in
      ap (λ (n : ℕ). device image (advanced (with_step s n))) none
  stores_made image (suc j) h =
      ap stepped (stores_made image j (omega (arith, h))) ∙ one_store image j h

  -- where one is left, the job goes on
  pub stores_left :
      (image : List ℕ) (j : ℕ) → j < length plan →
      run j (device image (advanced (with_step s p))) ≡ device (all_stored (take j plan) image s.job.counter) (with_step s (p + suc j))
  stores_left image j h =
      stores_made image j (omega (arith, h)) ∙ ap (device (all_stored (take j plan) image s.job.counter)) (goes_on j h)

  -- the step of the last store ends the job
  ended : advanced (with_step s (p + length plan)) ≡ finished_by command (with_step s (p + length plan))
  unfolding with_step
  ended = end_from (with_step s (p + length plan)) (eq-eqb (p + length plan + 1) (length_of s.job.kind) (omega (arith, long)))

  -- as many steps as the plan has stores, or more
  pub all_made :
      (image : List ℕ) (m : ℕ) → length plan ≤ m →
      run m (device image (advanced (with_step s p))) ≡
      device (all_stored plan image s.job.counter) (finished_by command (with_step s (p + length plan)))
  all_made image m h =
      let n = length plan in
      let after = device (all_stored plan image s.job.counter) (finished_by command (with_step s (p + n))) in
      let more : m ≡ (m - n) + n = omega (arith, h) in
      ap (λ (k : ℕ). run k (device image (advanced (with_step s p)))) more ∙ run_add (m - n) n (device image (advanced (with_step s p)))
      ∙ ap (run (m - n))
      (stores_made image n (omega arith)
      ∙ ap₂ device (ap (λ (ss : List Store). all_stored ss image s.job.counter) (take-length plan)) ended)
      ∙ run_idle (m - n) after (finished_idle command (with_step s (p + n)))
