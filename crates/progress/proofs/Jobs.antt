-- A job that runs: what it is after n steps, and the stores made so far. By one induction over the steps, each of which keeps the job
-- or drops it. Assumes nothing.
use Prim.Native.Nat.{ℕ, zero, suc, ◌+◌, ◌-◌, ◌≤◌, ◌<◌}
use mathlib.Core.Path.{◌≡◌, refl, ap, sym, ◌∙◌}
use mathlib.Core.Bool.{Bool, true, false}
use mathlib.Core.List.{List}
use native.Mathlib.Numerals.{add-one}
use native.Mathlib.Omega.{arith}
use borrow.Author.Tests.{ltb-true, ltb-false, eqb-false, lt-ltb}
use lib.ListN.{take}
use Rattle.words.specs.Choice.{pick}
use Rattle.words.proofs.Choice.{never}
use Rattle.jobs.specs.Jobs.{length_of, command_of, hash_steps}
use Rattle.jobs.specs.declared.Kind.{Kind}
use Rattle.state.specs.declared.State.{State}
use Rattle.state.specs.Refusal.{is_running}
use Rattle.state.proofs.Running.{no_job_idle}
use Rattle.plan.specs.Stores.{stores}
use Rattle.plan.specs.Storing.{all_stored}
use Rattle.plan.proofs.Plans.{plan-length}
use Rattle.steps.specs.Step.{is_hash, step_state, step_image}
use Rattle.steps.proofs.Keeps.{Keeps, step_keeps}
use Rattle.steps.proofs.StoreSteps.{step_image_lem, one_more}
use Rattle.device.specs.Work.{Device, stepped, run}
use Rattle.progress.proofs.Runs.{stepped_idle}

-- a job of a kind, for a counter and a frame, after n steps on an image
pub record At (kind : Kind) (c : ℕ) (frame image : List ℕ) (n : ℕ) (now : List ℕ) (s : State) : Type 0 where
  pub there : s.job.there ≡ true
  pub kind-kept : s.job.kind ≡ kind
  pub counter_kept : s.job.counter ≡ c
  pub frame-kept : s.job.frame ≡ frame
  pub step : s.job.step ≡ n
  pub stored_so_far : now ≡ all_stored (take (n - hash_steps (command_of kind)) (stores kind frame s.job.kept)) image c

module _ (kind : Kind) (c : ℕ) (frame image : List ℕ) (n : ℕ) (now : List ℕ) (s : State) (at : At kind c frame image n now s) where
  abbrev hashes : ℕ
  hashes = hash_steps (command_of kind)

  -- the stores so far, one step on
  so_far_by :
      is_running s ≡ true → n < length_of kind → (t : State) → Keeps s t → (h : Bool) → is_hash s.job ≡ h →
      step_image now s ≡ all_stored (take (suc n - hashes) (stores kind frame t.job.kept)) image c
  unfolding pick all_stored
  so_far_by runs left t k true h =
      let early : n < hashes = ltb-true n hashes (rw (at.step, at.kind-kept) at h) in
      let none : n - hashes ≡ 0 = omega arith in
      let none' : suc n - hashes ≡ 0 = omega arith in
      step_image_lem now s runs ∙ rw (h, none') (rw none at at.stored_so_far)
  so_far_by runs left t k false h =
      let late : hashes ≤ n = ltb-false n hashes (rw (at.step, at.kind-kept) at h) in
      let more : suc n - hashes ≡ suc (n - hashes) = omega arith in
      let place : n ≡ hashes + (n - hashes) = omega arith in
      rw (k.kept h, more)
      (one_more kind c frame image now s (n - hashes) at.kind-kept at.counter_kept at.frame-kept (at.step ∙ place) runs h
      (omega (arith, left, late, plan-length kind frame s.job.kept)) at.stored_so_far)

  -- a job that works runs
  pub runs : n < length_of kind → is_running s ≡ true
  unfolding is_running pick
  runs left = rw (at.there, at.step, at.kind-kept) (lt-ltb n (length_of kind) left)

  -- one step on, if the job is still there
  pub next :
      n < length_of kind → (step_state now s).job.there ≡ true →
      At kind c frame image (suc n) (step_image now s) (step_state now s) × (suc n < length_of kind)
  next left there =
      let k = step_keeps now s (runs left) there in
      let more = eqb-false (n + 1) (length_of kind) (rw (at.step, at.kind-kept) at k.goes_on) in (
        record {
          there = there;
          kind-kept = k.kind ∙ at.kind-kept;
          counter_kept = k.counter ∙ at.counter_kept;
          frame-kept = k.frame ∙ at.frame-kept;
          step = k.step ∙ ap (λ (m : ℕ). m + 1) at.step ∙ add-one n;
          stored_so_far = so_far_by (runs left) left (step_state now s) k _ refl;
        },
        omega (arith, left, more),
      )

-- a device without a job has none after a step
still_there_by : (d : Device) → (stepped d).state.job.there ≡ true → (b : Bool) → d.state.job.there ≡ b → d.state.job.there ≡ true
still_there_by d e true p = p
still_there_by d e false p =
    absurd (never (sym p ∙ sym (ap (λ (x : Device). x.state.job.there) (stepped_idle d (no_job_idle d.state p))) ∙ e))

-- m steps on, if the job is still there
pub progress :
    (kind : Kind) (c : ℕ) (frame image : List ℕ) (n : ℕ) (d : Device) → At kind c frame image n d.image d.state → n < length_of kind →
    (m : ℕ) → (run m d).state.job.there ≡ true →
    At kind c frame image (m + n) (run m d).image (run m d).state × (m + n < length_of kind)
unfolding run stepped
progress kind c frame image n d at left zero there =
    let e : 0 + n ≡ n = omega arith in
    rw e (at, left)
progress kind c frame image n d at left (suc m) there =
    let before = progress kind c frame image n d at left m (still_there_by (run m d) there _ refl) in
    let e : suc m + n ≡ suc (m + n) = omega arith in
    rw e (next kind c frame image (m + n) (run m d).image (run m d).state before.0 before.1 there)
