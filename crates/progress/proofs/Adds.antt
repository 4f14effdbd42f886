-- Two work calls are one with the sum of their quotas: in what they leave, and in the steps that they report. Assumes nothing.
use Prim.Native.Nat.{ℕ, ◌+◌, min}
use mathlib.Core.Path.{◌≡◌, ap, sym, ◌∙◌}
use native.Mathlib.Omega.{arith}
use Rattle.state.specs.Refusal.{device_refusal}
use Rattle.device.specs.Work.{Device, run, steps_left}
use Rattle.device.specs.Calls.{Work, After, after, called}
use Rattle.device.proofs.AfterCalls.{work_accepted}
use Rattle.progress.proofs.Runs.{run_add}
use Rattle.progress.proofs.Ends.{left_run, work_runs}
use Rattle.progress.proofs.Kept.{run_not_refused}

module _ (m n : ℕ) (d : Device) (accepted : device_refusal d.image d.state ≡ 0) where
  pub work_adds : called (Work (m + n)) d ≡ called (Work n) (called (Work m) d)
  work_adds =
      let swap : m + n ≡ n + m = omega arith in
      work_runs (m + n) d accepted ∙ ap (λ (k : ℕ). run k d) swap ∙ run_add n m d
      ∙ sym (ap (called (Work n)) (work_runs m d accepted) ∙ work_runs n (run m d) (run_not_refused m d accepted))

  -- the steps reported by a device that is not refused
  reported : (q : ℕ) (e : Device) → device_refusal e.image e.state ≡ 0 → (after (Work q) e).steps ≡ min q (steps_left e)
  reported q e accepted = ap (λ (r : After). r.steps) (work_accepted e q accepted)

  pub steps_add : (after (Work (m + n)) d).steps ≡ (after (Work m) d).steps + (after (Work n) (called (Work m) d)).steps
  steps_add =
      let all = reported (m + n) d accepted in
      let first = reported m d accepted in
      let then =
      ap (λ (e : Device). (after (Work n) e).steps) (work_runs m d accepted) ∙ reported n (run m d) (run_not_refused m d accepted) in
      omega (arith, all, first, then, left_run m d)
