-- The steps left: one less after a step, and none where no job runs. Assumes nothing.
use Prim.Native.Nat.{ℕ, zero, suc, min, ◌+◌, ◌<◌, ◌≤◌}
use mathlib.Core.Path.{◌≡◌, refl, ap, sym, ◌∙◌}
use mathlib.Core.Bool.{Bool, true, false}
use native.Mathlib.Numerals.{add-one}
use native.Mathlib.Omega.{arith}
use Rattle.words.specs.Choice.{pick}
use Rattle.state.specs.Refusal.{is_running}
use Rattle.jobs.specs.Jobs.{longest}
use Rattle.jobs.proofs.Longest.{at_most}
use Rattle.state.proofs.Running.{step_left}
use Rattle.device.specs.Work.{Device, stepped, run, within, steps_left}
use Rattle.steps.proofs.Less.{rest, bound, step_less, bound_runs}

stepped_less : (d : Device) → is_running d.state ≡ true → bound (stepped d).state < rest d.state
unfolding stepped
stepped_less d e = step_less d.image d.state e

within_runs : (n : ℕ) (d : Device) → is_running d.state ≡ true → within (suc n) d ≡ suc (within n (stepped d))
unfolding within pick
within_runs n d e = rw e

within_none : (n : ℕ) (d : Device) → is_running d.state ≡ false → within n d ≡ 0
unfolding within pick
within_none zero d e = refl
within_none (suc n) d e = rw e

-- more than enough is the same as enough: at a device that runs, it is if it is after the step
enough_by :
    (n : ℕ) (d : Device) (runs : Bool) → is_running d.state ≡ runs → (bound (stepped d).state ≤ n → within n (stepped d) ≡ within (suc n) (stepped d)) →
    bound d.state ≤ suc n → within (suc n) d ≡ within (suc (suc n)) d
enough_by n d true e after h =
    within_runs n d e ∙ ap suc (after (omega (arith, h, stepped_less d e, bound_runs d.state e))) ∙ sym (within_runs (suc n) d e)
enough_by n d false e after h = within_none (suc n) d e ∙ sym (within_none (suc (suc n)) d e)

enough_none : (d : Device) (runs : Bool) → is_running d.state ≡ runs → bound d.state ≤ 0 → within 0 d ≡ within 1 d
enough_none d true e h = absurd (omega (arith, h, bound_runs d.state e, step_left d.state e))
enough_none d false e h = within_none 0 d e ∙ sym (within_none 1 d e)

enough : (n : ℕ) (d : Device) → bound d.state ≤ n → within n d ≡ within (suc n) d
enough zero d h = enough_none d _ refl h
enough (suc n) d h = enough_by n d _ refl (enough n (stepped d)) h

pub left_one : (d : Device) → is_running d.state ≡ true → steps_left d ≡ suc (steps_left (stepped d))
unfolding steps_left
left_one d e =
    enough longest d (omega (arith, bound_runs d.state e, at_most d.state.job.kind)) ∙ within_runs longest d e

pub left_none : (d : Device) → is_running d.state ≡ false → steps_left d ≡ 0
unfolding steps_left
left_none d e = within_none longest d e

-- one step more
pub run_more : (n : ℕ) (d : Device) → run (n + 1) d ≡ stepped (run n d)
unfolding run
run_more n d = rw (add-one n)

-- where the work stops, the steps done are the smaller of the quota and the steps that were left: no job runs, or the quota is used up
module _ (steps quota left : ℕ) (d : Device) (e : steps + steps_left d ≡ left) where
  pub stopped : steps ≤ quota → is_running d.state ≡ false → steps ≡ min quota left
  stopped h r = omega (arith, h, e, left_none d r)

  pub used_up : steps ≡ quota → quota ≡ min quota left
  used_up h = omega (arith, h, e)
