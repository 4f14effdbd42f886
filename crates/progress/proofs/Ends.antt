-- It ends: after the steps of the longest job none runs, since each step leaves less of a job; so a work call does its quota of steps,
-- or comes to the end of the job. Assumes nothing.
use Prim.Native.Nat.{ℕ, zero, suc, ◌+◌, ◌-◌, ◌≤◌}
use mathlib.Core.Path.{◌≡◌, refl, ap, sym, ◌∙◌}
use mathlib.Core.Bool.{Bool, true, false}
use native.Mathlib.Omega.{arith}
use borrow.Author.Tests.{ltb-true, ltb-false, lt-ltb, le-ltb}
use lib.Dec.{ltb}
use Rattle.words.proofs.Choice.{never}
use Rattle.jobs.specs.Jobs.{longest}
use Rattle.jobs.proofs.Longest.{at_most}
use Rattle.state.specs.Refusal.{is_running, device_refusal}
use Rattle.state.proofs.Running.{step_left}
use Rattle.steps.specs.Step.{step_state}
use Rattle.device.specs.Work.{Device, stepped, run, steps_left, steps_done}
use Rattle.device.specs.Calls.{Work, After, called}
use Rattle.device.proofs.AfterCalls.{work_accepted}
use Rattle.device.proofs.Left.{left_one, left_none}
use Rattle.steps.proofs.Less.{rest, step_less, bound_runs}
use Rattle.progress.proofs.Runs.{stepped_idle, run_idle, run_add}

-- where a job runs after a step, one ran before it
ran_by : (d : Device) → is_running (stepped d).state ≡ true → (b : Bool) → is_running d.state ≡ b → is_running d.state ≡ true
ran_by d e true p = p
ran_by d e false p = absurd (never (sym p ∙ sym (ap (λ (x : Device). is_running x.state) (stepped_idle d p)) ∙ e))

ran : (d : Device) → is_running (stepped d).state ≡ true → is_running d.state ≡ true
ran d e = ran_by d e _ refl

-- the steps left of a job that still runs after n steps
left_after : (n : ℕ) (d : Device) → is_running (run n d).state ≡ true → rest (run n d).state + n ≤ longest
unfolding run stepped
left_after zero d e = omega (arith, at_most d.state.job.kind)
left_after (suc n) d e =
    let before = ran (run n d) e in
    let less = step_less (run n d).image (run n d).state before in
    omega (arith, left_after n d before, less, bound_runs (step_state (run n d).image (run n d).state) e)

idle_by : (d : Device) (b : Bool) → is_running (run longest d).state ≡ b → is_running (run longest d).state ≡ false
idle_by d true e = absurd (omega (arith, left_after longest d e, step_left (run longest d).state e))
idle_by d false e = e

-- no job runs after the steps of the longest
pub longest_is_enough : (d : Device) → is_running (run longest d).state ≡ false
longest_is_enough d = idle_by d _ refl

-- a device that is idle after some steps is the same after as many or more
idle_after : (m n : ℕ) (d : Device) → is_running (run n d).state ≡ false → run (m + n) d ≡ run n d
idle_after m n d e = run_add m n d ∙ run_idle m (run n d) e

-- so it is the same whenever it is idle
pub same_end : (n : ℕ) (d : Device) → is_running (run n d).state ≡ false → run n d ≡ run longest d
same_end n d e =
    let e₁ : longest + n ≡ n + longest = omega arith in
    sym (idle_after longest n d e) ∙ rw e₁ (idle_after n longest d (longest_is_enough d))

-- the steps left: none where no job runs, and one less after each step
runs_left_by : (d : Device) (b : Bool) → is_running d.state ≡ b → is_running d.state ≡ ltb 0 (steps_left d)
runs_left_by d true e = e ∙ sym (lt-ltb 0 (steps_left d) (omega (arith, left_one d e)))
runs_left_by d false e = e ∙ sym (le-ltb 0 (steps_left d) (omega (arith, left_none d e)))

left_step_by : (d : Device) (b : Bool) → is_running d.state ≡ b → steps_left (stepped d) ≡ steps_left d - 1
left_step_by d true e = omega (arith, left_one d e)
left_step_by d false e = ap steps_left (stepped_idle d e) ∙ omega (arith, left_none d e)

pub left_run : (n : ℕ) (d : Device) → steps_left (run n d) ≡ steps_left d - n
unfolding run
left_run zero d = omega arith
left_run (suc n) d = omega (arith, left_run n d, left_step_by (run n d) _ refl)

-- so a job runs as long as fewer are done
below_by : (n left : ℕ) (b : Bool) → ltb n left ≡ b → ltb 0 (left - n) ≡ ltb n left
below_by n left true e = lt-ltb 0 (left - n) (omega (arith, ltb-true n left e)) ∙ sym e
below_by n left false e = le-ltb 0 (left - n) (omega (arith, ltb-false n left e)) ∙ sym e

runs_below : (n : ℕ) (d : Device) → is_running (run n d).state ≡ ltb n (steps_left d)
runs_below n d = runs_left_by (run n d) _ refl ∙ ap (ltb 0) (left_run n d) ∙ below_by n (steps_left d) _ refl

-- and the number of steps for which a job runs is that of the steps left
pub left_is : (d : Device) (t : ℕ) → ((n : ℕ) → is_running (run n d).state ≡ ltb n t) → steps_left d ≡ t
left_is d t runs =
    let left = steps_left d in
    let over = ltb-false left t (sym (runs left) ∙ runs_below left d ∙ le-ltb left left (omega arith)) in
    let under = ltb-false t left (sym (runs_below t d) ∙ runs t ∙ le-ltb t t (omega arith)) in
    omega (arith, over, under)

left_ends : (d : Device) → is_running (run (steps_left d) d).state ≡ false
left_ends d = runs_below (steps_left d) d ∙ le-ltb (steps_left d) (steps_left d) (omega arith)

-- so a work call with a quota of the longest job or more leaves no job running
pub work_ends : (quota : ℕ) (d : Device) → longest ≤ quota → is_running (run (steps_done quota d) d).state ≡ false
work_ends quota d h =
    let most = ltb-false longest (steps_left d) (sym (runs_below longest d) ∙ longest_is_enough d) in
    let all : steps_done quota d ≡ steps_left d = omega (arith, h, most) in
    rw all (left_ends d)

-- the steps done come to the quota: past the end of a job, steps change nothing
quota_by : (n : ℕ) (d : Device) (b : Bool) → ltb n (steps_left d) ≡ b → run (steps_done n d) d ≡ run n d
quota_by n d true l =
    let all : steps_done n d ≡ n = omega (arith, ltb-true n (steps_left d) l) in
    ap (λ (m : ℕ). run m d) all
quota_by n d false l =
    let left = steps_left d in
    let least = ltb-false n left l in
    let done : steps_done n d ≡ left = omega (arith, least) in
    let more : n ≡ (n - left) + left = omega (arith, least) in
    ap (λ (m : ℕ). run m d) done
    ∙ sym (ap (λ (m : ℕ). run m d) more ∙ run_add (n - left) left d ∙ run_idle (n - left) (run left d) (left_ends d))

pub work_quota : (n : ℕ) (d : Device) → run (steps_done n d) d ≡ run n d
work_quota n d = quota_by n d _ refl

-- so a work call that is not refused does n steps
pub work_runs : (n : ℕ) (d : Device) → device_refusal d.image d.state ≡ 0 → called (Work n) d ≡ run n d
work_runs n d accepted = ap (λ (r : After). r.device) (work_accepted d n accepted) ∙ work_quota n d
