-- The laws of several steps: they add up, and where no job runs they change nothing. By induction over the steps. Assumes nothing.
use Prim.Native.Nat.{ℕ, zero, suc, ◌+◌}
use mathlib.Core.Path.{◌≡◌, refl, ap, ◌∙◌}
use mathlib.Core.Bool.{false}
use mathlib.Core.List.{List}
use native.Mathlib.Omega.{arith}
use Rattle.words.specs.Choice.{pick}
use Rattle.state.specs.declared.State.{State}
use Rattle.state.specs.Parts.{posted}
use Rattle.state.specs.Refusal.{is_running}
use Rattle.steps.specs.Step.{step_state, step_image}
use Rattle.arrival.specs.Arrival.{taken}
use Rattle.device.specs.Work.{Device, stepped, run}
use Rattle.device.specs.Calls.{device}

-- a device in which no job runs stays as it is
pub stepped_idle : (d : Device) → is_running d.state ≡ false → stepped d ≡ d
unfolding stepped step_state step_image pick
stepped_idle d e = rw e

pub run_idle : (n : ℕ) (d : Device) → is_running d.state ≡ false → run n d ≡ d
unfolding run
run_idle zero d e = refl
run_idle (suc n) d e = ap stepped (run_idle n d e) ∙ stepped_idle d e

-- a status is posted: the job has ended
pub run-posted : (n : ℕ) (image : List ℕ) (s : State) (status : ℕ) → run n (device image (posted s status)) ≡ device image (posted s status)
unfolding is_running pick
run-posted n image s status = run_idle n (device image (posted s status)) refl

-- a frame that fails on arrival starts no job
pub run_not_taken :
    (n : ℕ) (d : Device) (status : ℕ) → d.state.job.there ≡ false →
    run n (device d.image (taken d.state status d.state.job)) ≡ device d.image (taken d.state status d.state.job)
unfolding is_running taken pick
run_not_taken n d status idle = run_idle n _ (rw idle)

-- n steps, then m more
pub run_add : (m n : ℕ) (d : Device) → run (m + n) d ≡ run m (run n d)
unfolding run
run_add zero n d =
    let e : 0 + n ≡ n = omega arith in
    ap (λ (k : ℕ). run k d) e
run_add (suc m) n d =
    let e : suc m + n ≡ suc (m + n) = omega arith in
    ap (λ (k : ℕ). run k d) e ∙ ap stepped (run_add m n d)
