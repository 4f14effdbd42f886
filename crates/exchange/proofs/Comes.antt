-- A device that takes a command frame and then is worked until it is idle has come to the whole-frame result, whatever the quotas: a
-- work call does some steps, none if it is refused, and all of them come to the end of the job. Assumes nothing.
use Prim.Native.Nat.{ℕ, ◌+◌}
use mathlib.Core.Path.{◌≡◌, refl, ap, sym, subst, ◌∙◌}
use mathlib.Core.Bool.{Bool, true, false}
use mathlib.Core.List.{List, [], ◌∷◌}
use borrow.Author.Tests.{eqb-true}
use lib.Dec.{eqb}
use Rattle.words.specs.Choice.{pick}
use Rattle.words.specs.Rows.{first_of}
use Rattle.words.proofs.Choice.{never, or_zero}
use Rattle.image.specs.Header.{count}
use Rattle.image.specs.Refusal.{refusal}
use Rattle.image.proofs.Laid.{same_refusal}
use Rattle.frames.specs.declared.Class.TheVariants.{CommandFrame}
use Rattle.frames.specs.Classes.{class_of}
use Rattle.frames.specs.Layout.{counter_of}
use Rattle.jobs.specs.Jobs.{longest}
use Rattle.state.specs.declared.State.{State}
use Rattle.state.specs.Refusal.{is_running, job_refusal, device_refusal}
use Rattle.state.proofs.Refused.{device-refusal, Fits, job_fits, fits_accepted}
use Rattle.state.proofs.Running.{no_job_idle}
use Rattle.arrival.specs.Arrival.{arrived}
use Rattle.rules.specs.Formed.{Formed}
use Rattle.rules.specs.Whole.{Outcome, whole, status_on_arrival}
use Rattle.rules.proofs.Taken.{below_count}
use Rattle.arrival.proofs.Arrives.{arrived_fails}
use Rattle.rules.proofs.Kept.{formed_on, whole-kept, whole_formed}
use Rattle.device.specs.Work.{Device, run, steps_done}
use Rattle.device.specs.Calls.{device, outcome, After, PowerUp, Frame, Work, called, after_work, after_steps, image_after_work, is_busy}
use Rattle.device.proofs.AfterCalls.{any_power_up, frame_accepted}
use Rattle.progress.proofs.Runs.{run_add}
use Rattle.progress.proofs.Jobs.{runs}
use Rattle.progress.proofs.Kept.{run_not_refused}
use Rattle.progress.proofs.Steps.{working_at}
use Rattle.progress.proofs.Ends.{same_end, longest_is_enough, work_runs}
use Rattle.progress.proofs.RunsWhole.{runs_whole}
use Rattle.exchange.specs.Exchange.{AtRest, all_worked, Ends}

-- some steps lead from a device to another
record Runs (d e : Device) : Type 0 where
  steps : ℕ
  ran : e ≡ run steps d

-- a work call does some
works_by : (quota : ℕ) (d : Device) (b : Bool) → eqb (device_refusal d.image d.state) 0 ≡ b → Runs d (called (Work quota) d)
unfolding after_work image_after_work after_steps run pick
works_by quota d true e = record { steps = steps_done quota d; ran = rw e }
works_by quota d false e = record { steps = 0; ran = rw e }

-- and so do several
all_work : (quotas : List ℕ) (d : Device) → Runs d (all_worked quotas d)
unfolding all_worked run
all_work [] d = record { steps = 0; ran = refl }
all_work (quota ∷ more) d =
    let first = works_by quota d _ refl in
    let rest = all_work more (called (Work quota) d) in
    record { steps = rest.steps + first.steps; ran = rest.ran ∙ ap (run rest.steps) first.ran ∙ sym (run_add rest.steps first.steps d) }

-- a power-up on an accepted image leaves an idle device
pub powered_up_idle : (d : Device) → refusal d.image ≡ 0 → AtRest (called PowerUp d)
powered_up_idle d accepted = rw (any_power_up d) (record { none = refl; accepted = accepted; formed = formed_on d.image accepted })

pub not-refused : (d : Device) → AtRest d → device_refusal d.image d.state ≡ 0
unfolding job_refusal first_of pick
not-refused d idle = rw (device-refusal d.image d.state, idle.accepted, idle.none)

module _ (d : Device) (idle : AtRest d) (frame : List ℕ) (command : class_of frame ≡ CommandFrame) where
  abbrev start : Device
  start = device d.image (arrived d.image d.state frame)

  taken : (output : List ℕ) → called (Frame frame output) d ≡ start
  unfolding pick
  taken output = ap (λ (r : After). r.device) (frame_accepted d frame output (not-refused d idle)) ∙ rw (command, idle.none)

  module _ (e : Device) (ends : Ends frame d e) where
    at_its_end : e ≡ run longest start
    at_its_end =
        let work = all_work ends.quotas start in
        let came : e ≡ run work.steps start = sym ends.worked ∙ ap (all_worked ends.quotas) (taken ends.output) ∙ work.ran in
        came ∙ same_end work.steps start (ap (λ (x : Device). is_running x.state) (sym came) ∙ no_job_idle e.state ends.none)

    pub comes_to_whole : outcome e ≡ whole (outcome d) frame
    comes_to_whole = ap outcome at_its_end ∙ runs_whole d frame idle.none (idle.formed.long (counter_of frame))

    pub idle_again : AtRest e
    idle_again =
        record {
          none = ends.none;
          accepted =
              ap (λ (o : Outcome). refusal o.image) comes_to_whole
              ∙ same_refusal (whole (outcome d) frame).image d.image (whole-kept (outcome d) frame idle.formed.laid).header
              ∙ idle.accepted;
          formed = subst (λ (o : Outcome). Formed o.image o.keys) (sym comes_to_whole) (whole_formed (outcome d) frame idle.formed);
        }

  -- There is such work: one call with the steps of the longest job. A frame that starts a job starts one that fits, and no job runs longer.
  fits_by : (b : Bool) → eqb (status_on_arrival d.image d.state.keys frame) 0 ≡ b → Fits (count d.image) start.state
  unfolding run Rattle.arrival.specs.Arrival.taken
  fits_by true e there =
      let working = working_at d frame idle.none (idle.formed.long (counter_of frame)) 0 there in
      let below = below_count (outcome d) frame (eqb-true (status_on_arrival d.image d.state.keys frame) 0 e) in
      (rw working.0.counter_kept below, runs _ _ _ _ _ start.image start.state working.0 working.1)
  fits_by false e there =
      absurd (never (sym (ap (λ (s : State). s.job.there) (arrived_fails d.image d.state frame e) ∙ idle.none) ∙ there))

  start_accepted : device_refusal start.image start.state ≡ 0
  start_accepted = fits_accepted d.image start.state idle.accepted (fits_by _ refl)

  idle_by : (b : Bool) → is_busy (run longest start) ≡ b → is_busy (run longest start) ≡ false
  idle_by true there =
      let e = run longest start in
      let refused = sym (device-refusal e.image e.state) ∙ run_not_refused longest start start_accepted in
      let accepted = (or_zero (refusal e.image) (job_refusal (count e.image) e.state) refused).1 in
      absurd (never (sym (longest_is_enough start) ∙ (job_fits (count e.image) e.state accepted there).1))
  idle_by false none = none

  pub work_that_ends : (output : List ℕ) → Ends frame d (called (Work longest) (called (Frame frame output) d))
  unfolding all_worked
  work_that_ends output =
      record {
        output = output;
        quotas = longest ∷ [];
        worked = refl;
        none = rw (taken output, work_runs longest start start_accepted) (idle_by _ refl);
      }
