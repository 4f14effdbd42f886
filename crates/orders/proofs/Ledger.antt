-- Demand 3, first half: whatever the order of calls, the device is in step with the ledger of the calls; once idle it is as if the
-- frames that found it idle had run whole. Assumes nothing.
use Prim.Native.Nat.{ℕ}
use mathlib.Core.Path.{◌≡◌, refl, ap, sym, subst, ◌∙◌}
use mathlib.Core.Bool.{Bool, true, false}
use mathlib.Core.List.{List, [], ◌∷◌}
use lib.ListN.{length}
use Rattle.words.specs.Choice.{pick}
use Rattle.words.proofs.Choice.{never}
use Rattle.image.specs.Header.{count}
use Rattle.image.specs.Refusal.{refusal}
use Rattle.frames.specs.declared.Class.{Class}
use Rattle.frames.specs.declared.Class.TheVariants.{Empty, EnableReset, Reset, Read, Unnamed, CommandFrame}
use Rattle.frames.specs.Classes.{class_of}
use Rattle.frames.specs.Reading.{read_output}
use Rattle.frames.proofs.Reading.{busy-read}
use Rattle.state.specs.Parts.{power_on}
use Rattle.state.specs.Refusal.{device_refusal}
use Rattle.state.proofs.Refused.{Fits, fits_accepted}
use Rattle.state.proofs.Running.{no_job_idle}
use Rattle.arrival.specs.Arrival.{arrived}
use Rattle.device.specs.Frame.{with_enabled, state_after, output_after}
use Rattle.device.specs.Work.{Device, run, steps_done}
use Rattle.device.specs.Calls.{device, powered_up, After, Call, PowerUp, Frame, Work, called, after, outcome, is_busy}
use Rattle.device.proofs.AfterCalls.{frame_accepted, work_accepted}
use Rattle.progress.proofs.Runs.{run_idle}
use Rattle.progress.proofs.Jobs.{runs}
use Rattle.progress.proofs.Ends.{work_runs}
use Rattle.rules.specs.Whole.{Outcome}
use Rattle.rules.proofs.Kept.{formed_on}
use Rattle.counters.specs.Compared.{Alike}
use Rattle.orders.specs.Orders.{all_called}
use Rattle.orders.specs.Ledger.{Pending, None, Doing, Ledger, entry, is_doing, taken, worked, cut, heard, entered, ledger, opened, enabling}
use Rattle.orders.specs.InStep.{JobOf, InStep}
use Rattle.orders.proofs.Sound.{Resting, AsPending, Sound, rest_sound}
use Rattle.orders.proofs.Interrupted.{below_now, kind_as_if}
use Rattle.orders.proofs.Calls.{accepted_now, enabled_only, cut_off, taken_on, worked_on}

-- the job that is there, if any, fits
fits : (p : Pending) (o : Outcome) (d : Device) → AsPending p o d → Fits (count d.image) d.state
fits None o d r there = absurd (never (sym r.none ∙ there))
fits (Doing frame done) o d (w, _) there =
    (rw w.at.counter_kept (below_now frame done o d w), runs _ _ _ _ _ d.image d.state w.at w.left)

-- no call is refused
module _ (l : Ledger) (d : Device) (sound : Sound l d) where
  accepted_image : refusal d.image ≡ 0
  accepted_image = accepted_now l.pending l.as_if d sound.state sound.accepted

  pub not-refused : device_refusal d.image d.state ≡ 0
  not-refused = fits_accepted d.image d.state accepted_image (fits l.pending l.as_if d sound.state)

  pub frame-done :
      (bytes output : List ℕ) →
      after (Frame bytes output) d ≡
      record {
        number = 0;
        steps = 0;
        output = output_after (class_of bytes) d.state output;
        device = device d.image (state_after (class_of bytes) d.image d.state bytes);
      }
  frame-done bytes output = frame_accepted d bytes output not-refused

  pub work_done :
      (quota : ℕ) → after (Work quota) d ≡ record { number = 0; steps = steps_done quota d; output = []; device = run (steps_done quota d) d }
  work_done quota = work_accepted d quota not-refused

  pub done : (call : Call) → (after call d).number ≡ 0
  unfolding powered_up
  done PowerUp = accepted_image
  done (Frame bytes output) = ap (λ (r : After). r.number) (frame-done bytes output)
  done (Work quota) = ap (λ (r : After). r.number) (work_done quota)

-- busy is as the ledger says
pub busy_as_pending : (p : Pending) (o : Outcome) (d : Device) → AsPending p o d → is_busy d ≡ is_doing p
busy_as_pending None o d r = r.none
busy_as_pending (Doing frame done) o d (w, _) = w.at.there

-- a frame, by its class
module _ (d : Device) (bytes : List ℕ) where
  -- what a frame of a class leaves
  abbrev heard_as : Class → Device
  heard_as class = device d.image (state_after class d.image d.state bytes)

  -- reset-enable goes on or off, and nothing else changes
  only_enabled : (b : Bool) (l : Ledger) → Sound l d → Sound (enabling b l) (device d.image (with_enabled d.state b))
  unfolding with_enabled
  only_enabled b l sound =
      record { accepted = sound.accepted; enabled = refl; state = enabled_only b l.pending l.as_if d sound.state }

  reset_by :
      (b : Bool) (l : Ledger) → Sound l d →
      Sound (pick b (cut l) (enabling false l)) (device d.image (pick b power_on (with_enabled d.state false)))
  unfolding pick
  reset_by true l sound = cut_off l.pending l.as_if d sound.state sound.accepted
  reset_by false l sound = only_enabled false l sound

  command_by :
      (p : Pending) (o : Outcome) (enabled : Bool) → Sound (entry o p enabled) d →
      Sound (taken p bytes o) (device d.image (pick (is_doing p) (with_enabled d.state false) (arrived d.image d.state bytes)))
  unfolding pick
  command_by None o enabled sound = taken_on o d sound.accepted sound.state bytes
  command_by (Doing frame done) o enabled sound = only_enabled false (entry o (Doing frame done) enabled) sound

  after_frame : (l : Ledger) → Sound l d → (class : Class) → Sound (heard class bytes l) (heard_as class)
  after_frame l sound Empty = sound
  after_frame l sound EnableReset = only_enabled true l sound
  after_frame l sound Reset =
      subst (λ (b : Bool). Sound (heard Reset bytes l) (device d.image (pick b power_on (with_enabled d.state false)))) (sym sound.enabled)
      (reset_by l.enabled l sound)
  after_frame l sound Read = only_enabled false l sound
  after_frame l sound CommandFrame =
      subst
      (λ (b : Bool). Sound (heard CommandFrame bytes l) (device d.image (pick b (with_enabled d.state false) (arrived d.image d.state bytes))))
      (sym (busy_as_pending l.pending l.as_if d sound.state))
      (command_by l.pending l.as_if l.enabled sound)
  after_frame l sound Unnamed = only_enabled false l sound

-- a quota of steps
after_work :
    (p : Pending) (o : Outcome) (enabled : Bool) (d : Device) → Sound (entry o p enabled) d → (m : ℕ) → Sound (worked p m o enabled) (run m d)
after_work None o enabled d sound m =
    subst (Sound (entry o None enabled)) (sym (run_idle m d (no_job_idle d.state sound.state.none))) sound
after_work (Doing frame done) o enabled d sound m = worked_on frame done o d sound.state.0 m enabled sound.enabled sound.accepted

-- one call more
pub next : (call : Call) (l : Ledger) (d : Device) → Sound l d → Sound (entered call l) (called call d)
unfolding powered_up
next PowerUp l d sound = cut_off l.pending l.as_if d sound.state sound.accepted
next (Frame bytes output) l d sound =
    subst (λ (r : After). Sound (heard (class_of bytes) bytes l) r.device) (sym (frame-done l d sound bytes output))
    (after_frame d bytes l sound (class_of bytes))
next (Work quota) l d sound =
    subst (Sound (entered (Work quota) l)) (sym (work_runs quota d (not-refused l d sound)))
    (after_work l.pending l.as_if l.enabled d sound quota)

pub all_sound : (calls : List Call) (l : Ledger) (d : Device) → Sound l d → Sound (ledger calls l) (all_called calls d)
unfolding ledger all_called
all_sound [] l d sound = sound
all_sound (call ∷ more) l d sound = all_sound more (entered call l) (called call d) (next call l d sound)

pub start_sound : (image : List ℕ) → refusal image ≡ 0 → Sound (opened image) (device image power_on)
start_sound image accepted = rest_sound (device image power_on) accepted (formed_on image accepted) refl

-- a device that is idle rests
rests_by : (p : Pending) (o : Outcome) (d : Device) → AsPending p o d → is_busy d ≡ false → Resting o d
rests_by None o d r none = r
rests_by (Doing frame done) o d (w, _) none = absurd (never (sym none ∙ w.at.there))

pub at_rest : (l : Ledger) (d : Device) → Sound l d → is_busy d ≡ false → Resting l.as_if d
at_rest l d sound none = rests_by l.pending l.as_if d sound.state none

-- the job that is there is that of the frame under way
job_of :
    (p : Pending) (o : Outcome) (d : Device) → AsPending p o d → (frame : List ℕ) (done : ℕ) → p ≡ Doing frame done →
    JobOf frame done o d.state.job
job_of p o d state frame done e =
    let w = (subst (λ (q : Pending). AsPending q o d) e state).0 in
    record {
      kind = w.at.kind-kept ∙ kind_as_if frame done o d w;
      counter = w.at.counter_kept;
      kept = w.at.frame-kept;
      step = w.at.step;
    }

-- what the read shows
read_by :
    (p : Pending) (o : Outcome) (d : Device) (size : ℕ) → AsPending p o d →
    read_output (is_busy d) d.state.status d.state.reply size ≡ read_output (is_doing p) o.status o.reply size
read_by None o d size r = rw (r.none, r.alike.status, r.alike.reply)
read_by (Doing frame done) o d size (w, _) =
    ap (λ (b : Bool). read_output b d.state.status d.state.reply size) w.at.there
    ∙ busy-read d.state.status d.state.reply size ∙ sym (busy-read o.status o.reply size)

-- Power up on an accepted image, and make any calls, in any order.
module _ (image : List ℕ) (accepted : refusal image ≡ 0) (calls : List Call) where
  abbrev l : Ledger
  l = ledger calls (opened image)

  abbrev d : Device
  d = all_called calls (device image power_on)

  pub sound_now : Sound l d
  sound_now = all_sound calls (opened image) (device image power_on) (start_sound image accepted)

  -- Once idle, the device shows what it would show if the command frames that found it idle had run whole, in order, with resets and
  -- cuts where they fell.
  pub as_if_whole : is_busy d ≡ false → Alike (outcome d) l.as_if
  as_if_whole none = (at_rest l d sound_now none).alike

  -- At every moment the ledger of the calls agrees with the device.
  pub in_step : InStep l d
  in_step =
      record {
        busy = busy_as_pending l.pending l.as_if d sound_now.state;
        enabled = sound_now.enabled;
        doing = job_of l.pending l.as_if d sound_now.state;
        idle = as_if_whole;
      }

  -- A read fills the output with what the ledger says: the status and the reply, or 01h throughout while a frame is under way.
  pub reads :
      (bytes output : List ℕ) → class_of bytes ≡ Read →
      (after (Frame bytes output) d).output ≡ read_output (is_doing l.pending) l.as_if.status l.as_if.reply (length output)
  reads bytes output read =
      ap (λ (r : After). r.output) (frame-done l d sound_now bytes output)
      ∙ ap (λ (class : Class). output_after class d.state output) read
      ∙ read_by l.pending l.as_if d (length output) sound_now.state

  -- No call is refused.
  pub never_refused : (call : Call) → (after call d).number ≡ 0
  never_refused call = done l d sound_now call
