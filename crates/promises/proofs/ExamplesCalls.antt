-- What a row of the examples claims, and the calls on a ready device: a frame is not refused, a command frame is taken, and a work call
-- does its quota of steps on the job that it started. Assumes nothing.
use Prim.Native.Nat.{ℕ, ◌<◌}
use mathlib.Core.Path.{◌≡◌, ap, ◌∙◌}
use mathlib.Core.Bool.{Bool}
use mathlib.Core.List.{List}
use native.Mathlib.Omega.{arith}
use borrow.Author.Tests.{lt-ltb, ne_eqb}
use lib.ListN.{length, get_or}
use Rattle.words.specs.Choice.{pick}
use Rattle.image.specs.Header.{count}
use Rattle.jobs.proofs.Longest.{some_steps}
use Rattle.frames.specs.declared.Class.TheVariants.{CommandFrame}
use Rattle.frames.specs.Classes.{named_class, class_of}
use Rattle.frames.specs.Layout.{counter_of}
use Rattle.state.specs.Refusal.{is_running, device_refusal}
use Rattle.state.proofs.Refused.{image_accepted, job_accepted}
use Rattle.arrival.specs.Arrival.{job_of, taken, arrived}
use Rattle.rules.specs.Whole.{kind_in}
use Rattle.device.specs.Frame.{with_enabled, state_after}
use Rattle.device.specs.Work.{Device, run}
use Rattle.device.specs.Calls.{device, After, Frame, Work, called, outcome}
use Rattle.device.proofs.AfterCalls.{frame_accepted}
use Rattle.progress.proofs.Enabled.{enabled_as}
use Rattle.progress.proofs.Ends.{work_runs}
use Rattle.orders.specs.Orders.{all_called}
use Rattle.promises.specs.Examples.{Example, Ready, Idle, Given, script, Seen}

-- given what a row says, and called as it says, a device shows what it says
abbrev pub Holds : Example → Device → List ℕ → List ℕ → Type 0
Holds p d frame output = Given p d frame → Seen p d frame (all_called (script p frame output) d)

module _ (d : Device) (ready : Ready d) (output : List ℕ) where
  -- a frame is not refused
  pub frame-called : (frame : List ℕ) → called (Frame frame output) d ≡ device d.image (state_after (class_of frame) d.image d.state frame)
  frame-called frame = ap (λ (r : After). r.device) (frame_accepted d frame output ready.not-refused)

  -- a device is ready with reset-enable on or off
  pub ready_enabled : (b : Bool) → Ready (enabled_as b d)
  unfolding with_enabled device_refusal is_running
  ready_enabled b = record { not-refused = ready.not-refused; four = ready.four; long-keys = ready.long-keys }

  -- a command frame that finds the device idle
  module _ (idle : Idle d) (frame : List ℕ) (first : get_or frame 0 0 ≡ 0x9B) (long : 1 < length frame) where
    is_command : class_of frame ≡ CommandFrame
    unfolding class_of named_class pick
    is_command =
        rw (ne_eqb (length frame) 0 (λ none. omega (arith, none)), first, lt-ltb 1 (length frame) long)

    -- is taken
    pub command-called : called (Frame frame output) d ≡ device d.image (arrived d.image d.state frame)
    unfolding pick
    command-called = frame-called frame ∙ rw (is_command, idle)

    -- and if it starts a job, that is worked on
    pub work_called :
        arrived d.image d.state frame ≡ taken d.state 0x01 (job_of d.image frame) → counter_of frame < count d.image →
        (n : ℕ) → called (Work n) (called (Frame frame output) d) ≡ run n (device d.image (taken d.state 0x01 (job_of d.image frame)))
    unfolding taken job_of is_running pick
    work_called starts below n =
        let s = taken d.state 0x01 (job_of d.image frame) in
        let accepted = image_accepted d.image d.state ready.not-refused in
        let runs = lt-ltb 0 _ (some_steps (kind_in (outcome d) frame)) in
        ap (called (Work n)) (command-called ∙ ap (device d.image) starts)
        ∙ work_runs n (device d.image s) (job_accepted d.image s accepted below runs)
