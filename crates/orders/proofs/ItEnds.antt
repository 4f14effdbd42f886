-- It ends: a frame takes the steps that the ledger counts, a work call with a quota of the longest job or more leaves the device idle,
-- and no job comes to more steps than the longest has, whatever happens in between. Assumes nothing.
use Prim.Native.Nat.{ℕ, ◌+◌, ◌≤◌, ◌<◌, min}
use mathlib.Core.Path.{◌≡◌, refl, ap, sym, subst, ◌∙◌}
use mathlib.Core.Bool.{Bool, true, false}
use mathlib.Core.List.{List}
use native.Mathlib.Omega.{arith}
use lib.Dec.{ltb}
use Rattle.words.specs.Choice.{pick}
use Rattle.words.proofs.Choice.{never, either, otherwise}
use Rattle.image.specs.Refusal.{refusal}
use Rattle.frames.specs.declared.Class.{Class}
use Rattle.frames.specs.declared.Class.TheVariants.{Empty, EnableReset, Reset, Read, Unnamed, CommandFrame}
use Rattle.frames.specs.Classes.{class_of}
use Rattle.frames.specs.Layout.{counter_of}
use Rattle.jobs.specs.Jobs.{longest}
use Rattle.jobs.proofs.Longest.{at_most}
use Rattle.state.specs.declared.State.{State}
use Rattle.state.specs.Parts.{power_on}
use Rattle.state.specs.Refusal.{is_running}
use Rattle.arrival.specs.Arrival.{arrived}
use Rattle.device.specs.Frame.{with_enabled, state_after}
use Rattle.device.specs.Work.{Device, run, steps_done}
use Rattle.device.specs.Calls.{device, powered_up, After, Call, PowerUp, Frame, Work, called, after, outcome, is_busy}
use Rattle.progress.specs.Steps.{steps_of}
use Rattle.progress.proofs.Jobs.{runs, progress}
use Rattle.progress.proofs.Ends.{work_ends, work_runs}
use Rattle.progress.proofs.Steps.{busy_below, steps_left_lem}
use Rattle.rules.specs.Whole.{Outcome, kind_in}
use Rattle.orders.specs.Orders.{all_called}
use Rattle.orders.specs.Ledger.{Pending, None, Doing, Ledger, entered, ledger, opened}
use Rattle.orders.proofs.Sound.{started, AsPending, Sound}
use Rattle.orders.proofs.Ledger.{not-refused, frame-done, work_done, next, at_rest, sound_now}

-- a job that is there runs
busy_runs : (p : Pending) (o : Outcome) (d : Device) → AsPending p o d → is_busy d ≡ true → is_running d.state ≡ true
busy_runs None o d r busy = absurd (never (sym r.none ∙ busy))
busy_runs (Doing frame done) o d (w, _) busy = runs _ _ _ _ _ d.image d.state w.at w.left

-- a job that is there is older by the steps that are made
grown_by :
    (p : Pending) (o : Outcome) (d : Device) → AsPending p o d → is_busy d ≡ true → (m : ℕ) → is_busy (run m d) ≡ true →
    (run m d).state.job.step ≡ m + d.state.job.step
grown_by None o d r busy m there = absurd (never (sym r.none ∙ busy))
grown_by (Doing frame done) o d (w, _) busy m there =
    (progress _ _ _ _ done d w.at w.left m there).0.step ∙ ap (λ (n : ℕ). m + n) (sym w.at.step)

-- and has done fewer than the longest has
less_by : (p : Pending) (o : Outcome) (d : Device) → AsPending p o d → is_busy d ≡ true → d.state.job.step < longest
less_by None o d r busy = absurd (never (sym r.none ∙ busy))
less_by (Doing frame done) o d (w, _) busy = omega (arith, w.left, w.at.step, at_most (kind_in (outcome w.found) frame))

module _ (l : Ledger) (d : Device) (sound : Sound l d) where
  -- a work call with a quota of the longest job or more leaves the device idle
  idle_by : (quota : ℕ) → longest ≤ quota → (b : Bool) → is_busy (called (Work quota) d) ≡ b → is_busy (called (Work quota) d) ≡ false
  idle_by quota enough true e =
      let later = next (Work quota) l d sound in
      let running = busy_runs (entered (Work quota) l).pending (entered (Work quota) l).as_if (called (Work quota) d) later.state e in
      absurd
      (never
      (sym (work_ends quota d enough) ∙ sym (ap (λ (r : After). is_running r.device.state) (work_done l d sound quota)) ∙ running))
  idle_by quota enough false e = e

  -- a call that finds a job and leaves one: the job is older by the steps that the call reports
  module _ (busy : is_busy d ≡ true) where
    abbrev Older : ℕ → State → Type 0
    Older steps t = t.job.there ≡ true → t.job.step ≡ steps + d.state.job.step

    same_age : (s : State) → s.job.step ≡ d.state.job.step → Older 0 s
    same_age s e there = e ∙ omega arith

    frame_age : (bytes : List ℕ) (class : Class) → Older 0 (state_after class d.image d.state bytes)
    unfolding with_enabled pick
    frame_age bytes Empty = same_age d.state refl
    frame_age bytes EnableReset = same_age (with_enabled d.state true) refl
    frame_age bytes Reset =
        either (Older 0) d.state.enabled _ _ (λ _ gone. absurd (never gone)) (λ _. same_age (with_enabled d.state false) refl)
    frame_age bytes Read = same_age (with_enabled d.state false) refl
    frame_age bytes CommandFrame =
        either (Older 0) d.state.job.there _ _ (λ _. same_age (with_enabled d.state false) refl)
        (λ none. absurd (never (sym none ∙ busy)))
    frame_age bytes Unnamed = same_age (with_enabled d.state false) refl

    -- what a call leaves is as old as it says
    as_old : (r left : After) → r ≡ left → Older left.steps left.device.state → Older r.steps r.device.state
    as_old r left same old = subst (λ (x : After). Older x.steps x.device.state) (sym same) old

    older : (call : Call) → Older (after call d).steps (called call d).state
    unfolding powered_up
    older PowerUp = λ gone. absurd (never gone)
    older (Frame bytes output) =
        as_old (after (Frame bytes output) d) _ (frame-done l d sound bytes output) (frame_age bytes (class_of bytes))
    older (Work quota) =
        as_old (after (Work quota) d) _ (work_done l d sound quota)
        (grown_by l.pending l.as_if d sound.state busy (steps_done quota d))

  -- a command frame that finds the device idle, and then a quota of steps
  module _ (quiet : is_busy d ≡ false) (frame output : List ℕ) (command : class_of frame ≡ CommandFrame) where
    begins : called (Frame frame output) d ≡ started d frame
    begins =
        ap (λ (r : After). r.device) (frame-done l d sound frame output)
        ∙ ap (λ (class : Class). device d.image (state_after class d.image d.state frame)) command
        ∙ ap (device d.image) (otherwise (is_busy d) (with_enabled d.state false) (arrived d.image d.state frame) quiet)

    later : Sound (entered (Frame frame output) l) (called (Frame frame output) d)
    later = next (Frame frame output) l d sound

    busy_by_kind : (n : ℕ) → is_busy (called (Work n) (called (Frame frame output) d)) ≡ ltb n (steps_of (outcome d) frame)
    busy_by_kind n =
        ap is_busy (work_runs n (called (Frame frame output) d) (not-refused (entered (Frame frame output) l) _ later))
        ∙ ap (λ (x : Device). is_busy (run n x)) begins
        ∙ busy_below d frame quiet ((at_rest l d sound quiet).formed.long (counter_of frame)) n

    done_by_kind : (n : ℕ) → (after (Work n) (called (Frame frame output) d)).steps ≡ min n (steps_of (outcome d) frame)
    done_by_kind n =
        ap (λ (r : After). r.steps) (work_done (entered (Frame frame output) l) (called (Frame frame output) d) later n)
        ∙ ap (steps_done n) begins
        ∙ ap (min n) (steps_left_lem d frame quiet ((at_rest l d sound quiet).formed.long (counter_of frame)))

-- Power up on an accepted image, and make any calls, in any order.
module _ (image : List ℕ) (accepted : refusal image ≡ 0) (calls : List Call) where
  abbrev l : Ledger
  l = ledger calls (opened image)

  abbrev d : Device
  d = all_called calls (device image power_on)

  sound : Sound l d
  sound = sound_now image accepted calls

  -- Then a work call with a quota of the longest job or more leaves the device idle.
  pub it_ends : (quota : ℕ) → longest ≤ quota → is_busy (called (Work quota) d) ≡ false
  it_ends quota enough = idle_by l d sound quota enough _ refl

  -- A job that is there grows older by the steps that each call reports, and has done fewer than the longest has.
  pub every_step_counts :
      (call : Call) → is_busy d ≡ true → is_busy (called call d) ≡ true →
      (called call d).state.job.step ≡ (after call d).steps + d.state.job.step
  every_step_counts call busy still = older l d sound busy call still

  pub never_longer : is_busy d ≡ true → d.state.job.step < longest
  never_longer busy = less_by l.pending l.as_if d sound.state busy

  -- A command frame that finds the device idle keeps it busy for exactly the steps of its kind, fewer if a check fails; a work call
  -- reports the steps that it has done of them.
  pub steps_by_kind :
      is_busy d ≡ false → (frame output : List ℕ) → class_of frame ≡ CommandFrame → (n : ℕ) →
      (is_busy (called (Work n) (called (Frame frame output) d)) ≡ ltb n (steps_of (outcome d) frame))
      × ((after (Work n) (called (Frame frame output) d)).steps ≡ min n (steps_of (outcome d) frame))
  steps_by_kind quiet frame output command n =
      (busy_by_kind l d sound quiet frame output command n, done_by_kind l d sound quiet frame output command n)
