-- One call more: what holds of the ledger and the device along an order of calls holds after it. Assumes nothing.
use Prim.Native.Nat.{ℕ, ◌+◌, ◌≤◌}
use mathlib.Core.Path.{◌≡◌, refl, ap, sym, subst, ◌∙◌}
use mathlib.Core.Bool.{Bool, true, false}
use mathlib.Core.List.{List}
use borrow.Author.Tests.{eqb-true, ltb-true, ltb-false}
use lib.Dec.{eqb, ltb}
use lib.ListN.{length, get_or}
use Rattle.words.proofs.Choice.{never, either}
use Rattle.image.specs.Refusal.{refusal}
use Rattle.image.proofs.Laid.{SameHeader, then_header, back_header, same_laid, accepted_laid, same_refusal}
use Rattle.frames.specs.Layout.{counter_of}
use Rattle.state.specs.declared.Key.{Key}
use Rattle.state.specs.declared.State.{State}
use Rattle.state.specs.Parts.{no_key, power_on}
use Rattle.arrival.specs.Arrival.{taken}
use Rattle.rules.specs.Whole.{frame_kept, status_on_arrival, Outcome, kind_in, whole}
use Rattle.arrival.proofs.Arrives.{arrived_starts, arrived_fails}
use Rattle.device.specs.Frame.{with_enabled}
use Rattle.device.specs.Work.{Device, run}
use Rattle.device.specs.Calls.{device, outcome, is_busy}
use Rattle.progress.specs.Steps.{steps_of}
use Rattle.progress.proofs.Runs.{run_add}
use Rattle.progress.proofs.Jobs.{progress}
use Rattle.progress.proofs.Enabled.{enabled_as, run_same}
use Rattle.progress.proofs.Steps.{busy_below, working_at, whole-after}
use Rattle.counters.specs.Compared.{Alike}
use Rattle.rules.specs.Formed.{Formed}
use Rattle.rules.proofs.Kept.{formed_on, whole-kept, whole_formed}
use Rattle.counters.proofs.Alikes.{same_to, alike_whole}
use Rattle.orders.specs.Ledger.{Pending, None, Doing, Ledger, entry, going, interrupted, restarted}
use Rattle.orders.proofs.Sound.{Resting, started, Working, AsPending, Sound}
use Rattle.orders.proofs.SameSteps.{steps_same}
use Rattle.orders.proofs.Interrupted.{Left, header_as_if, left_behind}

-- what is as if, as a device
pub formed_as_if :
    (d : Device) (o : Outcome) → Formed d.image d.state.keys → SameHeader d.image o.image → Alike (outcome d) o →
    Formed o.image o.keys
formed_as_if d o formed header alike =
    record {
      laid = same_laid o.image d.image (back_header d.image o.image header) formed.laid;
      four = ap length (sym alike.keys) ∙ formed.four;
      long = λ k. ap (λ (keys : List Key). length (get_or keys k no_key).bytes) (sym alike.keys) ∙ formed.long k;
    }

-- the image is accepted as it stands
pub accepted_now : (p : Pending) (o : Outcome) (d : Device) → AsPending p o d → refusal o.image ≡ 0 → refusal d.image ≡ 0
accepted_now None o d r accepted = same_refusal d.image o.image r.header ∙ accepted
accepted_now (Doing frame done) o d (w, _) accepted = same_refusal d.image o.image (header_as_if frame done o d w) ∙ accepted

accepted_whole : (o : Outcome) (frame : List ℕ) → refusal o.image ≡ 0 → refusal (whole o frame).image ≡ 0
accepted_whole o frame accepted =
    same_refusal _ o.image (whole-kept o frame (accepted_laid o.image accepted)).header ∙ accepted

-- reset-enable goes on or off, and nothing else changes
pub enabled_only : (b : Bool) (p : Pending) (o : Outcome) (d : Device) → AsPending p o d → AsPending p o (enabled_as b d)
unfolding with_enabled
enabled_only b None o d r = record { formed = r.formed; none = r.none; header = r.header; alike = r.alike }
enabled_only b (Doing frame done) o d (w, more) = (
  record {
    found = w.found;
    formed = w.formed;
    none = w.none;
    header = w.header;
    alike = w.alike;
    passed = w.passed;
    now = ap (enabled_as b) w.now;
    at =
        record {
          there = w.at.there;
          kind-kept = w.at.kind-kept;
          counter_kept = w.at.counter_kept;
          frame-kept = w.at.frame-kept;
          step = w.at.step;
          stored_so_far = w.at.stored_so_far;
        };
    left = w.left;
  },
  more,
)

-- what is left of the frame under way, if any
left_of : (p : Pending) (o : Outcome) (d : Device) → AsPending p o d → Left d.image (interrupted p o)
left_of None o d r = record { header = r.header; counters = r.alike.counters }
left_of (Doing frame done) o d (w, _) = left_behind frame done o d w

-- a reset or a power cut
pub cut_off :
    (p : Pending) (o : Outcome) (d : Device) → AsPending p o d → refusal o.image ≡ 0 →
    Sound (entry (restarted (interrupted p o)) None false) (device d.image power_on)
cut_off p o d state accepted =
    let left = left_of p o d state in
    let now = accepted_now p o d state accepted in
    record {
      accepted = sym (same_refusal d.image _ left.header) ∙ now;
      enabled = refl;
      state =
          record {
            formed = formed_on d.image now;
            none = refl;
            header = left.header;
            alike = record { status = refl; reply = refl; keys = refl; counters = left.counters };
          };
    }

-- a frame has run whole: it found a device that was as if, and the device has come to the whole-frame result
module _
    (d : Device) (frame : List ℕ) (o : Outcome) (formed : Formed d.image d.state.keys) (header : SameHeader d.image o.image)
    (alike : Alike (outcome d) o) (after : Device) (result : outcome after ≡ whole (outcome d) frame) where
  image_after_lem : after.image ≡ (whole (outcome d) frame).image
  image_after_lem = ap (λ (p : Outcome). p.image) result

  header_after : SameHeader after.image d.image
  header_after = subst (λ (i : List ℕ). SameHeader i d.image) (sym image_after_lem) (whole-kept (outcome d) frame formed.laid).header

  ended : is_busy after ≡ false → Resting (whole o frame) after
  ended none =
      let formed_o = formed_as_if d o formed header alike in
      record {
        formed = subst (λ (p : Outcome). Formed p.image p.keys) (sym result) (whole_formed (outcome d) frame formed);
        none = none;
        header =
            then_header after.image d.image _ header_after
            (then_header d.image o.image _ header
            (back_header _ o.image (whole-kept o frame formed_o.laid).header));
        alike = subst (λ (p : Outcome). Alike p (whole o frame)) (sym result) (alike_whole frame (outcome d) o formed formed_o header alike);
      }

-- a frame that found a device as if, n steps later: busy is as the ledger says, and once idle the frame has run whole
module _
    (d : Device) (frame : List ℕ) (o : Outcome) (formed : Formed d.image d.state.keys) (none : is_busy d ≡ false)
    (header : SameHeader d.image o.image) (alike : Alike (outcome d) o) (n : ℕ) where
  same_steps : steps_of (outcome d) frame ≡ steps_of o frame
  same_steps = steps_same frame (outcome d) o (same_to frame (outcome d) o header alike)

  pub busy_as_told : is_busy (run n (started d frame)) ≡ ltb n (steps_of o frame)
  busy_as_told = busy_below d frame none (formed.long (counter_of frame)) n ∙ ap (ltb n) same_steps

  comes_whole : ltb n (steps_of o frame) ≡ false → outcome (run n (started d frame)) ≡ whole (outcome d) frame
  comes_whole e =
      let all : steps_of (outcome d) frame ≤ n = rw same_steps (ltb-false n (steps_of o frame) e) in
      whole-after d frame none (formed.long (counter_of frame)) n all

  out : (b : Bool) → ltb n (steps_of o frame) ≡ false → Resting (whole o frame) (enabled_as b (run n (started d frame)))
  unfolding with_enabled
  out b e = ended d frame o formed header alike (enabled_as b (run n (started d frame))) (comes_whole e) (busy_as_told ∙ e)

-- a command frame that finds the device idle
module _ (o : Outcome) (d : Device) (accepted : refusal o.image ≡ 0) (r : Resting o d) (frame : List ℕ) where
  busy-first : is_busy (started d frame) ≡ ltb 0 (steps_of o frame)
  unfolding run
  busy-first = busy_as_told d frame o r.formed r.none r.header r.alike 0

  -- it starts a job only if it passes checks 1 to 7
  passes_by :
      ltb 0 (steps_of o frame) ≡ true → (b : Bool) → eqb (status_on_arrival d.image d.state.keys frame) 0 ≡ b →
      status_on_arrival d.image d.state.keys frame ≡ 0
  unfolding taken
  passes_by more true e = eqb-true _ 0 e
  passes_by more false e =
      let none = ap (λ (s : State). s.job.there) (arrived_fails d.image d.state frame e) ∙ r.none in
      absurd (never (sym none ∙ busy-first ∙ more))

  starts : ltb 0 (steps_of o frame) ≡ true → Working frame 0 o (started d frame)
  unfolding with_enabled run
  starts more =
      let work = working_at d frame r.none (r.formed.long (counter_of frame)) 0 (busy-first ∙ more) in
      record {
        found = d;
        formed = r.formed;
        none = r.none;
        header = r.header;
        alike = r.alike;
        passed = passes_by more _ refl;
        now = refl;
        at = work.0;
        left = work.1;
      }

  off_after : (started d frame).state.enabled ≡ false
  unfolding taken
  off_after =
      off_by (eqb (status_on_arrival d.image d.state.keys frame) 0) refl
    where
      off_by : (b : Bool) → eqb (status_on_arrival d.image d.state.keys frame) 0 ≡ b → (started d frame).state.enabled ≡ false
      off_by true e = ap (λ (s : State). s.enabled) (arrived_starts d.image d.state frame e)
      off_by false e = ap (λ (s : State). s.enabled) (arrived_fails d.image d.state frame e)

  pub taken_on : Sound (going frame 0 o false) (started d frame)
  unfolding going with_enabled run
  taken_on =
      either (λ (l : Ledger). Sound l (started d frame)) (ltb 0 (steps_of o frame)) _ _
      (λ more.
      record { accepted = accepted; enabled = off_after; state = (starts more, ltb-true 0 (steps_of o frame) more) })
      (λ end.
      record {
        accepted = accepted_whole o frame accepted;
        enabled = off_after;
        state = out d frame o r.formed r.none r.header r.alike 0 (started d frame).state.enabled end;
      })

-- a quota of steps
module _ (frame : List ℕ) (done : ℕ) (o : Outcome) (d : Device) (w : Working frame done o d) (m : ℕ) where
  abbrev start : Device
  start = started w.found frame

  pub now_after : run m d ≡ enabled_as d.state.enabled (run (m + done) start)
  now_after =
      ap (run m) w.now ∙ run_same d.state.enabled m (run done start)
      ∙ ap (enabled_as d.state.enabled) (sym (run_add m done start))

  pub enabled_after : (run m d).state.enabled ≡ d.state.enabled
  unfolding with_enabled
  enabled_after = ap (λ (x : Device). x.state.enabled) now_after

  pub busy-after : is_busy (run m d) ≡ ltb (m + done) (steps_of o frame)
  unfolding with_enabled
  busy-after = ap is_busy now_after ∙ busy_as_told w.found frame o w.formed w.none w.header w.alike (m + done)

  -- still under way: on the device that its frame found
  abbrev pub works_on : ltb (m + done) (steps_of o frame) ≡ true → Working frame (m + done) o (run m d)
  works_on more =
      let kind = kind_in (outcome w.found) frame in
      let on = progress kind (counter_of frame) (frame_kept frame) w.found.image done d w.at w.left m (busy-after ∙ more) in
      record {
        found = w.found;
        formed = w.formed;
        none = w.none;
        header = w.header;
        alike = w.alike;
        passed = w.passed;
        now = now_after ∙ ap (λ (b : Bool). enabled_as b (run (m + done) start)) (sym enabled_after);
        at = on.0;
        left = on.1;
      }

  -- or at its end: the device that its frame found has come to the page
  pub out_whole : ltb (m + done) (steps_of o frame) ≡ false → outcome (run m d) ≡ whole (outcome w.found) frame
  unfolding with_enabled
  out_whole end = ap outcome now_after ∙ comes_whole w.found frame o w.formed w.none w.header w.alike (m + done) end

  works_out : ltb (m + done) (steps_of o frame) ≡ false → Resting (whole o frame) (run m d)
  works_out end =
      subst (Resting (whole o frame)) (sym now_after)
      (out w.found frame o w.formed w.none w.header w.alike (m + done) d.state.enabled end)

  pub worked_on : (b : Bool) → d.state.enabled ≡ b → refusal o.image ≡ 0 → Sound (going frame (m + done) o b) (run m d)
  unfolding going
  worked_on b e accepted =
      either (λ (l : Ledger). Sound l (run m d)) (ltb (m + done) (steps_of o frame)) _ _
      (λ more.
      record { accepted = accepted; enabled = enabled_after ∙ e; state = (works_on more, ltb-true (m + done) (steps_of o frame) more) })
      (λ end. record { accepted = accepted_whole o frame accepted; enabled = enabled_after ∙ e; state = works_out end })
