-- Which call changes the value of a set counter, along any order of calls: work with the last step of an increment of it, whose signature
-- verified and whose data was the value; and it changes by 1. Assumes nothing.
use Prim.Native.Nat.{ℕ, suc, ◌+◌, ◌^◌, ◌<◌}
use mathlib.Core.Path.{◌≡◌, refl, ap, sym, ◌∙◌}
use mathlib.Core.Bool.{Bool, true, false}
use mathlib.Core.List.{List}
use borrow.Author.Tests.{eqb-true, eqb-false, ltb-false}
use lib.Dec.{eqb}
use Rattle.words.specs.Words.{Bytes}
use Rattle.image.specs.Header.{count}
use Rattle.image.specs.Slot.{slot_of, is_set}
use Rattle.image.specs.Refusal.{refusal}
use Rattle.frames.specs.Layout.{counter_of}
use Rattle.state.specs.Parts.{power_on}
use Rattle.state.proofs.Running.{no_job_idle}
use Rattle.rules.proofs.Passed.{data_was_the_value}
use Rattle.progress.specs.Steps.{steps_of}
use Rattle.progress.proofs.Runs.{run_idle}
use Rattle.device.specs.Work.{Device}
use Rattle.device.specs.Calls.{device, outcome, powered_up, Call, PowerUp, Frame, Work, called}
use Rattle.counters.specs.Compared.{counter_in}
use Rattle.orders.specs.Orders.{all_called}
use Rattle.orders.specs.Ledger.{Pending, None, Doing, Ledger, ledger, opened}
use Rattle.orders.specs.Growing.{Counts}
use Rattle.orders.proofs.Sound.{Working, AsPending, Sound}
use Rattle.orders.proofs.Ledger.{all_sound, start_sound}
use Rattle.orders.proofs.Monotonic.{frame_image, work_image, call_grows, calls_grow, calls_header, value_word}
use Rattle.orders.proofs.Counting.{Increments, increments_by, last-passed, shown, one_more, typed, verified_as_if, shown-value, seen, other_counter}

-- the frame under way is the counter's own
module _
    (l : Ledger) (d : Device) (sound : Sound l d) (frame : List ℕ) (done : ℕ) (under-way : l.pending ≡ Doing frame done)
    (w : Working frame done l.as_if d) (left : done < steps_of l.as_if frame) (quota : ℕ) (inside : counter_of frame < count d.image)
    (word : (counter_in d.image (counter_of frame)).value < 2 ^ 32) (set : is_set (slot_of d.image (counter_of frame)).counter_state ≡ true)
    (changed : (slot_of (called (Work quota) d).image (counter_of frame)).value ≡ (slot_of d.image (counter_of frame)).value → ⊥) where
  abbrev c : ℕ
  c = counter_of frame

  told : Increments frame done l.as_if d w left quota
  told =
      increments_by frame done l.as_if d w left quota
      (λ same. seen l d sound c inside word set (Work quota) changed (ap (λ (i : List ℕ). (counter_in i c).value) (work_image l d sound quota) ∙ same))
      _ _ refl refl

  by_one : (slot_of (called (Work quota) d).image c).value ≡ suc (slot_of d.image c).value
  unfolding counter_in
  by_one =
      let still = (call_grows l d sound (Work quota) c inside).set set in
      sym (shown-value (called (Work quota) d).image c still) ∙ ap (λ (i : List ℕ). (counter_in i c).value) (work_image l d sound quota)
      ∙ one_more frame done l.as_if d w left quota told.ended told.passed told.increments word ∙ ap suc (shown-value d.image c set)

  own_counts : Counts l (Work quota) d.image (called (Work quota) d).image c
  own_counts =
      let t = told in
      record {
        frame = frame;
        done = done;
        quota = quota;
        worked = refl;
        under-way = under-way;
        own = refl;
        increment = typed frame done l.as_if d w left quota t.ended t.passed t.increments word;
        verified = verified_as_if frame done l.as_if d w left quota t.ended t.passed t.increments word;
        was-the-value =
            data_was_the_value (outcome w.found) frame (last-passed frame done l.as_if d w left quota t.ended t.passed t.increments word)
            ∙ sym (shown frame done l.as_if d w left quota t.ended t.passed t.increments word) ∙ shown-value d.image c set;
        last_step = (left, ltb-false (quota + done) (steps_of l.as_if frame) t.ended);
        by_one = by_one;
      }

-- any call
module _
    (l : Ledger) (d : Device) (sound : Sound l d) (c : ℕ) (inside : c < count d.image) (word : (counter_in d.image c).value < 2 ^ 32)
    (set : is_set (slot_of d.image c).counter_state ≡ true) where
  abbrev Changed : Call → Type 0
  Changed call = (slot_of (called call d).image c).value ≡ (slot_of d.image c).value → ⊥

  -- work, by whether the frame under way is the counter's own
  own_by :
      (frame : List ℕ) (done : ℕ) → l.pending ≡ Doing frame done → Working frame done l.as_if d → done < steps_of l.as_if frame →
      (quota : ℕ) → Changed (Work quota) → (own : Bool) → eqb c (counter_of frame) ≡ own →
      Counts l (Work quota) d.image (called (Work quota) d).image c
  own_by frame done under-way w left quota changed true own =
      let e = eqb-true c (counter_of frame) own in
      rw e (own_counts l d sound frame done under-way w left quota (rw e at inside) (rw e at word) (rw e at set) (rw e at changed))
  own_by frame done under-way w left quota changed false own =
      absurd
      (seen l d sound c inside word set (Work quota) changed
      (ap (λ (i : List ℕ). (counter_in i c).value) (work_image l d sound quota)
      ∙ other_counter l d sound c inside word set frame done quota w left (eqb-false c (counter_of frame) own) _ refl))

  work_by :
      (p : Pending) → l.pending ≡ p → AsPending p l.as_if d → (quota : ℕ) → Changed (Work quota) →
      Counts l (Work quota) d.image (called (Work quota) d).image c
  work_by None e r quota changed =
      absurd
      (changed
      (ap (λ (i : List ℕ). (slot_of i c).value) (work_image l d sound quota)
      ∙ ap (λ (x : Device). (slot_of x.image c).value) (run_idle quota d (no_job_idle d.state r.none))))
  work_by (Doing frame done) e (w, left) quota changed = own_by frame done e w left quota changed _ refl

  pub counts : (call : Call) → Changed call → Counts l call d.image (called call d).image c
  unfolding powered_up
  counts PowerUp changed = absurd (changed refl)
  counts (Frame bytes output) changed = absurd (changed (ap (λ (i : List ℕ). (slot_of i c).value) (frame_image l d sound bytes output)))
  counts (Work quota) changed = work_by l.pending refl sound.state quota changed

-- From power-up on an accepted image of bytes, after any calls.
pub counts_by_one :
    (image : List ℕ) → refusal image ≡ 0 → Bytes image → (calls : List Call) (call : Call) (c : ℕ) → c < count image →
    is_set (slot_of (all_called calls (device image power_on)).image c).counter_state ≡ true →
    ((slot_of (called call (all_called calls (device image power_on))).image c).value ≡ (slot_of (all_called calls (device image power_on)).image c).value → ⊥) →
    Counts (ledger calls (opened image)) call (all_called calls (device image power_on)).image (called call (all_called calls (device image power_on))).image c
counts_by_one image accepted bytes calls call c inside set changed =
    let start = start_sound image accepted in
    let first = device image power_on in
    counts (ledger calls (opened image)) (all_called calls first) (all_sound calls (opened image) first start) c
    (rw (calls_header calls (opened image) first start) inside)
    ((calls_grow calls (opened image) first start c inside).value (value_word image bytes c)).1 set call changed
