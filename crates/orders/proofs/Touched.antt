-- What is never touched stays as it was, byte for byte: a work call alone changes the image, and only bytes in use of the slot of the
-- frame under way, which has passed check 5 and was taken. Assumes nothing.
use Prim.Native.Nat.{ℕ, ◌+◌, ◌<◌}
use mathlib.Core.Path.{◌≡◌, refl, ap, sym, ◌∙◌}
use mathlib.Core.Logic.{◌⊎◌, inl, inr, ⊎_elim}
use mathlib.Core.Bool.{Bool, true, false}
use mathlib.Core.List.{List, [], ◌∷◌, ◌++◌}
use native.Mathlib.Omega.{arith}
use borrow.Author.Tests.{eqb-true, eqb-false, eq-eqb, lt-ltb}
use lib.Dec.{eqb, ltb}
use lib.ListN.{length, get_or}
use Rattle.words.specs.Choice.{pick}
use Rattle.words.proofs.Choice.{never, either}
use Rattle.image.specs.Header.{count}
use Rattle.image.specs.Slot.{slot_of, is_bad}
use Rattle.image.specs.Refusal.{refusal}
use Rattle.image.specs.Laid.{Laid}
use Rattle.image.proofs.Laid.{SameHeader, same_place, accepted_laid}
use Rattle.frames.specs.declared.Class.{Class}
use Rattle.frames.specs.declared.Class.TheVariants.{Empty, EnableReset, Reset, Read, Unnamed, CommandFrame}
use Rattle.frames.specs.Classes.{class_of}
use Rattle.frames.specs.Layout.{counter_of}
use Rattle.state.specs.Parts.{power_on}
use Rattle.state.specs.Refusal.{device_refusal}
use Rattle.state.proofs.Running.{no_job_idle}
use Rattle.rules.specs.Whole.{Outcome, failed_with, whole}
use Rattle.rules.proofs.Taken.{below_count, long_enough, sound_slot, one_end}
use Rattle.progress.specs.Spared.{Spared}
use Rattle.progress.specs.Steps.{steps_of}
use Rattle.progress.proofs.Runs.{run_idle}
use Rattle.progress.proofs.Kept.{run-kept}
use Rattle.device.specs.Work.{Device, run}
use Rattle.device.specs.Calls.{device, outcome, powered_up, Call, PowerUp, Frame, Work, called}
use Rattle.counters.specs.Compared.{Counter, counter_in}
use Rattle.counters.specs.Reordering.{belongs, own_frames}
use Rattle.counters.proofs.WholeOwn.{others_kept}
use Rattle.orders.specs.Orders.{all_called}
use Rattle.orders.specs.Ledger.{Pending, None, Doing, Ledger, entry, going, taken, worked, interrupted, cut, heard, entered, ledger, opened}
use Rattle.orders.specs.Schedules.{taken_from, frame_taken, frames_taken}
use Rattle.orders.specs.Touched.{Untouched, Touches}
use Rattle.orders.proofs.Sound.{Working, AsPending, Sound}
use Rattle.orders.proofs.Interrupted.{below_now, header_found, others_found, header_as_if, left_behind}
use Rattle.orders.proofs.Ledger.{not-refused, next, all_sound, start_sound}
use Rattle.orders.proofs.Monotonic.{frame_image, work_image, call_header}

-- the header is that of what the ledger says
as_if_header : (p : Pending) (o : Outcome) (d : Device) → AsPending p o d → SameHeader d.image o.image
as_if_header None o d r = r.header
as_if_header (Doing frame done) o d (w, _) = header_as_if frame done o d w

-- whether a slot is bad goes by what is compared of its counter
pub bad_same : (i j : List ℕ) (c : ℕ) → counter_in i c ≡ counter_in j c → is_bad (slot_of i c) ≡ is_bad (slot_of j c)
unfolding is_bad counter_in
bad_same i j c e = rw (ap (λ (p : Counter). p.root_state) e, ap (λ (p : Counter). p.counter_state) e)

-- the frame under way is not the counter's own
abbrev NotOwn : ℕ → Pending → Type 0
NotOwn c None = Unit {0}
NotOwn c (Doing frame done) = belongs c frame ≡ false

-- no frame is
none-own : (c : ℕ) (frame : List ℕ) (more : List (List ℕ)) → own_frames c (frame ∷ more) ≡ [] → (belongs c frame ≡ false) × (own_frames c more ≡ [])
unfolding own_frames pick
none-own c frame more e = by (belongs c frame) refl e
  where
    by : (b : Bool) → belongs c frame ≡ b → pick b (frame ∷ own_frames c more) (own_frames c more) ≡ [] → (belongs c frame ≡ false) × (own_frames c more ≡ [])
    by true own e = absurd (omega (arith, ap length e))
    by false other e = (other, e)

none_own_append :
    (c : ℕ) (fs gs : List (List ℕ)) → own_frames c (fs ++ gs) ≡ [] → (own_frames c fs ≡ []) × (own_frames c gs ≡ [])
unfolding own_frames pick
none_own_append c [] gs e = (refl, e)
none_own_append c (frame ∷ fs) gs e =
    let first = none-own c frame (fs ++ gs) e in
    let more = none_own_append c fs gs first.1 in
    (rw first.0 more.0, more.1)

-- a call leaves under way a frame that was, or that it takes
module _ (c : ℕ) where
  going-not : (frame : List ℕ) (done : ℕ) (o : Outcome) (b : Bool) → belongs c frame ≡ false → NotOwn c (going frame done o b).pending
  unfolding going
  going-not frame done o b other = either (λ (l : Ledger). NotOwn c l.pending) (ltb done (steps_of o frame)) _ _ (λ _. other) (λ _. tt)

  taken_not :
      (p : Pending) (bytes : List ℕ) (o : Outcome) (b : Bool) → NotOwn c p → own_frames c (taken_from CommandFrame bytes (entry o p b)) ≡ [] →
      NotOwn c (taken p bytes o).pending
  taken_not None bytes o b _ none = going-not bytes 0 o false (none-own c bytes [] none).0
  taken_not (Doing frame done) bytes o b other none = other

  heard-not :
      (class : Class) (bytes : List ℕ) (l : Ledger) → NotOwn c l.pending → own_frames c (taken_from class bytes l) ≡ [] →
      NotOwn c (heard class bytes l).pending
  heard-not Empty bytes l other none = other
  heard-not EnableReset bytes l other none = other
  heard-not Reset bytes l other none = either (λ (x : Ledger). NotOwn c x.pending) l.enabled _ _ (λ _. tt) (λ _. other)
  heard-not Read bytes l other none = other
  heard-not CommandFrame bytes l other none = taken_not l.pending bytes l.as_if l.enabled other none
  heard-not Unnamed bytes l other none = other

  worked_not : (p : Pending) (quota : ℕ) (o : Outcome) (b : Bool) → NotOwn c p → NotOwn c (worked p quota o b).pending
  worked_not None quota o b other = tt
  worked_not (Doing frame done) quota o b other = going-not frame (quota + done) o b other

  call_not :
      (call : Call) (l : Ledger) → NotOwn c l.pending → own_frames c (frame_taken call l) ≡ [] → NotOwn c (entered call l).pending
  call_not PowerUp l other none = tt
  call_not (Frame bytes output) l other none = heard-not (class_of bytes) bytes l other none
  call_not (Work quota) l other none = worked_not l.pending quota l.as_if l.enabled other

-- a bad slot stays bad: a frame for its counter fails check 5, and a frame for another leaves it
module _ (c : ℕ) where
  abbrev BadIn : List ℕ → Type 0
  BadIn image = is_bad (slot_of image c) ≡ true

  abbrev Bad : Outcome → Type 0
  Bad o = BadIn o.image

  bad_by : (i j : List ℕ) → counter_in i c ≡ counter_in j c → BadIn j → BadIn i
  bad_by i j same bad = bad_same i j c same ∙ bad

  whole_bad_by :
      (o : Outcome) (frame : List ℕ) → Laid o.image → c < count o.image → Bad o → (own : Bool) → eqb c (counter_of frame) ≡ own →
      Bad (whole o frame)
  unfolding failed_with
  whole_bad_by o frame laid inside bad true own =
      one_end Bad o frame (λ passed. absurd (never (sym (sound_slot o frame passed) ∙ rw (← eqb-true c (counter_of frame) own) bad))) (λ status. bad)
  whole_bad_by o frame laid inside bad false own =
      bad_by (whole o frame).image o.image (others_kept o frame laid c inside (eqb-false c (counter_of frame) own)) bad

  whole_bad : (o : Outcome) (frame : List ℕ) → Laid o.image → c < count o.image → Bad o → Bad (whole o frame)
  whole_bad o frame laid inside bad = whole_bad_by o frame laid inside bad _ refl

  going_bad : (frame : List ℕ) (done : ℕ) (o : Outcome) (b : Bool) → Laid o.image → c < count o.image → Bad o → Bad (going frame done o b).as_if
  unfolding going
  going_bad frame done o b laid inside bad =
      either (λ (l : Ledger). Bad l.as_if) (ltb done (steps_of o frame)) _ _ (λ _. bad) (λ _. whole_bad o frame laid inside bad)

  -- so the frame under way is not for it
  not_for_bad : (frame : List ℕ) (done : ℕ) (o : Outcome) (d : Device) → Working frame done o d → c < count d.image → Bad o → c ≡ counter_of frame → ⊥
  not_for_bad frame done o d w inside bad own =
      let below : c < count w.found.image = rw (← (header_found frame done o d w).counters) inside in
      let as-found : BadIn w.found.image = bad_by w.found.image o.image (w.alike.counters c below) bad in
      never (sym (sound_slot (outcome w.found) frame w.passed) ∙ rw (← own) as-found)

  interrupted_bad : (p : Pending) (o : Outcome) (d : Device) → AsPending p o d → c < count d.image → Bad o → Bad (interrupted p o)
  interrupted_bad None o d r inside bad = bad
  interrupted_bad (Doing frame done) o d (w, _) inside bad =
      let below : c < count w.found.image = rw (← (header_found frame done o d w).counters) inside in
      let found = others_found frame done o d w c below (not_for_bad frame done o d w inside bad) ∙ w.alike.counters c below in
      bad_by _ o.image (sym ((left_behind frame done o d w).counters c inside) ∙ found) bad

  taken_bad : (p : Pending) (bytes : List ℕ) (o : Outcome) → Laid o.image → c < count o.image → Bad o → Bad (taken p bytes o).as_if
  taken_bad None bytes o laid inside bad = going_bad bytes 0 o false laid inside bad
  taken_bad (Doing frame done) bytes o laid inside bad = bad

  worked_bad : (p : Pending) (quota : ℕ) (o : Outcome) (b : Bool) → Laid o.image → c < count o.image → Bad o → Bad (worked p quota o b).as_if
  worked_bad None quota o b laid inside bad = bad
  worked_bad (Doing frame done) quota o b laid inside bad = going_bad frame (quota + done) o b laid inside bad

  module _ (l : Ledger) (d : Device) (sound : Sound l d) (inside : c < count d.image) (bad : Bad l.as_if) where
    laid : Laid l.as_if.image
    laid = accepted_laid l.as_if.image sound.accepted

    below : c < count l.as_if.image
    below = rw (← (as_if_header l.pending l.as_if d sound.state).counters) inside

    cut_bad : Bad (cut l).as_if
    cut_bad = interrupted_bad l.pending l.as_if d sound.state inside bad

    heard_bad : (class : Class) (bytes : List ℕ) → Bad (heard class bytes l).as_if
    heard_bad Empty bytes = bad
    heard_bad EnableReset bytes = bad
    heard_bad Reset bytes = either (λ (x : Ledger). Bad x.as_if) l.enabled _ _ (λ _. cut_bad) (λ _. bad)
    heard_bad Read bytes = bad
    heard_bad CommandFrame bytes = taken_bad l.pending bytes l.as_if laid below bad
    heard_bad Unnamed bytes = bad

    call_bad : (call : Call) → Bad (entered call l).as_if
    call_bad PowerUp = cut_bad
    call_bad (Frame bytes output) = heard_bad (class_of bytes) bytes
    call_bad (Work quota) = worked_bad l.pending quota l.as_if l.enabled laid below bad

-- byte i is not one that the rest of an order may change
abbrev Free : Pending → Outcome → List ℕ → List (List ℕ) → ℕ → Type 0
Free p o image frames i =
    (c : ℕ) → c < count image → Spared image c i ⊎ (is_bad (slot_of o.image c) ≡ true) ⊎ (NotOwn c p × (own_frames c frames ≡ []))

-- so no step changes it
module _ (d : Device) (accepted : device_refusal d.image d.state ≡ 0) (i quota : ℕ) where
  own-frame : (frame : List ℕ) (done : ℕ) (o : Outcome) → Working frame done o d → belongs (counter_of frame) frame ≡ true
  unfolding belongs pick
  own-frame frame done o w = rw (lt-ltb 2 (length frame) (long_enough (outcome w.found) frame w.passed), eq-eqb (counter_of frame) (counter_of frame) refl)

  work_kept :
      (p : Pending) (o : Outcome) → AsPending p o d → (frames : List (List ℕ)) → Free p o d.image frames i →
      get_or (run quota d).image i 0 ≡ get_or d.image i 0
  work_kept None o r frames free = ap (λ (x : Device). get_or x.image i 0) (run_idle quota d (no_job_idle d.state r.none))
  work_kept (Doing frame done) o (w, _) frames free =
      let inside = below_now frame done o d w in
      ⊎_elim (λ spared. run-kept quota d accepted i (rw w.at.counter_kept spared))
      (⊎_elim (λ bad. absurd (not_for_bad (counter_of frame) frame done o d w inside bad refl))
      (λ other. absurd (never (sym other.0 ∙ own-frame frame done o w)))) (free (counter_of frame) inside)

module _
    (l : Ledger) (d : Device) (sound : Sound l d) (i : ℕ) (call : Call) (frames : List (List ℕ))
    (free : Free l.pending l.as_if d.image (frame_taken call l ++ frames) i) where
  byte-kept : get_or (called call d).image i 0 ≡ get_or d.image i 0
  byte-kept = by call free
    where
      by : (call : Call) → Free l.pending l.as_if d.image (frame_taken call l ++ frames) i → get_or (called call d).image i 0 ≡ get_or d.image i 0
      by PowerUp free = refl
      by (Frame bytes output) free = ap (λ (x : List ℕ). get_or x i 0) (frame_image l d sound bytes output)
      by (Work quota) free =
          ap (λ (x : List ℕ). get_or x i 0) (work_image l d sound quota)
          ∙ work_kept d (not-refused l d sound) i quota l.pending l.as_if sound.state frames free

  still_free : Free (entered call l).pending (entered call l).as_if (called call d).image frames i
  still_free c inside =
      let header = call_header l d sound call in
      let before : c < count d.image = rw (← header.counters) inside in
      ⊎_elim (λ spared. inl (rw (same_place (called call d).image d.image c header, header.each) spared))
      (⊎_elim (λ bad. inr (inl (call_bad c l d sound before bad call)))
      (λ other.
      let none = none_own_append c (frame_taken call l) frames other.1 in
      inr (inr (call_not c call l other.0 none.0, none.1))))
      (free c before)

all-kept :
    (calls : List Call) (l : Ledger) (d : Device) → Sound l d → (i : ℕ) → Free l.pending l.as_if d.image (frames_taken calls l) i →
    get_or (all_called calls d).image i 0 ≡ get_or d.image i 0
unfolding all_called frames_taken
all-kept [] l d sound i free = refl
all-kept (call ∷ more) l d sound i free =
    all-kept more (entered call l) (called call d) (next call l d sound) i (still_free l d sound i call (frames_taken more (entered call l)) free)
    ∙ byte-kept l d sound i call (frames_taken more (entered call l)) free

-- From power-up on an accepted image.
pub never_touched :
    (image : List ℕ) → refusal image ≡ 0 → (calls : List Call) (i : ℕ) → Untouched image calls i →
    get_or (all_called calls (device image power_on)).image i 0 ≡ get_or image i 0
never_touched image accepted calls i untouched =
    all-kept calls (opened image) (device image power_on) (start_sound image accepted) i
    (λ c inside. ⊎_elim (λ spared. inl spared) (⊎_elim (λ bad. inr (inl bad)) (λ none. inr (inr (tt, none)))) (untouched c inside))

-- a call changes nothing but bytes in use of the slot of the frame under way
module _ (l : Ledger) (d : Device) (sound : Sound l d) (i : ℕ) where
  abbrev Changed : Call → Type 0
  Changed call = get_or (called call d).image i 0 ≡ get_or d.image i 0 → ⊥

  as_steps : (quota : ℕ) → get_or (called (Work quota) d).image i 0 ≡ get_or (run quota d).image i 0
  as_steps quota = ap (λ (x : List ℕ). get_or x i 0) (work_image l d sound quota)

  work_touches : (p : Pending) → l.pending ≡ p → AsPending p l.as_if d → (quota : ℕ) → Changed (Work quota) → Touches l (Work quota) d.image i
  work_touches None e r quota changed =
      absurd (changed (as_steps quota ∙ ap (λ (x : Device). get_or x.image i 0) (run_idle quota d (no_job_idle d.state r.none))))
  work_touches (Doing frame done) e (w, _) quota changed =
      let below = below_count (outcome w.found) frame w.passed in
      record {
        frame = frame;
        done = done;
        quota = quota;
        worked = refl;
        under-way = e;
        below = below_now frame done l.as_if d w;
        sound =
            sym (bad_same w.found.image l.as_if.image (counter_of frame) (w.alike.counters (counter_of frame) below))
            ∙ sound_slot (outcome w.found) frame w.passed;
        in_use =
            λ spared.
            changed (as_steps quota ∙ run-kept quota d (not-refused l d sound) i (rw w.at.counter_kept spared));
      }

  touches_by : (call : Call) → Changed call → Touches l call d.image i
  unfolding powered_up
  touches_by PowerUp changed = absurd (changed refl)
  touches_by (Frame bytes output) changed = absurd (changed (ap (λ (x : List ℕ). get_or x i 0) (frame_image l d sound bytes output)))
  touches_by (Work quota) changed = work_touches l.pending refl sound.state quota changed

pub touches_its_own :
    (image : List ℕ) → refusal image ≡ 0 → (calls : List Call) (call : Call) (i : ℕ) →
    (get_or (called call (all_called calls (device image power_on))).image i 0 ≡ get_or (all_called calls (device image power_on)).image i 0 → ⊥) →
    Touches (ledger calls (opened image)) call (all_called calls (device image power_on)).image i
touches_its_own image accepted calls call i =
    touches_by (ledger calls (opened image)) (all_called calls (device image power_on))
    (all_sound calls (opened image) (device image power_on) (start_sound image accepted)) i call

same_length_by : (calls : List Call) (l : Ledger) (d : Device) → Sound l d → length (all_called calls d).image ≡ length d.image
unfolding all_called
same_length_by [] l d sound = refl
same_length_by (call ∷ more) l d sound = same_length_by more (entered call l) (called call d) (next call l d sound) ∙ (call_header l d sound call).size

pub same_length : (image : List ℕ) → refusal image ≡ 0 → (calls : List Call) → length (all_called calls (device image power_on)).image ≡ length image
same_length image accepted calls = same_length_by calls (opened image) (device image power_on) (start_sound image accepted)
