-- What a frame that no check fails has met, and the two ends that a frame comes to. Assumes nothing.
use Prim.Native.Nat.{ℕ, ◌≤◌, ◌<◌}
use mathlib.Core.Path.{◌≡◌, refl, sym}
use mathlib.Core.Bool.{Bool, true, false, not}
use mathlib.Core.List.{List}
use native.Mathlib.Omega.{arith}
use borrow.Author.Tests.{ltb-true, ltb-false, eqb-true, eqb-false, not-false, lt-ltb}
use lib.Dec.{ltb, eqb}
use lib.ListN.{length}
use Rattle.words.specs.Choice.{pick}
use Rattle.words.specs.Rows.{Row}
use Rattle.words.proofs.Choice.{never, either}
use Rattle.words.proofs.Rows.{none_fails}
use Rattle.image.specs.Header.{count}
use Rattle.image.specs.declared.Slot.{Slot}
use Rattle.image.specs.Slot.{slot_of, is_set, is_bad}
use Rattle.frames.specs.Layout.{layout_of, type_of, counter_of}
use Rattle.frames.proofs.Layouts.{long_frames}
use Rattle.jobs.specs.Jobs.{root_kind, kind_of}
use Rattle.jobs.specs.declared.Kind.{Kind}
use Rattle.jobs.specs.declared.Kind.TheVariants.{RootKeyAndCounter, RootKey, SessionKey, Increment, Request, TemporaryKeyAndCounter, TemporaryKey}
use Rattle.checks.specs.Checks.{checks_of, arrival_status}
use Rattle.rules.specs.Whole.{Outcome, frame_kept, is_temporary, kind_in, key_in, status_on_arrival, all_checks, failed_with, carried_out, whole}
use Rattle.rules.proofs.TenChecks.{all_pass}

-- what is known of the slot when a kind of job starts
abbrev pub Facts : Kind → Slot → Type 0
Facts RootKeyAndCounter slot = (is_set slot.root_state ≡ false) × (is_set slot.counter_state ≡ false)
Facts RootKey slot = (is_set slot.root_state ≡ false) × (is_set slot.counter_state ≡ true)
Facts TemporaryKeyAndCounter slot = (is_set slot.root_state ≡ false) × (is_set slot.counter_state ≡ false)
Facts TemporaryKey slot = (is_set slot.root_state ≡ false) × (is_set slot.counter_state ≡ true)
Facts SessionKey slot = Unit {0}
Facts Increment slot = is_set slot.counter_state ≡ true
Facts Request slot = is_set slot.counter_state ≡ true

-- check 7 passed: the counter is set
ready : (s k : Bool) → pick s (not k) true ≡ false → s ≡ true
unfolding pick
ready true k e = refl
ready false k e = absurd (never (sym e))

-- a type that is neither 00 nor 01
above : (type : ℕ) → eqb type 0 ≡ false → eqb type 1 ≡ false → ltb 1 type ≡ true
above type t u = lt-ltb 1 type (omega (arith, eqb-false type 0 t, eqb-false type 1 u))

-- a frame that passes checks 1 to 7: its counter is below the count, and its slot and session key are in order
module _ (o : Outcome) (frame : List ℕ) (passed : status_on_arrival o.image o.keys frame ≡ 0) where
  abbrev c : ℕ
  c = counter_of frame

  abbrev slot : Slot
  slot = slot_of o.image c

  abbrev rows : List (Row ℕ)
  rows = checks_of frame (count o.image) slot (key_in o frame).there

  row : (i : ℕ) → Rattle.words.proofs.Rows.holds_at rows i ≡ false
  unfolding status_on_arrival arrival_status pick
  row = none_fails rows refl passed

  pub below_count : c < count o.image
  below_count = ltb-true c (count o.image) (not-false _ (row 4))

  pub type_named : type_of frame ≤ 3
  type_named = ltb-false 3 (type_of frame) (row 0)

  pub long_enough : 2 < length frame
  long_enough =
      let size = eqb-true (length frame) (layout_of (type_of frame)).size (not-false _ (row 1)) in
      omega (arith, size, long_frames (type_of frame) type_named)

  pub sound_slot : is_bad slot ≡ false
  sound_slot = row 5

  pub root-unset : eqb (type_of frame) 0 ≡ true → is_set slot.root_state ≡ false
  unfolding pick
  root-unset t = rw t at (row 6)

  pub counter_set : eqb (type_of frame) 0 ≡ false → eqb (type_of frame) 1 ≡ false → is_set slot.counter_state ≡ true
  unfolding pick
  counter_set t u = ready (is_set slot.counter_state) (key_in o frame).there (rw (above (type_of frame) t u) at (row 7))

  -- what is known of the slot, by the kind of job
  pub facts : Facts (kind_in o frame) slot
  unfolding kind_of root_kind
  facts =
      either (λ kind. Facts kind slot) (eqb (type_of frame) 0) _ _
      (λ t.
      let unset = root-unset t in
      either (λ kind. Facts kind slot) (is_temporary (frame_kept frame)) _ _
      (λ _. either (λ kind. Facts kind slot) (is_set slot.counter_state) _ _ (λ set. (unset, set)) (λ set. (unset, set)))
      (λ _. either (λ kind. Facts kind slot) (is_set slot.counter_state) _ _ (λ set. (unset, set)) (λ set. (unset, set))))
      (λ t.
      either (λ kind. Facts kind slot) (eqb (type_of frame) 1) _ _ (λ _. tt)
      (λ u. either (λ kind. Facts kind slot) (eqb (type_of frame) 2) _ _ (λ _. counter_set t u) (λ _. counter_set t u)))

-- a frame comes to one of two ends: a check fails, or all checks are passed, those on arrival too
pub one_end :
    (P : Outcome → Type 0) (o : Outcome) (frame : List ℕ) →
    (status_on_arrival o.image o.keys frame ≡ 0 → P (carried_out (kind_in o frame) o frame)) →
    ((status : ℕ) → P (failed_with status o)) → P (whole o frame)
unfolding whole
one_end P o frame carried refused =
    either P (eqb (all_checks o frame) 0) (carried_out (kind_in o frame) o frame) (failed_with (all_checks o frame) o)
    (λ e. carried (all_pass o frame (eqb-true (all_checks o frame) 0 e)).0)
    (λ _. refused (all_checks o frame))
