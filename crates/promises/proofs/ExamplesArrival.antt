-- The examples that are decided on arrival: P1 to P8 and P13, and the frames of P14. Assumes nothing.
use Prim.Native.Nat.{ℕ, ◌≤◌, ◌<◌}
use mathlib.Core.Path.{◌≡◌, refl, ap, sym, subst, ◌∙◌}
use mathlib.Core.Bool.{Bool, true, false}
use mathlib.Core.List.{List, [], ◌∷◌}
use native.Mathlib.Omega.{arith}
use borrow.Author.Tests.{lt-ltb, le-ltb, eq-eqb}
use lib.Dec.{eqb}
use lib.ListN.{length, get_or, drop}
use Rattle.words.specs.Choice.{pick}
use Rattle.words.specs.Rows.{first_of, first_failing}
use Rattle.image.specs.Slot.{is_bad}
use Rattle.frames.specs.Classes.{named_class, class_of}
use Rattle.frames.specs.Layout.{layout_of, counter_of}
use Rattle.frames.proofs.Layouts.{long_frames}
use Rattle.checks.specs.Checks.{arrival_checks, arrival_status}
use Rattle.state.specs.Parts.{session_key}
use Rattle.arrival.specs.Arrival.{taken}
use Rattle.rules.specs.Whole.{status_on_arrival}
use Rattle.arrival.proofs.Arrives.{arrived_fails}
use Rattle.device.specs.Frame.{with_enabled}
use Rattle.device.specs.Work.{Device}
use Rattle.device.specs.Calls.{device, Frame, called}
use Rattle.progress.proofs.Enabled.{enabled_as}
use Rattle.orders.specs.Orders.{all_called}
use Rattle.promises.specs.Examples.{P1, P2, P3, P4, P5, P6, P7, P8, P13, P14-while-busy, Ready, Idle, slot_for, Shaped, InOrder, script, NotReset, IdleWith}
use Rattle.promises.proofs.ExamplesCalls.{Holds, frame-called, ready_enabled, command-called}

-- a frame with its length in order has two bytes or more
pub shaped_long : (type : ℕ) (frame : List ℕ) → type ≤ 3 → Shaped type frame → 1 < length frame
shaped_long type frame known shaped = rw shaped.sized (omega (arith, long_frames type known))

module _ (d : Device) (ready : Ready d) (frame output : List ℕ) where
  abbrev c : ℕ
  c = counter_of frame

  abbrev has_key : Bool
  has_key = (session_key d.state c).there

  -- the checks on arrival from a row on, of a frame whose length and reserved byte are in order
  abbrev pub from_row : ℕ → ℕ → ℕ
  from_row i type = first_failing (drop i (arrival_checks type (layout_of type).size 0 c 4 (slot_for d frame) has_key))

  -- checks 1 to 3 do not fail
  past_shape : (type : ℕ) → type ≤ 3 → Shaped type frame → status_on_arrival d.image d.state.keys frame ≡ from_row 3 type
  unfolding status_on_arrival arrival_status first_of pick
  past_shape type known shaped =
      rw (
        shaped.typed,
        le-ltb 3 type known,
        eq-eqb (length frame) (layout_of type).size shaped.sized,
        shaped.reserved,
        ready.four,
      )

  -- nor does check 4
  pub past_counter : (type : ℕ) → type ≤ 3 → InOrder type frame → status_on_arrival d.image d.state.keys frame ≡ from_row 5 type
  unfolding first_of pick
  past_counter type known in_order = past_shape type known in_order.shaped ∙ rw (lt-ltb c 4 in_order.named)

  -- a frame that fails on arrival ends with its status
  fails :
      Idle d → get_or frame 0 0 ≡ 0x9B → 1 < length frame → (status : ℕ) → status_on_arrival d.image d.state.keys frame ≡ status → eqb status 0 ≡ false →
      IdleWith status (called (Frame frame output) d)
  unfolding taken
  fails idle first long status decided bad =
      let failed = arrived_fails d.image d.state frame (rw decided bad) in
      let after = command-called d ready output idle frame first long ∙ ap (device d.image) failed in
      subst (IdleWith status) (sym after) (idle, decided)

  shaped_fails :
      Idle d → (type : ℕ) → type ≤ 3 → Shaped type frame → (status : ℕ) → status_on_arrival d.image d.state.keys frame ≡ status → eqb status 0 ≡ false →
      IdleWith status (called (Frame frame output) d)
  shaped_fails idle type known shaped = fails idle shaped.first (shaped_long type frame known shaped)

  pub alone : Holds P1 d frame output
  unfolding all_called class_of named_class with_enabled pick
  alone e = rw e (ap (λ (after : Device). after.state.status) (frame-called d ready output (0x9B ∷ [])))

  pub short : Holds P2 d frame output
  unfolding all_called status_on_arrival arrival_status first_of pick
  short (idle, e) = fails idle (rw e) (rw e (omega arith)) 0x04 (rw e) refl

  pub unknown_type : Holds P3 d frame output
  unfolding all_called status_on_arrival arrival_status first_of pick
  unknown_type (idle, e) = fails idle (rw e) (rw e (omega arith)) 0x04 (rw e) refl

  pub root_key_beyond : Holds P4 d frame output
  unfolding all_called first_of pick
  root_key_beyond (idle, shaped, beyond) = shaped_fails idle 0 (omega arith) shaped 0x06 (past_shape 0 (omega arith) shaped ∙ rw beyond) refl

  pub session_key_beyond : Holds P5 d frame output
  unfolding all_called first_of pick
  session_key_beyond (idle, shaped, beyond) = shaped_fails idle 1 (omega arith) shaped 0x04 (past_shape 1 (omega arith) shaped ∙ rw beyond) refl

  -- a frame in order that fails by its slot or its session key
  slot_fails :
      Idle d → (type : ℕ) → type ≤ 3 → InOrder type frame → (status : ℕ) → from_row 5 type ≡ status → eqb status 0 ≡ false →
      IdleWith status (called (Frame frame output) d)
  slot_fails idle type known in_order status decided = shaped_fails idle type known in_order.shaped status (past_counter type known in_order ∙ decided)

  pub session_key-unset : Holds P6 d frame output
  unfolding all_called first_of pick
  session_key-unset (idle, in_order, sane, unset) = slot_fails idle 1 (omega arith) in_order 0x02 (rw (sane, unset)) refl

  pub request_without_key : Holds P7 d frame output
  unfolding all_called first_of pick
  request_without_key (idle, in_order, sane, set, none) = slot_fails idle 3 (omega arith) in_order 0x08 (rw (sane, set, none)) refl

  pub root_key-set : Holds P8 d frame output
  unfolding all_called first_of pick
  root_key-set (idle, in_order, sane, set) = slot_fails idle 0 (omega arith) in_order 0x02 (rw (sane, set)) refl

  pub bad_slot : Holds P13 d frame output
  unfolding all_called first_of is_bad pick
  bad_slot (idle, in_order, root) = slot_fails idle 3 (omega arith) in_order 0x20 (rw root) refl

  -- reset-enable goes on, the read clears it, and the reset finds it off: whether a job is there or not
  pub no_reset : NotReset d (all_called (script P14-while-busy frame output) d)
  unfolding all_called class_of named_class with_enabled pick
  no_reset =
      let on = frame-called d ready output (0x66 ∷ []) in
      let off = frame-called (enabled_as true d) (ready_enabled d ready output true) output (0x96 ∷ 0x00 ∷ []) in
      let still = frame-called (enabled_as false d) (ready_enabled d ready output false) output (0x99 ∷ []) in
      let after = ap (all_called (Frame (0x96 ∷ 0x00 ∷ []) output ∷ Frame (0x99 ∷ []) output ∷ [])) on ∙ ap (called (Frame (0x99 ∷ []) output)) off ∙ still in
      subst (NotReset d) (sym after) (record { status = refl; keys = refl; reply = refl; job = refl; image = refl })
