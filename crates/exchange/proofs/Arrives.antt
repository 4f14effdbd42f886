-- A built frame passes checks 1 to 3 whatever the device, and 4 to 7 from what is asked of its counter. Its first four bytes and its
-- length are those of its row of the frame table. Assumes nothing.
use Prim.Native.Nat.{ℕ, ◌+◌, ◌≤◌}
use mathlib.Core.Path.{◌≡◌, refl}
use mathlib.Core.Bool.{Bool, true, false}
use mathlib.Core.List.{List, ◌++◌}
use native.Mathlib.Omega.{arith}
use borrow.Author.Tests.{lt-ltb, le-ltb, eq-eqb, ne_eqb}
use lib.Dec.{eqb}
use lib.ListN.{length, get_or, take, length-append}
use Rattle.words.specs.Choice.{pick}
use Rattle.words.specs.Table.{field}
use Rattle.words.specs.Rows.{first_of, first_failing}
use Rattle.words.proofs.Table.{length-table}
use Rattle.hmac.specs.Hmac.{HMAC}
use Rattle.hmac.proofs.Lengths.{length-HMAC}
use Rattle.image.specs.Header.{count}
use Rattle.image.specs.declared.Slot.{Slot}
use Rattle.image.specs.Slot.{slot_of}
use Rattle.frames.specs.declared.Class.TheVariants.{CommandFrame}
use Rattle.frames.specs.Classes.{class_of, named_class}
use Rattle.frames.specs.Layout.{layout_of, type_of, counter_of, reserved_of}
use Rattle.frames.proofs.Layouts.{long_frames}
use Rattle.checks.specs.Checks.{wrong_state, not_ready, checks_of, arrival_status}
use Rattle.rules.specs.Whole.{Outcome, status_on_arrival}
use Rattle.host.specs.Frames.{head, signed_by, root_key_frame, session_key_frame, increment_frame, request_frame}
use Rattle.exchange.specs.Built.{HostFrame, RootKeyBuilt, SessionKeyBuilt, IncrementBuilt, RequestBuilt, frame_of, Sized, session_of, CounterInOrder, Awaited}

-- the type of a built frame
abbrev pub type_built : HostFrame → ℕ
type_built (RootKeyBuilt key) = 0
type_built (SessionKeyBuilt root key_data) = 1
type_built (IncrementBuilt key value) = 2
type_built (RequestBuilt key tag) = 3

-- a frame of a type for a counter: head and length
pub record Form (type counter : ℕ) (frame : List ℕ) : Type 0 where
  pub first : get_or frame 0 0 ≡ 0x9B
  pub known : type ≤ 3
  pub typed : type_of frame ≡ type
  pub named : counter_of frame ≡ counter
  pub reserved : reserved_of frame ≡ 0
  pub sized : length frame ≡ (layout_of type).size

form_of : (type counter : ℕ) (rest : List ℕ) → type ≤ 3 → 4 + length rest ≡ (layout_of type).size → Form type counter (head type counter ++ rest)
form_of type counter rest known size =
    record { first = refl; known = known; typed = refl; named = refl; reserved = refl; sized = omega (arith, size) }

-- of what is signed: data and a signature of 32 bytes behind the head
signed_form :
    (type counter : ℕ) (key bytes : List ℕ) → type ≤ 3 → 4 + (length bytes + 32) ≡ (layout_of type).size →
    Form type counter (signed_by key (head type counter ++ bytes))
unfolding signed_by
signed_form type counter key bytes known size =
    let signature = HMAC key (head type counter ++ bytes) in
    form_of type counter (bytes ++ signature) known (omega (arith, length-append bytes signature, length-HMAC key (head type counter ++ bytes), size))

pub built_form : (b : HostFrame) (counter : ℕ) → Sized b → Form (type_built b) counter (frame_of counter b)
unfolding root_key_frame session_key_frame increment_frame request_frame
built_form (RootKeyBuilt key) counter size =
    let signature = field 4 28 (HMAC key (head 0 counter)) in
    let short : length signature ≡ 28 = length-table _ 28 in
    form_of 0 counter (key ++ signature) (omega arith) (omega (arith, length-append key signature, short, size))
built_form (SessionKeyBuilt root key_data) counter size = signed_form 1 counter _ key_data (omega arith) (omega (arith, size))
built_form (IncrementBuilt key value) counter size = signed_form 2 counter _ value (omega arith) (omega (arith, size))
built_form (RequestBuilt key tag) counter size = signed_form 3 counter _ tag (omega arith) (omega (arith, size))

module _ (type counter : ℕ) (frame : List ℕ) (form : Form type counter frame) where
  pub is_command : class_of frame ≡ CommandFrame
  unfolding class_of named_class pick
  is_command =
      let long = long_frames type form.known in
      rw (form.first, ne_eqb (length frame) 0 (λ none. omega (arith, none, long, form.sized)), lt-ltb 1 (length frame) (omega (arith, long, form.sized)))

  right_size : eqb (length frame) (layout_of type).size ≡ true
  right_size = eq-eqb (length frame) (layout_of type).size form.sized

  first_three : (counters : ℕ) (slot : Slot) (has_key : Bool) → first_failing (take 3 (checks_of frame counters slot has_key)) ≡ 0
  unfolding first_of pick
  first_three counters slot has_key = rw (form.typed, right_size, form.reserved, le-ltb 3 type form.known)

  arrives :
      (o : Outcome) → CounterInOrder o counter → wrong_state type (slot_of o.image counter) ≡ false →
      not_ready type (slot_of o.image counter) (session_of o counter).there ≡ false → status_on_arrival o.image o.keys frame ≡ 0
  unfolding status_on_arrival arrival_status first_of pick
  arrives o order state ready =
      rw (
        form.typed,
        form.named,
        right_size,
        form.reserved,
        le-ltb 3 type form.known,
        lt-ltb counter (count o.image) order.below,
        order.sound,
        state,
        ready,
      )

-- checks 1 to 3, the first three rows
pub built_in_form :
    (b : HostFrame) (counter : ℕ) → Sized b → (counters : ℕ) (slot : Slot) (has_key : Bool) →
    first_failing (take 3 (checks_of (frame_of counter b) counters slot has_key)) ≡ 0
built_in_form b counter size = first_three (type_built b) counter (frame_of counter b) (built_form b counter size)

-- checks 1 to 7
pub built_arrives :
    (b : HostFrame) (counter : ℕ) (o : Outcome) → Sized b → CounterInOrder o counter → Awaited o counter b →
    status_on_arrival o.image o.keys (frame_of counter b) ≡ 0
unfolding pick
built_arrives b counter o size order awaited =
    arrives (type_built b) counter (frame_of counter b) (built_form b counter size) o order (state b awaited) (ready b awaited)
  where
    state : (b : HostFrame) → Awaited o counter b → wrong_state (type_built b) (slot_of o.image counter) ≡ false
    state (RootKeyBuilt key) unset = unset
    state (SessionKeyBuilt root key_data) set = rw set
    state (IncrementBuilt key value) known = refl
    state (RequestBuilt key tag) known = refl

    ready : (b : HostFrame) → Awaited o counter b → not_ready (type_built b) (slot_of o.image counter) (session_of o counter).there ≡ false
    ready (RootKeyBuilt key) unset = refl
    ready (SessionKeyBuilt root key_data) set = refl
    ready (IncrementBuilt key value) known = rw (known.0, known.1)
    ready (RequestBuilt key tag) known = rw (known.0, known.1)
