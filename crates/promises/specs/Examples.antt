-- Document 01, "Examples at the edges": the cases marked P, as one table. Each row says what it is given, what is called, and what is
-- seen then. "Good" means the signature verifies. Assumes nothing.
use Rattle.std.specs.Prelude.{ℕ, ◌<◌, ◌≡◌, true, false, List, [], ◌∷◌, length, get_or}
use Rattle.words.specs.Words.{word_or0}
use Rattle.image.specs.Header.{count}
use Rattle.image.specs.declared.Slot.{Slot}
use Rattle.image.specs.Slot.{slot_of, unset, is_set, is_bad}
use Rattle.jobs.specs.declared.Command.{Command}
use Rattle.jobs.specs.declared.Command.TheVariants.{WriteRootKey, IncrementCounter}
use Rattle.frames.specs.Layout.{layout_of, type_of, counter_of, reserved_of}
use Rattle.state.specs.Parts.{no_key, session_key}
use Rattle.state.specs.Refusal.{device_refusal}
use Rattle.rules.specs.Whole.{frame_kept, is_temporary, Verifies}
use Rattle.device.specs.Work.{Device}
use Rattle.device.specs.Calls.{Call, PowerUp, Frame, Work, outcome, is_busy}

-- the rows; P9 and P10 make two claims each, P11 and P12 each end with their fourth step and not before, and P14 holds idle or busy
pub data Example : Type 0 where
  P1 : Example
  P2 : Example
  P3 : Example
  P4 : Example
  P5 : Example
  P6 : Example
  P7 : Example
  P8 : Example
  P9-before-the-end : Example
  P9-at-the-end : Example
  P10-cut-before-the-end : Example
  P10-cut-before-the-counter : Example
  P11-before-the-end : Example
  P11-at-the-end : Example
  P12-before-the-end : Example
  P12-at-the-end : Example
  P13 : Example
  P14-while-idle : Example
  P14-while-busy : Example

-- a device with an image of 4 counters, whose calls are not refused; a session key has 32 bytes
pub record Ready (d : Device) : Type 0 where
  pub not-refused : device_refusal d.image d.state ≡ 0
  pub four : count d.image ≡ 4
  pub long-keys : (k : ℕ) → length (get_or d.state.keys k no_key).bytes ≡ 32

abbrev pub Idle : Device → Type 0
Idle d = is_busy d ≡ false

-- the slot of a frame's counter
abbrev pub slot_for : Device → List ℕ → Slot
slot_for d frame = slot_of d.image (counter_of frame)

-- a command frame of a type, with its length and the reserved byte in order
pub record Shaped (type : ℕ) (frame : List ℕ) : Type 0 where
  pub first : get_or frame 0 0 ≡ 0x9B
  pub typed : type_of frame ≡ type
  pub sized : length frame ≡ (layout_of type).size
  pub reserved : reserved_of frame ≡ 0

-- with its counter in order too
pub record InOrder (type : ℕ) (frame : List ℕ) : Type 0 where
  pub shaped : Shaped type frame
  pub named : counter_of frame < 4

abbrev pub Good : Command → Device → List ℕ → Type 0
Good command d frame = Verifies command (outcome d) frame

-- P9, P10: a root key frame with a key that is not all FFh, for a counter with nothing set, and with a good signature
pub record Pairs (d : Device) (frame : List ℕ) : Type 0 where
  pub idle : Idle d
  pub in_order : InOrder 0 frame
  pub root-unset : (slot_for d frame).root_state ≡ unset
  pub counter-unset : (slot_for d frame).counter_state ≡ unset
  pub lasting : is_temporary (frame_kept frame) ≡ false
  pub good : Good WriteRootKey d frame

-- P11: one with a key that is all FFh, for a counter that is set at 7, and root is not
pub record AllFFAt7 (d : Device) (frame : List ℕ) : Type 0 where
  pub idle : Idle d
  pub in_order : InOrder 0 frame
  pub root-unset : (slot_for d frame).root_state ≡ unset
  pub counter_set : (slot_for d frame).counter_state ≡ 0
  pub seven : (slot_for d frame).value ≡ 7
  pub temporary : is_temporary (frame_kept frame) ≡ true
  pub good : Good WriteRootKey d frame

-- P12: an increment frame with a good signature, data and value FFFFFFFFh
pub record Full (d : Device) (frame : List ℕ) : Type 0 where
  pub idle : Idle d
  pub in_order : InOrder 2 frame
  pub sane : is_bad (slot_for d frame) ≡ false
  pub counter_set : is_set (slot_for d frame).counter_state ≡ true
  pub has_key : (session_key d.state (counter_of frame)).there ≡ true
  pub told : word_or0 (frame_kept frame) 4 ≡ 0xFFFFFFFF
  pub full : (slot_for d frame).value ≡ 0xFFFFFFFF
  pub good : Good IncrementCounter d frame

-- what a row is given; P1 whether the device is busy or not
abbrev pub Given : Example → Device → List ℕ → Type 0
Given P1 d frame = frame ≡ 0x9B ∷ []
Given P2 d frame = Idle d × (frame ≡ 0x9B ∷ 0x00 ∷ [])
Given P3 d frame = Idle d × (frame ≡ 0x9B ∷ 0x04 ∷ [])
Given P4 d frame = Idle d × Shaped 0 frame × (counter_of frame ≡ 4)
Given P5 d frame = Idle d × Shaped 1 frame × (counter_of frame ≡ 4)
Given P6 d frame = Idle d × InOrder 1 frame × (is_bad (slot_for d frame) ≡ false) × (is_set (slot_for d frame).counter_state ≡ false)
Given P7 d frame =
    Idle d × InOrder 3 frame × (is_bad (slot_for d frame) ≡ false) × (is_set (slot_for d frame).counter_state ≡ true)
    × ((session_key d.state (counter_of frame)).there ≡ false)
Given P8 d frame = Idle d × InOrder 0 frame × (is_bad (slot_for d frame) ≡ false) × (is_set (slot_for d frame).root_state ≡ true)
Given P9-before-the-end d frame = Pairs d frame
Given P9-at-the-end d frame = Pairs d frame
Given P10-cut-before-the-end d frame = Pairs d frame
Given P10-cut-before-the-counter d frame = Pairs d frame
Given P11-before-the-end d frame = AllFFAt7 d frame
Given P11-at-the-end d frame = AllFFAt7 d frame
Given P12-before-the-end d frame = Full d frame
Given P12-at-the-end d frame = Full d frame
Given P13 d frame = Idle d × InOrder 3 frame × ((slot_for d frame).root_state ≡ 5)
Given P14-while-idle d frame = Idle d
Given P14-while-busy d frame = is_busy d ≡ true

-- a row happens: there are a device and a frame that are what it is given
pub record Happens (p : Example) : Type 0 where
  pub device : Device
  pub frame : List ℕ
  pub ready : Ready device
  pub given : Given p device frame

-- what is called, with an output buffer
abbrev pub script : Example → List ℕ → List ℕ → List Call
script P1 frame output = Frame frame output ∷ []
script P2 frame output = Frame frame output ∷ []
script P3 frame output = Frame frame output ∷ []
script P4 frame output = Frame frame output ∷ []
script P5 frame output = Frame frame output ∷ []
script P6 frame output = Frame frame output ∷ []
script P7 frame output = Frame frame output ∷ []
script P8 frame output = Frame frame output ∷ []
script P9-before-the-end frame output = Frame frame output ∷ Work 14 ∷ []
script P9-at-the-end frame output = Frame frame output ∷ Work 15 ∷ []
script P10-cut-before-the-end frame output = Frame frame output ∷ Work 14 ∷ PowerUp ∷ []
script P10-cut-before-the-counter frame output = Frame frame output ∷ Work 13 ∷ PowerUp ∷ []
script P11-before-the-end frame output = Frame frame output ∷ Work 3 ∷ []
script P11-at-the-end frame output = Frame frame output ∷ Work 4 ∷ []
script P12-before-the-end frame output = Frame frame output ∷ Work 3 ∷ []
script P12-at-the-end frame output = Frame frame output ∷ Work 4 ∷ []
script P13 frame output = Frame frame output ∷ []
script P14-while-idle frame output = Frame (0x66 ∷ []) output ∷ Frame (0x96 ∷ 0x00 ∷ []) output ∷ Frame (0x99 ∷ []) output ∷ []
script P14-while-busy frame output = Frame (0x66 ∷ []) output ∷ Frame (0x96 ∷ 0x00 ∷ []) output ∷ Frame (0x99 ∷ []) output ∷ []

-- idle, with this status
abbrev pub IdleWith : ℕ → Device → Type 0
IdleWith status d = Idle d × (d.state.status ≡ status)

-- busy: 01h
abbrev pub StillBusy : Device → Type 0
StillBusy d = (is_busy d ≡ true) × (d.state.status ≡ 0x01)

-- no reset: what a reset would drop, and the image, are as they were
pub record NotReset (d after : Device) : Type 0 where
  pub status : after.state.status ≡ d.state.status
  pub keys : after.state.keys ≡ d.state.keys
  pub reply : after.state.reply ≡ d.state.reply
  pub job : after.state.job ≡ d.state.job
  pub image : after.image ≡ d.image

-- what is seen
abbrev pub Seen : Example → Device → List ℕ → Device → Type 0
Seen P1 d frame after = after.state.status ≡ d.state.status
Seen P2 d frame after = IdleWith 0x04 after
Seen P3 d frame after = IdleWith 0x04 after
Seen P4 d frame after = IdleWith 0x06 after
Seen P5 d frame after = IdleWith 0x04 after
Seen P6 d frame after = IdleWith 0x02 after
Seen P7 d frame after = IdleWith 0x08 after
Seen P8 d frame after = IdleWith 0x02 after
Seen P9-before-the-end d frame after = StillBusy after
Seen P9-at-the-end d frame after = IdleWith 0x80 after
Seen P10-cut-before-the-end d frame after =
    ((slot_for after frame).counter_state ≡ 0) × ((slot_for after frame).value ≡ 0) × ((slot_for after frame).root_state ≡ unset)
Seen P10-cut-before-the-counter d frame after = ((slot_for after frame).counter_state ≡ unset) × ((slot_for after frame).root_state ≡ unset)
Seen P11-before-the-end d frame after = StillBusy after
Seen P11-at-the-end d frame after = IdleWith 0x80 after × ((slot_for after frame).value ≡ 7) × (after.image ≡ d.image)
Seen P12-before-the-end d frame after = StillBusy after
Seen P12-at-the-end d frame after = IdleWith 0x20 after
Seen P13 d frame after = IdleWith 0x20 after
Seen P14-while-idle d frame after = NotReset d after
Seen P14-while-busy d frame after = NotReset d after
