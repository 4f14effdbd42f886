-- Document 01, "A taken OP1 frame": a frame that a host builds for a counter, and what has to hold of the device so that each of the ten
-- checks lets it through. Assumes nothing.
use Rattle.std.specs.Prelude.{ℕ, ◌<◌, ◌≡◌, true, false, List, length, get_or}
use Rattle.words.specs.Words.{bytes_of}
use Rattle.image.specs.Header.{count}
use Rattle.image.specs.Slot.{slot_of, is_set, is_bad, root_key}
use Rattle.state.specs.declared.Key.{Key}
use Rattle.state.specs.Parts.{no_key}
use Rattle.rules.specs.Whole.{Outcome}
use Rattle.host.specs.Frames.{root_key_frame, session_key_frame, increment_frame, request_frame}
use Rattle.host.specs.Building.{data_size_of}

-- what it is built from. 00: the root key. 01: the root key and key data. 02: the session key and the counter value, four bytes.
-- 03: the session key and the tag
pub data HostFrame : Type 0 where
  RootKeyBuilt : List ℕ → HostFrame
  SessionKeyBuilt : List ℕ → List ℕ → HostFrame
  IncrementBuilt : List ℕ → List ℕ → HostFrame
  RequestBuilt : List ℕ → List ℕ → HostFrame

-- its bytes
abbrev pub frame_of : ℕ → HostFrame → List ℕ
frame_of counter (RootKeyBuilt key) = root_key_frame counter key
frame_of counter (SessionKeyBuilt root key_data) = session_key_frame counter root key_data
frame_of counter (IncrementBuilt key value) = increment_frame counter key value
frame_of counter (RequestBuilt key tag) = request_frame counter key tag

-- its data has the length that the frame table gives it
abbrev pub Sized : HostFrame → Type 0
Sized (RootKeyBuilt key) = length key ≡ data_size_of 0
Sized (SessionKeyBuilt root key_data) = length key_data ≡ data_size_of 1
Sized (IncrementBuilt key value) = length value ≡ data_size_of 2
Sized (RequestBuilt key tag) = length tag ≡ data_size_of 3

-- the counter's session key
abbrev pub session_of : Outcome → ℕ → Key
session_of o counter = get_or o.keys counter no_key

-- checks 4 and 5: the counter is below the count, and its slot is not bad
pub record CounterInOrder (o : Outcome) (counter : ℕ) : Type 0 where
  pub below : counter < count o.image
  pub sound : is_bad (slot_of o.image counter) ≡ false

abbrev pub RootUnset : Outcome → ℕ → Type 0
RootUnset o counter = is_set (slot_of o.image counter).root_state ≡ false

abbrev pub CounterSet : Outcome → ℕ → Type 0
CounterSet o counter = is_set (slot_of o.image counter).counter_state ≡ true

-- checks 6 and 7. 00: root is unset. 01: the counter is set. 02 and 03: so it is, and it has a session key
abbrev pub Awaited : Outcome → ℕ → HostFrame → Type 0
Awaited o counter (RootKeyBuilt key) = RootUnset o counter
Awaited o counter (SessionKeyBuilt root key_data) = CounterSet o counter
Awaited o counter (IncrementBuilt key value) = CounterSet o counter × ((session_of o counter).there ≡ true)
Awaited o counter (RequestBuilt key tag) = CounterSet o counter × ((session_of o counter).there ≡ true)

-- checks 8 to 10: the keys are the device's, and the value too. 00: any key. 01: the root key in use. 02: the session key, and the
-- counter value, which is not the last one. 03: the session key
abbrev pub Agreed : Outcome → ℕ → HostFrame → Type 0
Agreed o counter (RootKeyBuilt key) = Unit {0}
Agreed o counter (SessionKeyBuilt root key_data) = root_key o.image counter ≡ root
Agreed o counter (IncrementBuilt key value) =
    ((session_of o counter).bytes ≡ key) × (bytes_of (slot_of o.image counter).value ≡ value) × ((slot_of o.image counter).value < 0xFFFFFFFF)
Agreed o counter (RequestBuilt key tag) = (session_of o counter).bytes ≡ key

-- what a frame that is carried out leaves. 00: the counter is paired, root and counter set, with this root key in use and this value
pub record Paired (o : Outcome) (counter : ℕ) (root : List ℕ) (value : ℕ) : Type 0 where
  pub order : CounterInOrder o counter
  pub root-set : is_set (slot_of o.image counter).root_state ≡ true
  pub counter_set : CounterSet o counter
  pub root-key : root_key o.image counter ≡ root
  pub value-kept : (slot_of o.image counter).value ≡ value

-- 01: the counter is in session, with this session key and this value
pub record InSession (o : Outcome) (counter : ℕ) (key : List ℕ) (value : ℕ) : Type 0 where
  pub order : CounterInOrder o counter
  pub counter_set : CounterSet o counter
  pub there : (session_of o counter).there ≡ true
  pub same_key : (session_of o counter).bytes ≡ key
  pub value-kept : (slot_of o.image counter).value ≡ value
