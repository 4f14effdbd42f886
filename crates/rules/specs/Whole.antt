-- Document 01, "A taken OP1 frame" and "Steps", as one page: what a command frame that finds the device idle comes to, once its
-- job has run to its end. Assumes nothing.
use Rattle.std.specs.Prelude.{ℕ, ◌+◌, ◌%◌, ◌^◌, ◌≡◌, Bool, true, List, ◌++◌, eqb, get_or, set, replicate}
use Rattle.words.specs.Choice.{pick}
use Rattle.words.specs.Rows.{Row, first_failing}
use Rattle.words.specs.Words.{bytes_of}
use Rattle.words.specs.Table.{field}
use Rattle.compare.specs.Compare.{same_bytes}
use Rattle.hmac.specs.Hmac.{HMAC}
use Rattle.image.specs.Header.{count}
use Rattle.image.specs.Slot.{slot_of, root_key}
use Rattle.frames.specs.declared.Reply.{Reply}
use Rattle.frames.specs.Layout.{Signer, layout_of, type_of, counter_of, signed_in, data_in, BySentKey, ByNewSessionKey, BySessionKey}
use Rattle.checks.specs.Checks.{checks_of, arrival_status}
use Rattle.jobs.specs.Jobs.{command_of, command_type, kind_of}
use Rattle.jobs.specs.declared.Command.{Command}
use Rattle.jobs.specs.declared.Command.TheVariants.{WriteRootKey, UpdateSessionKey, IncrementCounter, RequestCounter}
use Rattle.jobs.specs.declared.Kind.{Kind}
use Rattle.decision.specs.Signature.{signature_holds}
use Rattle.decision.specs.Decision.{last_checks_of, decision}
use Rattle.plan.specs.Stores.{stores}
use Rattle.plan.specs.Storing.{all_stored}
use Rattle.state.specs.declared.Key.{Key}
use Rattle.state.specs.Parts.{no_key, no_reply}

-- what is seen of a device: status, session keys, reply and image
pub record Outcome : Type 0 where
  pub status : ℕ
  pub keys : List Key
  pub reply : Reply
  pub image : List ℕ

-- what a job keeps of a frame: its bytes, and zeros up to 64
abbrev pub frame_kept : List ℕ → List ℕ
frame_kept frame = field 0 64 frame

-- a root key frame's key is all FFh
unfoldable pub is_temporary : List ℕ → Bool
is_temporary frame = same_bytes (data_in 0 frame) (replicate 32 255)

-- the kind of job that the frame starts
abbrev pub kind_in : Outcome → List ℕ → Kind
kind_in o frame = kind_of (type_of frame) (is_temporary (frame_kept frame)) (slot_of o.image (counter_of frame)).counter_state

-- the counter value
abbrev pub value_in : Outcome → List ℕ → ℕ
value_in o frame = (slot_of o.image (counter_of frame)).value

-- the counter's session key
abbrev pub key_in : Outcome → List ℕ → Key
key_in o frame = get_or o.keys (counter_of frame) no_key

-- the new session key is the HMAC of the key data under the root key in use
abbrev pub new_session_key : Outcome → List ℕ → List ℕ
new_session_key o frame = HMAC (root_key o.image (counter_of frame)) (data_in 1 (frame_kept frame))

-- the signature that a frame has to have: whose key signs, and what is signed, says the table of frames
abbrev pub signing_key : Signer → Outcome → List ℕ → List ℕ
signing_key BySentKey o frame = data_in 0 (frame_kept frame)
signing_key ByNewSessionKey o frame = new_session_key o frame
signing_key BySessionKey o frame = (key_in o frame).bytes

abbrev pub signature : Command → Outcome → List ℕ → List ℕ
signature command o frame =
    HMAC (signing_key (layout_of (command_type command)).signer o frame) (signed_in (command_type command) (frame_kept frame))

-- the signature in a frame verifies
abbrev pub Verifies : Command → Outcome → List ℕ → Type 0
Verifies command o frame = signature_holds command (frame_kept frame) (signature command o frame) ≡ true

-- the status of checks 1 to 7, 0 if none fails
unfoldable pub status_on_arrival : List ℕ → List Key → List ℕ → ℕ
status_on_arrival image keys frame =
    arrival_status frame (count image) (slot_of image (counter_of frame)) (get_or keys (counter_of frame) no_key).there

-- the status of checks 8 to 10 of a command, 0 if none fails
unfoldable pub last_status : Command → Outcome → List ℕ → ℕ
last_status command o frame = decision command (frame_kept frame) (signature command o frame) (value_in o frame)

-- checks 1 to 10
abbrev pub ten_checks : Outcome → List ℕ → List (Row ℕ)
ten_checks o frame =
    checks_of frame (count o.image) (slot_of o.image (counter_of frame)) (key_in o frame).there
    ++ last_checks_of (command_of (kind_in o frame)) (frame_kept frame) (signature (command_of (kind_in o frame)) o frame) (value_in o frame)

unfoldable pub all_checks : Outcome → List ℕ → ℕ
all_checks o frame = first_failing (ten_checks o frame)

-- a check fails: its status, no reply, and nothing else
unfoldable pub failed_with : ℕ → Outcome → Outcome
failed_with status o = record { status = status; keys = o.keys; reply = no_reply; image = o.image }

-- 01: the new session key, which replaces an old one
abbrev pub keys_after : Command → Outcome → List ℕ → List Key
keys_after WriteRootKey o frame = o.keys
keys_after UpdateSessionKey o frame = set o.keys (counter_of frame) (record { there = true; bytes = new_session_key o frame })
keys_after IncrementCounter o frame = o.keys
keys_after RequestCounter o frame = o.keys

-- 03: tag, counter value, and their HMAC under the session key
abbrev pub reply_after : Command → Outcome → List ℕ → Reply
reply_after WriteRootKey o frame = no_reply
reply_after UpdateSessionKey o frame = no_reply
reply_after IncrementCounter o frame = no_reply
reply_after RequestCounter o frame =
    record {
      there = true;
      bytes =
          (data_in 3 (frame_kept frame) ++ bytes_of (value_in o frame))
          ++ HMAC (key_in o frame).bytes (data_in 3 (frame_kept frame) ++ bytes_of (value_in o frame));
    }

-- the counter value that a job keeps: for type 02 its successor, the word to store (check 10 has shut FFFFFFFFh out), for type 03 the
-- value to report
abbrev pub kept_after : Command → ℕ → ℕ → ℕ
kept_after WriteRootKey kept value = kept
kept_after UpdateSessionKey kept value = kept
kept_after IncrementCounter kept value = (value + 1) % 2 ^ 32
kept_after RequestCounter kept value = value

-- 00: the key, the counter set if it was unset, root set; of a key that is all FFh nothing but the counter, set if it was unset.
-- 02: the next value. 01 and 03: nothing
abbrev pub image_after : Kind → Outcome → List ℕ → List ℕ
image_after kind o frame =
    all_stored (stores kind (frame_kept frame) (kept_after (command_of kind) 0 (value_in o frame))) o.image (counter_of frame)

-- no check fails: 80h
unfoldable pub carried_out : Kind → Outcome → List ℕ → Outcome
carried_out kind o frame =
    record {
      status = 0x80;
      keys = keys_after (command_of kind) o frame;
      reply = reply_after (command_of kind) o frame;
      image = image_after kind o frame;
    }

-- a command frame that finds the device idle, run whole
unfoldable pub whole : Outcome → List ℕ → Outcome
whole o frame = pick (eqb (all_checks o frame) 0) (carried_out (kind_in o frame) o frame) (failed_with (all_checks o frame) o)
