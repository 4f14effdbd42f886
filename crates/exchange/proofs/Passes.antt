-- A frame that the host builds with the right keys passes the device's signature check, of each type and every counter.
-- Assumes nothing.
use Prim.Native.Nat.{ℕ, ◌+◌, ◌≤◌}
use mathlib.Core.Path.{◌≡◌, refl, ◌∙◌}
use mathlib.Core.Bool.{true}
use mathlib.Core.List.{List, [], ◌++◌}
use native.Mathlib.Omega.{arith}
use lib.ListN.{length}
use Rattle.words.proofs.Table.{length-table}
use Rattle.words.specs.Table.{field}
use Rattle.words.proofs.Fields.{field_between, field_behind}
use Rattle.compare.specs.Compare.{same_bytes}
use Rattle.compare.proofs.Agree.{same_self}
use Rattle.hmac.specs.Hmac.{HMAC}
use Rattle.jobs.specs.declared.Command.TheVariants.{WriteRootKey, UpdateSessionKey, IncrementCounter, RequestCounter}
use Rattle.image.specs.Slot.{root_key}
use Rattle.decision.specs.Signature.{signature_holds}
use Rattle.rules.specs.Whole.{Outcome, frame_kept, key_in, Verifies}
use Rattle.host.specs.Frames.{head, signed_by, new_session_key, root_key_frame, session_key_frame, increment_frame, request_frame}
use Rattle.exchange.proofs.Fields.{kept_field, root_key-sent, counter_sent, front-sent, data_sent, signature-sent}

-- type 00, whatever the device
pub root_key_passes : (o : Outcome) (counter : ℕ) (key : List ℕ) → length key ≡ 32 → Verifies WriteRootKey o (root_key_frame counter key)
unfolding signature_holds root_key_frame
root_key_passes o counter key size =
    let frame = root_key_frame counter key in
    let digest = HMAC key (head 0 counter) in
    let front : field 0 4 (frame_kept frame) ≡ head 0 counter =
    kept_field 0 4 frame (omega arith) ∙ field_between 0 4 [] (head 0 counter) (key ++ field 4 28 digest) refl refl in
    let signed : field 36 28 (frame_kept frame) ≡ field 4 28 digest =
    kept_field 36 28 frame (omega arith)
    ∙ field_behind 36 28 (head 0 counter ++ key) (field 4 28 digest) (omega (arith, size)) (length-table _ 28) in
    rw (root_key-sent counter key size, front, signed, same_self (field 4 28 digest))

-- types 01 to 03: the signature that is sent is that of what stands before it
same_sent :
    (key : List ℕ) (type counter : ℕ) (bytes : List ℕ) (n : ℕ) → length bytes ≡ n → n ≤ 28 →
    same_bytes (HMAC key (field 0 (4 + n) (frame_kept (signed_by key (head type counter ++ bytes)))))
    (field (4 + n) 32 (frame_kept (signed_by key (head type counter ++ bytes)))) ≡ true
same_sent key type counter bytes n size fits =
    rw (
      front-sent key type counter bytes n size fits,
      signature-sent key type counter bytes n size fits,
    )
    (same_self (HMAC key (head type counter ++ bytes)))

-- type 01, built with the root key in use
pub session_key_passes :
    (o : Outcome) (counter : ℕ) (key_data : List ℕ) → length key_data ≡ 4 →
    Verifies UpdateSessionKey o (session_key_frame counter (root_key o.image counter) key_data)
unfolding signature_holds session_key_frame new_session_key
session_key_passes o counter key_data size =
    let key = HMAC (root_key o.image counter) key_data in
    rw (
      counter_sent key 1 counter key_data 4 size (omega arith),
      data_sent key 1 counter key_data 4 size (omega arith),
      same_sent key 1 counter key_data 4 size (omega arith),
    )

-- types 02 and 03, built with the counter's session key
pub increment_passes :
    (o : Outcome) (counter : ℕ) (key value : List ℕ) → length value ≡ 4 →
    (key_in o (increment_frame counter key value)).bytes ≡ key → Verifies IncrementCounter o (increment_frame counter key value)
unfolding signature_holds increment_frame
increment_passes o counter key value size same =
    rw (same, same_sent key 2 counter value 4 size (omega arith))

pub request_passes :
    (o : Outcome) (counter : ℕ) (key tag : List ℕ) → length tag ≡ 12 →
    (key_in o (request_frame counter key tag)).bytes ≡ key → Verifies RequestCounter o (request_frame counter key tag)
unfolding signature_holds request_frame
request_passes o counter key tag size same =
    rw (same, same_sent key 3 counter tag 12 size (omega arith))
