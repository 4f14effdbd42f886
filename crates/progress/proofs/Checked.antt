-- The steps of a signature check: they come to the decision on the frame, and the digest decided on is the HMAC that the page names.
-- Assumes nothing.
use Prim.Native.Nat.{ℕ, ◌-◌}
use mathlib.Core.Path.{◌≡◌, ap, ◌∙◌}
use mathlib.Core.Bool.{true}
use mathlib.Core.List.{List}
use native.Mathlib.Omega.{arith}
use lib.Dec.{eqb}
use lib.ListN.{length, replicate}
use Rattle.words.specs.Choice.{pick}
use Rattle.words.specs.Words.{bytes_of_all}
use Rattle.words.proofs.Table.{length-table}
use Rattle.words.proofs.Fields.{field-within}
use Rattle.words.specs.Table.{field}
use Rattle.hmac.proofs.FourBlocks.{second, fourth, fourth_hmac}
use Rattle.hmac.proofs.Lengths.{length-HMAC}
use Rattle.image.specs.Slot.{root_key}
use Rattle.image.proofs.Slots.{length-root_key}
use Rattle.jobs.specs.Jobs.{command_of, signature_steps}
use Rattle.jobs.specs.declared.Command.{Command}
use Rattle.jobs.specs.declared.Command.TheVariants.{WriteRootKey, UpdateSessionKey, IncrementCounter, RequestCounter}
use Rattle.jobs.specs.declared.Kind.{Kind}
use Rattle.jobs.specs.declared.Kind.TheVariants.{RootKeyAndCounter, RootKey, SessionKey, Increment, Request, TemporaryKeyAndCounter, TemporaryKey}
use Rattle.frames.specs.Layout.{counter_of}
use Rattle.state.specs.declared.State.{State}
use Rattle.decision.specs.Decision.{decision}
use Rattle.steps.specs.Deciding.{decision_of, decided}
use Rattle.arrival.specs.Arrival.{job_of, taken, arrived}
use Rattle.arrival.proofs.Arrives.{arrived_starts}
use Rattle.rules.specs.Whole.{Outcome, frame_kept, kind_in, value_in, status_on_arrival, signature, key_in, new_session_key, last_status}
use Rattle.device.specs.Work.{Device, run}
use Rattle.device.specs.Calls.{device, outcome}
use Rattle.progress.proofs.Runs.{run_add}
use Rattle.progress.proofs.Hashing.{busy, begun, fourth_at, second_at, after_four, four_steps, four_more_steps}

-- the key that a job has made when it comes to its check
abbrev made_by : Command → Outcome → List ℕ → List ℕ
made_by WriteRootKey o frame = replicate 32 0
made_by UpdateSessionKey o frame = new_session_key o frame
made_by IncrementCounter o frame = replicate 32 0
made_by RequestCounter o frame = replicate 32 0

-- a job of a kind for a frame: as it starts, and with a digest to be checked
module _ (d : Device) (frame : List ℕ) where
  abbrev sent : List ℕ
  sent = frame_kept frame

  abbrev root : List ℕ
  root = root_key d.image (counter_of frame)

  abbrev pub start : Kind → State
  start kind = begun d.image d.state.keys (counter_of frame) sent root d.state.chain (replicate 32 0) (replicate 8 0) 0 kind

  abbrev pub asked : Kind → List ℕ → List ℕ → State
  asked kind chain inner =
      busy kind d.state.keys (counter_of frame) sent root (signature_steps (command_of kind) - 1) chain
      (made_by (command_of kind) (outcome d) frame) inner 0

-- a command frame that passes checks 1 to 7 starts one
pub frame_starts :
    (d : Device) (frame : List ℕ) → eqb (status_on_arrival d.image d.state.keys frame) 0 ≡ true →
    arrived d.image d.state frame ≡ start d frame (kind_in (outcome d) frame)
unfolding taken job_of
frame_starts d frame passes = arrived_starts d.image d.state frame passes

-- a digest to which the steps of the check come, and on which the decision is that of the page
pub record Checked (d : Device) (frame : List ℕ) (kind : Kind) : Type 0 where
  pub chain : List ℕ
  pub inner : List ℕ
  pub reaches :
      run (signature_steps (command_of kind)) (device d.image (start d frame kind)) ≡
      device d.image (decided (asked d frame kind chain inner) (value_in (outcome d) frame))
  pub decides :
      decision_of (asked d frame kind chain inner) (value_in (outcome d) frame) ≡ last_status (command_of kind) (outcome d) frame

module _ (d : Device) (frame : List ℕ) (formed : length (key_in (outcome d) frame).bytes ≡ 32) where
  abbrev digest : Kind → List ℕ
  digest kind =
      fourth_at d.image d.state.keys (counter_of frame) (sent d frame) (root d frame) d.state.chain (replicate 32 0) (replicate 8 0) 0 kind

  abbrev inner : Kind → List ℕ
  inner kind =
      second_at d.image d.state.keys (counter_of frame) (sent d frame) (root d frame) d.state.chain (replicate 32 0) (replicate 8 0) 0 kind

  root-digest : bytes_of_all (digest TemporaryKey) ≡ signature (command_of TemporaryKey) (outcome d) frame
  root-digest =
      fourth_hmac (field 4 32 (sent d frame)) (field 0 4 (sent d frame)) _ _ (length-table _ 32) (field-within 0 4 55 (sent d frame) (omega arith))

  increment_digest : bytes_of_all (digest Increment) ≡ signature (command_of Increment) (outcome d) frame
  increment_digest =
      fourth_hmac (key_in (outcome d) frame).bytes (field 0 8 (sent d frame)) _ _ formed (field-within 0 8 55 (sent d frame) (omega arith))

  request_digest : bytes_of_all (digest Request) ≡ signature (command_of Request) (outcome d) frame
  unfolding pick
  request_digest =
      fourth_hmac (key_in (outcome d) frame).bytes (field 0 16 (sent d frame)) _ _ formed (field-within 0 16 55 (sent d frame) (omega arith))

  key_made : bytes_of_all (digest SessionKey) ≡ new_session_key (outcome d) frame
  unfolding pick
  key_made =
      fourth_hmac (root d frame) (field 4 4 (sent d frame)) _ _ (length-root_key d.image (counter_of frame))
      (field-within 4 4 55 (sent d frame) (omega arith))

  -- the decision on a digest is the decision on the HMAC that it is
  same_decision :
      (kind : Kind) (digest : List ℕ) → digest ≡ signature (command_of kind) (outcome d) frame →
      decision (command_of kind) (sent d frame) digest (value_in (outcome d) frame) ≡ last_status (command_of kind) (outcome d) frame
  unfolding last_status
  same_decision kind digest e = ap (λ (g : List ℕ). decision (command_of kind) (sent d frame) g (value_in (outcome d) frame)) e

  four :
      (kind : Kind) →
      run 4 (device d.image (start d frame kind)) ≡
      device d.image
      (after_four d.image d.state.keys (counter_of frame) (sent d frame) (root d frame) d.state.chain (replicate 32 0) (replicate 8 0) 0 kind)
  four kind =
      four_steps d.image d.state.keys (counter_of frame) (sent d frame) (root d frame) d.state.chain (replicate 32 0) (replicate 8 0) 0 kind

  -- a session key job is checked under the key that it has made in four steps
  session_checked : Checked d frame SessionKey
  session_checked =
      let key = new_session_key (outcome d) frame in
      let halfway : List ℕ → Device =
      λ made. device d.image
      (busy SessionKey d.state.keys (counter_of frame) (sent d frame) (root d frame) 4 (digest SessionKey) made (inner SessionKey) 0) in
      record {
        chain = fourth key (field 0 8 (sent d frame)) (digest SessionKey) (inner SessionKey);
        inner = second key (field 0 8 (sent d frame)) (digest SessionKey) (inner SessionKey);
        reaches =
            run_add 4 4 (device d.image (start d frame SessionKey)) ∙ ap (run 4) (four SessionKey ∙ ap halfway key_made)
            ∙ four_more_steps d.image d.state.keys (counter_of frame) (sent d frame) (root d frame) (digest SessionKey) key (inner SessionKey) 0;
        decides =
            same_decision SessionKey _
            (fourth_hmac key (field 0 8 (sent d frame)) (digest SessionKey) (inner SessionKey) (length-HMAC _ _)
            (field-within 0 8 55 (sent d frame) (omega arith)));
      }

  pub checked : (kind : Kind) → Checked d frame kind
  checked RootKeyAndCounter = record { chain = _; inner = _; reaches = four RootKeyAndCounter; decides = same_decision RootKeyAndCounter _ root-digest }
  checked RootKey = record { chain = _; inner = _; reaches = four RootKey; decides = same_decision RootKey _ root-digest }
  checked TemporaryKeyAndCounter =
      record { chain = _; inner = _; reaches = four TemporaryKeyAndCounter; decides = same_decision TemporaryKeyAndCounter _ root-digest }
  checked TemporaryKey = record { chain = _; inner = _; reaches = four TemporaryKey; decides = same_decision TemporaryKey _ root-digest }
  checked SessionKey = session_checked
  checked Increment = record { chain = _; inner = _; reaches = four Increment; decides = same_decision Increment _ increment_digest }
  checked Request = record { chain = _; inner = _; reaches = four Request; decides = same_decision Request _ request_digest }
