-- A frame that the host builds with the device's keys passes all ten checks, so it is carried out: on arrival by its form and its
-- counter, then by its signature, and of type 02 by the value that it names. Assumes nothing.
use Prim.Native.Nat.{ℕ, ◌<◌}
use mathlib.Core.Path.{◌≡◌, refl, ap, sym, ◌∙◌}
use mathlib.Core.Bool.{Bool}
use mathlib.Core.List.{List, ◌++◌}
use native.Mathlib.Omega.{arith}
use borrow.Author.Tests.{eq-eqb, ne_eqb, le-leb}
use lib.ListN.{length}
use Rattle.words.specs.Choice.{pick}
use Rattle.words.specs.Rows.{first_of}
use Rattle.words.specs.Words.{bytes_of, word_at, word_or0}
use Rattle.words.proofs.Choice.{either}
use Rattle.words.proofs.Fields.{field_word}
use Rattle.words.proofs.Table.{length-table}
use Rattle.image.specs.Slot.{slot_of}
use Rattle.jobs.specs.Jobs.{command_of, root_kind, kind_of}
use Rattle.jobs.specs.declared.Command.{Command}
use Rattle.jobs.specs.declared.Command.TheVariants.{WriteRootKey, UpdateSessionKey, IncrementCounter, RequestCounter}
use Rattle.jobs.specs.declared.Kind.{Kind}
use Rattle.state.specs.declared.Key.{Key}
use Rattle.decision.specs.Decision.{decision}
use Rattle.rules.specs.Whole.{Outcome, frame_kept, kind_in, value_in, key_in, last_status, all_checks, carried_out, whole, Verifies}
use Rattle.rules.proofs.TenChecks.{all_checks_lem}
use Rattle.host.specs.Frames.{head, signed_by, root_key_frame, session_key_frame, increment_frame, request_frame}
use Rattle.exchange.specs.Built.{HostFrame, RootKeyBuilt, SessionKeyBuilt, IncrementBuilt, RequestBuilt, frame_of}
use Rattle.exchange.specs.Built.{Sized, session_of, CounterInOrder, Awaited, Agreed, InSession}
use Rattle.exchange.proofs.Fields.{data_sent}
use Rattle.exchange.proofs.Passes.{root_key_passes, session_key_passes, increment_passes, request_passes}
use Rattle.exchange.proofs.Arrives.{built_form, built_arrives}

-- the command of a built frame
abbrev command_built : HostFrame → Command
command_built (RootKeyBuilt key) = WriteRootKey
command_built (SessionKeyBuilt root key_data) = UpdateSessionKey
command_built (IncrementBuilt key value) = IncrementCounter
command_built (RequestBuilt key tag) = RequestCounter

root-command : (temporary : Bool) (state : ℕ) → command_of (root_kind temporary state) ≡ WriteRootKey
unfolding root_kind
root-command temporary state =
    let writes : Kind → Type 0 = λ kind. command_of kind ≡ WriteRootKey in
    either writes temporary _ _ (λ _. either writes _ _ _ (λ _. refl) (λ _. refl)) (λ _. either writes _ _ _ (λ _. refl) (λ _. refl))

module _ (o : Outcome) (counter : ℕ) where
  its_command : (b : HostFrame) → command_of (kind_in o (frame_of counter b)) ≡ command_built b
  unfolding kind_of root_key_frame session_key_frame increment_frame request_frame signed_by pick
  its_command (RootKeyBuilt key) = root-command _ _
  its_command (SessionKeyBuilt root key_data) = refl
  its_command (IncrementBuilt key value) = refl
  its_command (RequestBuilt key tag) = refl

  -- the session key that the device looks at is that of the counter
  pub its_key : (b : HostFrame) → Sized b → key_in o (frame_of counter b) ≡ session_of o counter
  its_key b size = rw (built_form b counter size).named

  pub its_value : (b : HostFrame) → Sized b → value_in o (frame_of counter b) ≡ (slot_of o.image counter).value
  its_value b size = ap (λ (c : ℕ). (slot_of o.image c).value) (built_form b counter size).named

  -- check 8
  signed : (b : HostFrame) → Sized b → Agreed o counter b → Verifies (command_built b) o (frame_of counter b)
  signed (RootKeyBuilt key) size agreed = root_key_passes o counter key size
  signed (SessionKeyBuilt root key_data) size agreed = rw (← agreed) (session_key_passes o counter key_data size)
  signed (IncrementBuilt key value) size agreed =
      increment_passes o counter key value size (ap (λ (k : Key). k.bytes) (its_key (IncrementBuilt key value) size) ∙ agreed.0)
  signed (RequestBuilt key tag) size agreed =
      request_passes o counter key tag size (ap (λ (k : Key). k.bytes) (its_key (RequestBuilt key tag) size) ∙ agreed)

  -- check 9: the value that is sent
  value-sent : (key : List ℕ) (value : ℕ) → word_or0 (frame_kept (increment_frame counter key (bytes_of value))) 4 ≡ value
  unfolding increment_frame pick
  value-sent key value =
      let sent = frame_kept (signed_by key (head 2 counter ++ bytes_of value)) in
      let long : length sent ≡ 64 = length-table _ 64 in
      rw (le-leb 8 (length sent) (omega (arith, long)))
      (sym (field_word 4 4 sent 0 (omega arith))
      ∙ ap (λ (l : List ℕ). word_at l 0) (data_sent key 2 counter (bytes_of value) 4 refl (omega arith)) ∙ omega arith)

  -- checks 8 to 10
  last_pass : (b : HostFrame) → Sized b → Agreed o counter b → last_status (command_built b) o (frame_of counter b) ≡ 0
  unfolding last_status decision first_of pick
  last_pass (RootKeyBuilt key) size agreed = rw (signed (RootKeyBuilt key) size agreed)
  last_pass (SessionKeyBuilt root key_data) size agreed = rw (signed (SessionKeyBuilt root key_data) size agreed)
  last_pass (IncrementBuilt key value) size agreed =
      let b = IncrementBuilt key value in
      let v = (slot_of o.image counter).value in
      let same : word_or0 (frame_kept (increment_frame counter key value)) 4 ≡ v = rw (← agreed.1) (value-sent key v) in
      rw (signed b size agreed, its_value b size, same, eq-eqb v v refl, ne_eqb v 0xFFFFFFFF (λ last. omega (arith, last, agreed.2)))
  last_pass (RequestBuilt key tag) size agreed = rw (signed (RequestBuilt key tag) size agreed)

  module _ (b : HostFrame) (size : Sized b) (order : CounterInOrder o counter) (awaited : Awaited o counter b) (agreed : Agreed o counter b) where
    -- checks 1 to 10
    pub built_passes : all_checks o (frame_of counter b) ≡ 0
    unfolding pick
    built_passes =
        rw (all_checks_lem o (frame_of counter b), built_arrives b counter o size order awaited, its_command b) (last_pass b size agreed)

    pub built-carried_out : whole o (frame_of counter b) ≡ carried_out (kind_in o (frame_of counter b)) o (frame_of counter b)
    unfolding whole pick
    built-carried_out = rw built_passes

-- in session, an increment of the value and a request pass
module _ (o : Outcome) (counter : ℕ) (key : List ℕ) (value : ℕ) (session : InSession o counter key value) where
  pub increment_in_session : value < 0xFFFFFFFF → all_checks o (increment_frame counter key (bytes_of value)) ≡ 0
  increment_in_session below =
      built_passes o counter (IncrementBuilt key (bytes_of value)) refl session.order (session.counter_set, session.there)
      (session.same_key, ap bytes_of session.value-kept, rw session.value-kept below)

  pub request_in_session : (tag : List ℕ) → length tag ≡ 12 → all_checks o (request_frame counter key tag) ≡ 0
  request_in_session tag size =
      built_passes o counter (RequestBuilt key tag) size session.order (session.counter_set, session.there) session.same_key
