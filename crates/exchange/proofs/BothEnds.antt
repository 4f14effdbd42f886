-- Both ends, chained: what a host builds, the device takes, whatever work calls bring it to its end, and what the device replies the host
-- reads as good. Each link is the page's, by the law that frame and work come to it. Assumes nothing.
use Prim.Native.Nat.{ℕ, suc, ◌<◌}
use mathlib.Core.Path.{◌≡◌, refl, ap, sym, ◌∙◌}
use mathlib.Core.Bool.{false}
use mathlib.Core.List.{List, [], ◌∷◌}
use lib.ListN.{length, replicate}
use Rattle.words.specs.Choice.{pick}
use Rattle.words.specs.Words.{Bytes, bytes_of}
use Rattle.image.specs.Slot.{slot_of, is_set, root_key}
use Rattle.frames.specs.declared.Class.TheVariants.{CommandFrame}
use Rattle.frames.specs.Classes.{class_of, named_class}
use Rattle.rules.specs.Whole.{Outcome, whole}
use Rattle.device.specs.Work.{Device}
use Rattle.device.specs.Calls.{outcome, After}
use Rattle.device.proofs.AfterCalls.{frame_accepted}
use Rattle.host.specs.Frames.{new_session_key, root_key_frame, session_key_frame, increment_frame, request_frame}
use Rattle.exchange.specs.Built.{HostFrame, RootKeyBuilt, SessionKeyBuilt, IncrementBuilt, RequestBuilt, frame_of, Sized}
use Rattle.exchange.specs.Built.{CounterInOrder, RootUnset, CounterSet, Paired, InSession}
use Rattle.exchange.specs.Exchange.{AtRest, Ends, read_from, ReadsGood}
use Rattle.exchange.proofs.Arrives.{type_built, built_form, is_command}
use Rattle.exchange.proofs.Replies.{reading, read_as_good}
use Rattle.exchange.proofs.Agreed.{root_key_agreed, session_key_agreed}
use Rattle.exchange.proofs.Counted.{increment_counted}
use Rattle.exchange.proofs.Comes.{not-refused, comes_to_whole, idle_again}

-- a built frame, and work that leaves the device idle
module _ (b : HostFrame) (counter : ℕ) (size : Sized b) (d e : Device) (idle : AtRest d) (ends : Ends (frame_of counter b) d e) where
  command : class_of (frame_of counter b) ≡ CommandFrame
  command = is_command (type_built b) counter (frame_of counter b) (built_form b counter size)

  pub built_ends : (outcome e ≡ whole (outcome d) (frame_of counter b)) × AtRest e
  built_ends = (comes_to_whole d idle (frame_of counter b) command e ends, idle_again d idle (frame_of counter b) command e ends)

-- the root key in use is the one sent
module _
    (counter : ℕ) (key : List ℕ) (size : length key ≡ 32) (bytes : Bytes key) (lasting : key ≡ replicate 32 255 → ⊥) (d e : Device) (idle : AtRest d)
    (order : CounterInOrder (outcome d) counter) (unset : RootUnset (outcome d) counter) (ends : Ends (root_key_frame counter key) d e) where
  pub root_key_in_use :
      Paired (outcome e) counter key (pick (is_set (slot_of d.image counter).counter_state) (slot_of d.image counter).value 0)
  root_key_in_use =
      rw (built_ends (RootKeyBuilt key) counter size d e idle ends).0
      (root_key_agreed (outcome d) idle.formed counter key size bytes lasting order unset)

-- the device's session key is the host's, and the value is as it was
module _
    (counter : ℕ) (root key_data : List ℕ) (size : length key_data ≡ 4) (d e : Device) (idle : AtRest d) (order : CounterInOrder (outcome d) counter)
    (set-counter : CounterSet (outcome d) counter) (same-root : root_key d.image counter ≡ root)
    (ends : Ends (session_key_frame counter root key_data) d e) where
  pub session_key_shared : InSession (outcome e) counter (new_session_key root key_data) (slot_of d.image counter).value
  session_key_shared =
      rw (built_ends (SessionKeyBuilt root key_data) counter size d e idle ends).0
      (session_key_agreed (outcome d) idle.formed counter root key_data size order set-counter same-root)

-- an increment of the value is counted: the counter stays in session, and its value is one more
module _
    (counter : ℕ) (key : List ℕ) (value : ℕ) (d e : Device) (idle : AtRest d) (session : InSession (outcome d) counter key value)
    (below : value < 0xFFFFFFFF) (ends : Ends (increment_frame counter key (bytes_of value)) d e) where
  pub value-counted : InSession (outcome e) counter key (suc value)
  value-counted =
      rw (built_ends (IncrementBuilt key (bytes_of value)) counter refl d e idle ends).0
      (increment_counted (outcome d) idle.formed counter key value session below)

-- a request is answered: a read of 49 bytes is good, with the device's value
module _
    (counter : ℕ) (key tag : List ℕ) (size : length tag ≡ 12) (value : ℕ) (d e : Device) (idle : AtRest d)
    (session : InSession (outcome d) counter key value) (ends : Ends (request_frame counter key tag) d e)
    (dummy : ℕ) (buffer : List ℕ) (room : length buffer ≡ 49) where
  long : length key ≡ 32
  long = ap length (sym session.same_key) ∙ idle.formed.long counter

  abbrev come : (outcome e ≡ whole (outcome d) (request_frame counter key tag)) × AtRest e
  come = built_ends (RequestBuilt key tag) counter size d e idle ends

  as_read : read_from e dummy buffer ≡ reading (outcome d) counter key tag value long size session
  unfolding class_of named_class pick
  as_read =
      let status = ap (λ (o : Outcome). o.status) come.0 in
      let reply = ap (λ (o : Outcome). o.reply) come.0 in
      ap (λ (r : After). r.output) (frame_accepted e (0x96 ∷ dummy ∷ []) buffer (not-refused e come.1))
      ∙ rw (ends.none, room, status, reply)

  pub request_answered : ReadsGood key tag (read_from e dummy buffer) value
  request_answered = rw as_read (read_as_good (outcome d) counter key tag value long size session)

-- A counter with nothing set is paired, a session is opened under the root key, and a request is answered with 0: each frame is built by
-- the host, and each is followed by work calls that leave the device idle.
module _
    (d paired opened asked : Device) (counter : ℕ) (root key_data tag : List ℕ) (idle : AtRest d) (order : CounterInOrder (outcome d) counter)
    (root-unset : RootUnset (outcome d) counter) (counter-unset : is_set (slot_of d.image counter).counter_state ≡ false)
    (long : length root ≡ 32) (bytes : Bytes root) (lasting : root ≡ replicate 32 255 → ⊥) (four : length key_data ≡ 4)
    (twelve : length tag ≡ 12) (first : Ends (root_key_frame counter root) d paired)
    (second : Ends (session_key_frame counter root key_data) paired opened)
    (third : Ends (request_frame counter (new_session_key root key_data) tag) opened asked) where
  in_use : Paired (outcome paired) counter root 0
  unfolding pick
  in_use = rw counter-unset at (root_key_in_use counter root long bytes lasting d paired idle order root-unset first)

  idle_paired : AtRest paired
  idle_paired = (built_ends (RootKeyBuilt root) counter long d paired idle first).1

  idle_opened : AtRest opened
  idle_opened = (built_ends (SessionKeyBuilt root key_data) counter four paired opened idle_paired second).1

  shared : InSession (outcome opened) counter (new_session_key root key_data) 0
  shared =
      rw in_use.value-kept at
      (session_key_shared counter root key_data four paired opened idle_paired in_use.order in_use.counter_set in_use.root-key second)

  pub both_ends :
      (dummy : ℕ) (buffer : List ℕ) → length buffer ≡ 49 → ReadsGood (new_session_key root key_data) tag (read_from asked dummy buffer) 0
  both_ends = request_answered counter (new_session_key root key_data) tag twelve 0 opened asked idle_opened shared third
