-- After a built root key frame the root key in use is the one sent, and after a built session key frame the device's session key is the
-- host's: what is carried out of them is said by the page, and read back from the slot and from the keys. Assumes nothing.
use Prim.Native.Nat.{ℕ, ◌+◌, ◌*◌, ◌<◌}
use mathlib.Core.Path.{◌≡◌, refl, ap, sym, subst, ◌∙◌}
use mathlib.Core.Bool.{Bool, true, false}
use mathlib.Core.List.{List}
use native.Mathlib.Omega.{arith}
use borrow.Author.Tests.{le-leb}
use lib.ListN.{length, set, replicate}
use lib.Seq.{get_or-set_same}
use Rattle.words.specs.Choice.{pick}
use Rattle.words.specs.Words.{Bytes, word_at, word_or0, words_of, bytes_of_all}
use Rattle.words.proofs.Back.{bytes_back}
use Rattle.words.proofs.Fields.{field_word}
use Rattle.words.proofs.Table.{length-table, table_same}
use Rattle.compare.proofs.Agree.{same_equal}
use Rattle.hmac.specs.Hmac.{HMAC}
use Rattle.image.proofs.Slots.{slot_field}
use Rattle.image.specs.Slot.{slot_of, is_set, is_bad, root_key}
use Rattle.image.specs.declared.Slot.{Slot}
use Rattle.frames.specs.Layout.{counter_of}
use Rattle.jobs.specs.Jobs.{command_of, root_kind, kind_of}
use Rattle.jobs.specs.declared.Kind.{Kind}
use Rattle.state.specs.declared.Key.{Key}
use Rattle.state.specs.Parts.{no_key, no_reply}
use Rattle.plan.specs.Storing.{all_stored}
use Rattle.plan.proofs.RootKeys.{key_brought, paired, root_key_leaves}
use Rattle.rules.specs.Formed.{Formed}
use Rattle.rules.specs.Whole.{Outcome, frame_kept, is_temporary, kind_in, value_in, kept_after, image_after, carried_out, whole}
use Rattle.rules.specs.Whole.{new_session_key as derived}
use Rattle.rules.proofs.Kept.{whole-kept}
use Rattle.host.specs.Frames.{signed_by, new_session_key, root_key_frame, session_key_frame}
use Rattle.exchange.specs.Built.{RootKeyBuilt, SessionKeyBuilt, CounterInOrder, RootUnset, CounterSet, Paired, InSession}
use Rattle.exchange.proofs.Fields.{root_key-sent, counter_sent, data_sent}
use Rattle.exchange.proofs.Arrives.{built_form}
use Rattle.exchange.proofs.Carried.{built-carried_out}

module _
    (o : Outcome) (formed : Formed o.image o.keys) (counter : ℕ) (root key_data : List ℕ) (size : length key_data ≡ 4)
    (order : CounterInOrder o counter) (set-counter : CounterSet o counter) (same-root : root_key o.image counter ≡ root) where
  abbrev frame : List ℕ
  frame = session_key_frame counter root key_data

  abbrev new : Key
  new = record { there = true; bytes = new_session_key root key_data }

  new-key : derived o frame ≡ new_session_key root key_data
  unfolding session_key_frame new_session_key
  new-key =
      let key = HMAC root key_data in
      rw (counter_sent key 1 counter key_data 4 size (omega arith), data_sent key 1 counter key_data 4 size (omega arith), same-root)

  abbrev with_key : List ℕ → Outcome
  with_key key = record { status = 0x80; keys = set o.keys counter (record { there = true; bytes = key }); reply = no_reply; image = o.image }

  -- it is the session key that changes, and no byte of the image
  session_key-whole : whole o frame ≡ with_key (new_session_key root key_data)
  unfolding session_key_frame kind_of signed_by carried_out all_stored pick
  session_key-whole = built-carried_out o counter (SessionKeyBuilt root key_data) size order set-counter same-root ∙ ap with_key new-key

  inside : counter < length o.keys
  inside = omega (arith, formed.four, formed.laid.few, order.below)

  pub session_key_agreed : InSession (whole o frame) counter (new_session_key root key_data) (slot_of o.image counter).value
  session_key_agreed =
      let key : Key = record { there = true; bytes = new_session_key root key_data } in
      let its = get_or-set_same o.keys counter key no_key inside in
      subst (λ (p : Outcome). InSession p counter (new_session_key root key_data) (slot_of o.image counter).value) (sym session_key-whole)
      (record {
        order = record { below = order.below; sound = order.sound };
        counter_set = set-counter;
        there = ap (λ (k : Key). k.there) its;
        same_key = ap (λ (k : Key). k.bytes) its;
        value-kept = refl;
      })

-- the key words of a root key frame, stored and read back
key_back : (counter : ℕ) (key : List ℕ) → length key ≡ 32 → Bytes key → key_brought (frame_kept (root_key_frame counter key)) ≡ key
unfolding key_brought words_of pick
key_back counter key size bytes =
    ap bytes_of_all (table_same _ _ 8 (λ i h. word i h)) ∙ bytes_back key bytes 8 size
  where
    word : (i : ℕ) → i < 8 → word_or0 (frame_kept (root_key_frame counter key)) (4 + 4 * i) ≡ word_at key (4 * i)
    word i h =
        let sent = frame_kept (root_key_frame counter key) in
        let long : length sent ≡ 64 = length-table _ 64 in
        rw (le-leb (4 + 4 * i + 4) (length sent) (omega (arith, long)))
        (sym (field_word 4 32 sent (4 * i) (omega arith)) ∙ ap (λ (l : List ℕ). word_at l (4 * i)) (root_key-sent counter key size))

module _
    (o : Outcome) (formed : Formed o.image o.keys) (counter : ℕ) (key : List ℕ) (size : length key ≡ 32) (bytes : Bytes key)
    (lasting : key ≡ replicate 32 255 → ⊥) (order : CounterInOrder o counter) (unset : RootUnset o counter) where
  abbrev root_frame : List ℕ
  root_frame = root_key_frame counter key

  abbrev found : Slot
  found = slot_of o.image counter

  abbrev value : ℕ
  value = pick (is_set found.counter_state) found.value 0

  not_temporary_by : (b : Bool) → is_temporary (frame_kept root_frame) ≡ b → is_temporary (frame_kept root_frame) ≡ false
  unfolding is_temporary
  not_temporary_by true e = absurd (lasting (sym (root_key-sent counter key size) ∙ same_equal _ _ e))
  not_temporary_by false e = e

  its_kind : kind_in o root_frame ≡ root_kind false found.counter_state
  unfolding kind_of root_key_frame pick
  its_kind = ap (λ (t : Bool). root_kind t found.counter_state) (not_temporary_by _ refl)

  abbrev Leaves : List ℕ → Type 0
  Leaves image = (slot_of image counter ≡ paired value) × (slot_field image counter 16 32 ≡ key)

  abbrev kind : Kind
  kind = root_kind false found.counter_state

  image_after_lem : (whole o root_frame).image ≡ image_after kind o root_frame
  unfolding carried_out
  image_after_lem =
      ap (λ (p : Outcome). p.image) (built-carried_out o counter (RootKeyBuilt key) size order unset tt)
      ∙ ap (λ (k : Kind). image_after k o root_frame) its_kind

  leaves : Leaves (whole o root_frame).image
  leaves =
      let kept = kept_after (command_of kind) 0 (value_in o root_frame) in
      let stored = root_key_leaves (frame_kept root_frame) kept o.image counter formed.laid order.below in
      let its-counter : counter_of root_frame ≡ counter = (built_form (RootKeyBuilt key) counter size).named in
      subst Leaves (sym image_after_lem) (rw its-counter (stored.0, stored.1 ∙ key_back counter key size bytes))

  pub root_key_agreed : Paired (whole o root_frame) counter key value
  unfolding is_bad root_key pick
  root_key_agreed =
      record {
        order = record { below = rw (whole-kept o root_frame formed.laid).header.counters order.below; sound = rw leaves.0 };
        root-set = rw leaves.0;
        counter_set = rw leaves.0;
        root-key = rw leaves.0 leaves.1;
        value-kept = rw leaves.0;
      }
