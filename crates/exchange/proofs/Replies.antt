-- The device's reply to a request that the host built is read as good, and hands back the device's counter value. Assumes nothing.
use Prim.Native.Nat.{ℕ, suc, ◌+◌, ◌≤◌, ◌<◌}
use mathlib.Core.Path.{◌≡◌, refl, ap, sym, ◌∙◌}
use mathlib.Core.Bool.{true, false}
use mathlib.Core.List.{List, [], ◌++◌, append_assoc}
use native.Mathlib.Omega.{arith}
use borrow.Author.Tests.{lt-ltb, ne_eqb}
use lib.ListN.{length, get_or, length-append}
use Rattle.words.specs.Choice.{pick}
use Rattle.words.specs.Words.{bytes_of}
use Rattle.words.proofs.Table.{length-table, table_same, get_or-table}
use Rattle.words.specs.Table.{field}
use Rattle.words.proofs.Fields.{field_part, field_between, field_behind}
use Rattle.hmac.specs.Hmac.{HMAC}
use Rattle.hmac.proofs.Lengths.{length-HMAC}
use Rattle.frames.specs.declared.Reply.{Reply}
use Rattle.frames.specs.Reading.{read_byte, read_output}
use Rattle.state.specs.declared.Key.{Key}
use Rattle.jobs.specs.Jobs.{kind_of}
use Rattle.jobs.specs.declared.Kind.TheVariants.{Request}
use Rattle.rules.specs.Whole.{Outcome, frame_kept, kind_in, value_in, carried_out, whole, key_in}
use Rattle.host.specs.Frames.{signed_by, request_frame}
use Rattle.host.specs.declared.Verdict.TheVariants.{Good}
use Rattle.host.specs.Reading.{GoodReply, part_of}
use Rattle.host.proofs.Verdicts.{good_read}
use Rattle.exchange.specs.Built.{RequestBuilt, InSession}
use Rattle.exchange.specs.Exchange.{ReadsGood}
use Rattle.exchange.proofs.Fields.{data_sent}
use Rattle.exchange.proofs.Carried.{its_key, its_value, built-carried_out}

abbrev shown : List ℕ → Reply
shown bytes = record { there = true; bytes = bytes }

-- what a read of 49 bytes gives of a reply
abbrev pub read_back : List ℕ → List ℕ
read_back bytes = read_output false 0x80 (shown bytes) 49

byte_back : (bytes : List ℕ) (i : ℕ) → i < 48 → read_byte false 0x80 (shown bytes) (suc i) ≡ get_or bytes i 0
unfolding read_byte pick
byte_back bytes i h = rw (ne_eqb (suc i) 0 (omega arith), lt-ltb (suc i) 49 (omega arith)) (ap (λ (j : ℕ). get_or bytes j 0) (omega arith))

field_back : (at n : ℕ) (bytes : List ℕ) → at + n ≤ 48 → field (1 + at) n (read_back bytes) ≡ field at n bytes
unfolding read_output
field_back at n bytes h =
    table_same _ _ n
    (λ i l.
    get_or-table (read_byte false 0x80 (shown bytes)) 49 (1 + at + i) 0 (omega arith)
    ∙ ap (read_byte false 0x80 (shown bytes)) (omega arith) ∙ byte_back bytes (at + i) (omega arith))

-- a reply of a tag and a value, signed under a key
module _ (key tag : List ℕ) (value : ℕ) (long : length key ≡ 32) (size : length tag ≡ 12) where
  abbrev said : List ℕ
  said = tag ++ bytes_of value

  abbrev reply : List ℕ
  reply = said ++ HMAC key said

  long_said : length said ≡ 16
  long_said = omega (arith, length-append tag (bytes_of value), size)

  good : GoodReply key tag (read_back reply)
  unfolding read_output read_byte pick
  good =
      let front : field 1 16 (read_back reply) ≡ said =
      field_back 0 16 reply (omega arith) ∙ field_between 0 16 [] said (HMAC key said) refl long_said in
      record {
        key-length = long;
        tag-length = size;
        reply-length = length-table (read_byte false 0x80 (shown reply)) 49;
        status = get_or-table (read_byte false 0x80 (shown reply)) 49 0 0 (omega arith);
        same_tag =
            field_back 0 12 reply (omega arith)
            ∙ rw (append_assoc tag (bytes_of value) (HMAC key said)) (field_between 0 12 [] tag (bytes_of value ++ HMAC key said) refl size);
        signed =
            field_back 16 32 reply (omega arith)
            ∙ field_behind 16 32 said (HMAC key said) long_said (length-HMAC key said)
            ∙ sym (ap (HMAC key) front);
      }

  part_back : part_of Good (read_back reply) ≡ bytes_of value
  unfolding read_output
  part_back =
      field_part 13 4 (read_back reply) (omega (arith, length-table (read_byte false 0x80 (shown reply)) 49))
      ∙ field_back 12 4 reply (omega arith)
      ∙ rw (append_assoc tag (bytes_of value) (HMAC key said)) (field_between 12 4 tag (bytes_of value) (HMAC key said) size refl)

-- a request that the host built with the session key of a counter that is in session
module _
    (o : Outcome) (counter : ℕ) (key tag : List ℕ) (value : ℕ) (long : length key ≡ 32) (size : length tag ≡ 12)
    (session : InSession o counter key value) where
  abbrev frame : List ℕ
  frame = request_frame counter key tag

  kind-asked : kind_in o frame ≡ Request
  unfolding request_frame signed_by kind_of pick
  kind-asked = refl

  tag_kept : field 4 12 (frame_kept frame) ≡ tag
  unfolding request_frame
  tag_kept = data_sent key 3 counter tag 12 size (omega arith)

  key_used : (key_in o frame).bytes ≡ key
  key_used = ap (λ (k : Key). k.bytes) (its_key o counter (RequestBuilt key tag) size) ∙ session.same_key

  value-told : value_in o frame ≡ value
  value-told = its_value o counter (RequestBuilt key tag) size ∙ session.value-kept

  -- its whole-frame result: 80h, and the reply
  answered : ((whole o frame).status ≡ 0x80) × ((whole o frame).reply ≡ shown (reply key tag value long size))
  unfolding carried_out
  answered =
      let done =
      built-carried_out o counter (RequestBuilt key tag) size session.order (session.counter_set, session.there) session.same_key in
      rw (done, kind-asked) (refl, rw (tag_kept, key_used, value-told))

  -- what a read of 49 bytes gives then
  abbrev pub reading : List ℕ
  reading = read_output false (whole o frame).status (whole o frame).reply 49

  as_read : reading ≡ read_back (reply key tag value long size)
  as_read = rw (answered.0, answered.1)

  -- is read as good, and the part is the counter value
  pub read_as_good : ReadsGood key tag reading value
  read_as_good =
      let verdict = good_read key tag _ (good key tag value long size) in
      rw as_read (verdict, rw verdict (part_back key tag value long size))
