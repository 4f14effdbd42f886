-- After a built increment of the device's value the counter is in session as before, and its value is one more: the store of an
-- increment changes the value's word alone, and check 10 has shut the last value out. Assumes nothing.
use Prim.Native.Nat.{ℕ, suc, ◌+◌, ◌%◌, ◌^◌, ◌<◌}
use mathlib.Core.Path.{◌≡◌, refl, ap, ◌∙◌}
use mathlib.Core.List.{List}
use native.Mathlib.Omega.{arith}
use Rattle.words.specs.Choice.{pick}
use Rattle.words.specs.Words.{bytes_of, with_word}
use Rattle.image.specs.Header.{slot_at}
use Rattle.image.specs.declared.Slot.{Slot}
use Rattle.image.specs.Slot.{slot_of, is_bad}
use Rattle.image.proofs.Slots.{value-stored}
use Rattle.jobs.specs.Jobs.{kind_of}
use Rattle.state.specs.Parts.{no_reply}
use Rattle.plan.specs.Storing.{stored, all_stored}
use Rattle.rules.specs.Formed.{Formed}
use Rattle.rules.specs.Whole.{Outcome, value_in, carried_out, whole}
use Rattle.rules.proofs.Kept.{whole-kept}
use Rattle.host.specs.Frames.{signed_by, increment_frame}
use Rattle.exchange.specs.Built.{IncrementBuilt, InSession}
use Rattle.exchange.proofs.Carried.{its_value, built-carried_out}

module _
    (o : Outcome) (formed : Formed o.image o.keys) (counter : ℕ) (key : List ℕ) (value : ℕ)
    (session : InSession o counter key value) (below : value < 0xFFFFFFFF) where
  abbrev frame : List ℕ
  frame = increment_frame counter key (bytes_of value)

  abbrev counted : ℕ → Outcome
  counted w = record { status = 0x80; keys = o.keys; reply = no_reply; image = with_word o.image (slot_at o.image counter + 8) w }

  one_more : (value_in o frame + 1) % 2 ^ 32 ≡ suc value
  one_more =
      let its : value_in o frame ≡ value = its_value o counter (IncrementBuilt key (bytes_of value)) refl ∙ session.value-kept in
      omega (arith, its, below)

  increment_whole : whole o frame ≡ counted (suc value)
  unfolding increment_frame signed_by kind_of carried_out all_stored stored pick
  increment_whole =
      built-carried_out o counter (IncrementBuilt key (bytes_of value)) refl session.order (session.counter_set, session.there)
      (session.same_key, ap bytes_of session.value-kept, rw session.value-kept below)
      ∙ ap counted one_more

  abbrev found : Slot
  found = slot_of o.image counter

  slot_counted :
      slot_of (whole o frame).image counter ≡
      record { root_state = found.root_state; counter_state = found.counter_state; value = suc value }
  slot_counted = rw increment_whole (value-stored o.image counter (suc value) formed.laid session.order.below)

  pub increment_counted : InSession (whole o frame) counter key (suc value)
  unfolding is_bad
  increment_counted =
      record {
        order =
            record {
              below = rw (whole-kept o frame formed.laid).header.counters session.order.below;
              sound = rw slot_counted session.order.sound;
            };
        counter_set = rw slot_counted session.counter_set;
        there = rw increment_whole session.there;
        same_key = rw increment_whole session.same_key;
        value-kept = rw slot_counted;
      }
