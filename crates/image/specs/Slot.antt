-- Document 01, "The counter image": a slot's words, when it is bad, and the root key in use. Assumes nothing.
use Rattle.std.specs.Prelude.{ℕ, ◌+◌, Bool, true, false, not, List, eqb, replicate}
use Rattle.words.specs.Choice.{pick}
use Rattle.words.specs.Table.{field}
use Rattle.words.specs.Words.{word_or0}
use Rattle.image.specs.declared.Slot.{Slot}
use Rattle.image.specs.Header.{slot_at}

-- slot: 0-3 root state, 4-7 counter state, 8-11 counter value
unfoldable pub slot_of : List ℕ → ℕ → Slot
slot_of image counter =
    record {
      root_state = word_or0 image (slot_at image counter);
      counter_state = word_or0 image (slot_at image counter + 4);
      value = word_or0 image (slot_at image counter + 8);
    }

-- a state word is FFFFFFFFh (unset) or 0 (set)
abbrev pub unset : ℕ
unset = 0xFFFFFFFF

abbrev pub is_set : ℕ → Bool
is_set word = eqb word 0

abbrev pub is_state : ℕ → Bool
is_state word = pick (is_set word) true (eqb word unset)

-- a slot is bad if a state word is neither of the two, or if root is set and counter is not
unfoldable pub is_bad : Slot → Bool
is_bad slot =
    pick (is_state slot.root_state)
    (pick (is_state slot.counter_state)
    (pick (is_set slot.root_state) (not (is_set slot.counter_state)) false)
    true)
    true

-- slot: 16-47 root key. While the root state is not set, the root key in use is 32 bytes of FFh, no matter what the slot holds
unfoldable pub root_key : List ℕ → ℕ → List ℕ
root_key image counter =
    pick (is_set (slot_of image counter).root_state)
    (field (slot_at image counter + 16) 32 image)
    (replicate 32 255)
