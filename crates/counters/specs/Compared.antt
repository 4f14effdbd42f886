-- Document 01, "Steps": what demand 3 compares, and what it does not. Assumes nothing.
use Rattle.std.specs.Prelude.{ℕ, ◌<◌, ◌≡◌, List}
use Rattle.words.specs.Choice.{pick}
use Rattle.image.specs.Header.{count}
use Rattle.image.specs.Slot.{slot_of, is_set, root_key}
use Rattle.rules.specs.Whole.{Outcome}

-- per counter, the state words, the value while set and the key while root is set; not the key words under an unset root, nor a
-- value word under an unset counter
pub record Counter : Type 0 where
  pub root_state : ℕ
  pub counter_state : ℕ
  pub value : ℕ
  pub key : List ℕ

-- the value while set
abbrev pub value_shown : ℕ → ℕ → ℕ
value_shown counter value = pick (is_set counter) value 0

unfoldable pub counter_in : List ℕ → ℕ → Counter
counter_in image c =
    record {
      root_state = (slot_of image c).root_state;
      counter_state = (slot_of image c).counter_state;
      value = value_shown (slot_of image c).counter_state (slot_of image c).value;
      key = root_key image c;
    }

-- demand 3 compares status, reply, session keys and, per counter, these
pub record Alike (a b : Outcome) : Type 0 where
  pub status : a.status ≡ b.status
  pub reply : a.reply ≡ b.reply
  pub keys : a.keys ≡ b.keys
  pub counters : (c : ℕ) → c < count a.image → counter_in a.image c ≡ counter_in b.image c
