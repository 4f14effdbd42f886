-- What is compared of a counter, as its slot's 48 bytes show it, before and after the stores of a job. Assumes nothing.
use Prim.Native.Nat.{ℕ, ◌/◌, ◌%◌, ◌<◌}
use mathlib.Core.Path.{◌≡◌, refl}
use mathlib.Core.List.{List}
use lib.ListN.{replicate}
use Rattle.words.specs.Choice.{pick}
use Rattle.words.specs.Table.{table, spread, field}
use Rattle.words.specs.Words.{word_of, word_at, put_word}
use Rattle.image.specs.Header.{count}
use Rattle.image.specs.Slot.{is_set, root_key}
use Rattle.image.specs.Laid.{Laid}
use Rattle.image.proofs.Slots.{slot_bytes, root_in, counter_in_lem, value_in_lem, key_in_lem}
use Rattle.jobs.specs.declared.Kind.{Kind}
use Rattle.jobs.specs.declared.Kind.TheVariants.{RootKeyAndCounter, RootKey, SessionKey, Increment, Request, TemporaryKeyAndCounter, TemporaryKey}
use Rattle.plan.specs.Stores.{key_stores, stores}
use Rattle.plan.proofs.InSlot.{put_all}
use Rattle.plan.proofs.RootKeys.{key_brought}
use Rattle.counters.specs.Compared.{Counter, value_shown, counter_in}

-- read from a slot's bytes
unfoldable pub read_counter : List ℕ → Counter
read_counter b =
    record {
      root_state = word_at b 0;
      counter_state = word_at b 4;
      value = value_shown (word_at b 4) (word_at b 8);
      key = pick (is_set (word_at b 0)) (field 16 32 b) (replicate 32 255);
    }

pub counter_read : (image : List ℕ) (c : ℕ) → Laid image → c < count image → counter_in image c ≡ read_counter (slot_bytes image c)
unfolding counter_in read_counter root_key
counter_read image c laid below =
    rw (root_in image c laid below, counter_in_lem image c laid below, value_in_lem image c laid below, key_in_lem image c)

-- a word as it is read back
abbrev pub read_back : ℕ → ℕ
read_back w = word_of (w / 16777216) (w / 65536 % 256) (w / 256 % 256) (w % 256)

-- what a kind of job makes of what is compared
abbrev pub counter_after : Kind → List ℕ → ℕ → Counter → Counter
counter_after RootKeyAndCounter frame kept p = record { root_state = 0; counter_state = 0; value = 0; key = key_brought frame }
counter_after RootKey frame kept p = record { root_state = 0; counter_state = p.counter_state; value = p.value; key = key_brought frame }
counter_after TemporaryKeyAndCounter frame kept p = record { root_state = p.root_state; counter_state = 0; value = 0; key = p.key }
counter_after TemporaryKey frame kept p = p
counter_after SessionKey frame kept p = p
counter_after Increment frame kept p =
    record { root_state = p.root_state; counter_state = p.counter_state; value = value_shown p.counter_state (read_back kept); key = p.key }
counter_after Request frame kept p = p

module _ (g : ℕ → ℕ) (frame : List ℕ) (kept : ℕ) where
  pub after-stores :
      (kind : Kind) → read_counter (put_all (stores kind frame kept) (table g 48)) ≡ counter_after kind frame kept (read_counter (table g 48))
  unfolding put_all put_word key_stores table spread read_counter key_brought pick
  after-stores RootKeyAndCounter = refl
  after-stores RootKey = refl
  after-stores TemporaryKeyAndCounter = refl
  after-stores TemporaryKey = refl
  after-stores SessionKey = refl
  after-stores Increment = refl
  after-stores Request = refl
