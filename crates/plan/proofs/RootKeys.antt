-- What the stores of a root key job leave in the slot: the key words as the frame has them, root set, and the counter set at 0 if it
-- was unset, else as it was. Assumes nothing.
use Prim.Native.Nat.{ℕ, ◌+◌, ◌*◌, ◌<◌}
use mathlib.Core.Path.{◌≡◌, refl, ap, sym, ◌∙◌}
use mathlib.Core.Bool.{Bool, true, false}
use mathlib.Core.List.{List}
use borrow.Author.Tests.{eqb-true}
use lib.ListN.{get_or}
use Rattle.words.specs.Choice.{pick}
use Rattle.words.specs.Table.{table, spread, field}
use Rattle.words.specs.Words.{word_or0, bytes_of_all, put_word}
use Rattle.image.specs.Header.{count, slot_at}
use Rattle.image.specs.declared.Slot.{Slot}
use Rattle.image.specs.Slot.{slot_of, is_set}
use Rattle.image.specs.Laid.{Laid}
use Rattle.image.proofs.Laid.{same_laid}
use Rattle.image.proofs.Slots.{slot_bytes, slot_field, front_slot, slot_in, key_in_lem}
use Rattle.jobs.specs.Jobs.{root_kind}
use Rattle.jobs.specs.declared.Kind.{Kind}
use Rattle.jobs.specs.declared.Kind.TheVariants.{RootKeyAndCounter, RootKey}
use Rattle.plan.specs.Stores.{key_stores, stores}
use Rattle.plan.specs.Storing.{all_stored}
use Rattle.plan.proofs.InSlot.{InSlot, put_all, made}

-- the key that a frame brings, as its stores leave it
unfoldable pub key_brought : List ℕ → List ℕ
key_brought frame = bytes_of_all (table (λ i. word_or0 frame (4 + 4 * i)) 8)

-- root set, and the counter as it was
abbrev rooted : Slot → Slot
rooted slot = record { root_state = 0; counter_state = slot.counter_state; value = slot.value }

-- root and counter set, with a value
abbrev pub paired : ℕ → Slot
paired value = record { root_state = 0; counter_state = 0; value = value }

-- in the slot's front
module _ (g : ℕ → ℕ) (frame : List ℕ) (kept : ℕ) where
  abbrev front : Kind → List ℕ
  front kind = put_all (stores kind frame kept) (table g 48)

  front-paired : (front_slot (front RootKeyAndCounter) ≡ paired 0) × (field 16 32 (front RootKeyAndCounter) ≡ key_brought frame)
  unfolding put_all put_word key_stores table spread key_brought pick
  front-paired = (refl, refl)

  front-rooted : (front_slot (front RootKey) ≡ rooted (front_slot (table g 48))) × (field 16 32 (front RootKey) ≡ key_brought frame)
  unfolding put_all put_word key_stores table spread key_brought pick
  front-rooted = (refl, refl)

-- in the image
module _ (frame : List ℕ) (kept : ℕ) (image : List ℕ) (c : ℕ) (laid : Laid image) (below : c < count image) where
  abbrev after : Kind → List ℕ
  after kind = all_stored (stores kind frame kept) image c

  abbrev made_by : (kind : Kind) → InSlot (stores kind frame kept) image c
  made_by kind = made kind frame kept image c laid below

  slot-after : (kind : Kind) → slot_of (after kind) c ≡ front_slot (put_all (stores kind frame kept) (slot_bytes image c))
  slot-after kind =
      slot_in (after kind) c (same_laid (after kind) image (made_by kind).header laid) (rw (made_by kind).header.counters below)
      ∙ ap front_slot (made_by kind).own

  key-after : (kind : Kind) → slot_field (after kind) c 16 32 ≡ field 16 32 (put_all (stores kind frame kept) (slot_bytes image c))
  key-after kind = key_in_lem (after kind) c ∙ ap (field 16 32) (made_by kind).own

  abbrev byte : ℕ → ℕ
  byte i = get_or image (slot_at image c + i) 0

  abbrev found : Slot
  found = slot_of image c

  -- this slot, and the key behind it
  abbrev Leaves : Kind → Slot → Type 0
  Leaves kind slot = (slot_of (after kind) c ≡ slot) × (slot_field (after kind) c 16 32 ≡ key_brought frame)

  leaves_by : (b : Bool) → is_set found.counter_state ≡ b → Leaves (pick b RootKey RootKeyAndCounter) (paired (pick b found.value 0))
  unfolding pick
  leaves_by true set =
      let zero : found.counter_state ≡ 0 = eqb-true found.counter_state 0 set in (
        slot-after RootKey ∙ (front-rooted byte frame kept).0 ∙ ap rooted (sym (slot_in image c laid below))
            ∙ ap (λ (state : ℕ). record { root_state = 0; counter_state = state; value = found.value }) zero,
        key-after RootKey ∙ (front-rooted byte frame kept).1,
      )
  leaves_by false unset =
      (slot-after RootKeyAndCounter ∙ (front-paired byte frame kept).0, key-after RootKeyAndCounter ∙ (front-paired byte frame kept).1)

  -- a key that is not all FFh
  pub root_key_leaves : Leaves (root_kind false found.counter_state) (paired (pick (is_set found.counter_state) found.value 0))
  unfolding root_kind pick
  root_key_leaves = leaves_by _ refl
