-- A slot as words and fields at places, and what a stored word changes: the word at its place is the one stored, and all else of the
-- slot, every other slot and the header stay. The slot has any size that there is. Assumes nothing.
use Prim.Native.Nat.{ℕ, ◌+◌, ◌≤◌, ◌<◌}
use mathlib.Core.Path.{◌≡◌, refl, ap, sym, ◌∙◌}
use mathlib.Core.Logic.{⊎_elim, ◌⊎◌, inl, inr}
use mathlib.Core.Bool.{Bool, true, false}
use mathlib.Core.List.{List}
use native.Mathlib.Omega.{arith}
use borrow.Author.Tests.{le-leb, ltb-true, ltb-false}
use lib.Dec.{ltb}
use lib.ListN.{length, length-replicate}
use Rattle.words.specs.Choice.{pick}
use Rattle.words.specs.Table.{field}
use Rattle.words.specs.Words.{word_at, word_or0, put_word, with_word}
use Rattle.words.proofs.Choice.{either}
use Rattle.words.proofs.Table.{length-table}
use Rattle.words.proofs.Fields.{field_word, field-field}
use Rattle.words.proofs.Puts.{Apart, field_put_in, field_put_out, word_same, word_apart}
use Rattle.image.specs.Header.{count, slot_size, slot_at}
use Rattle.image.specs.declared.Slot.{Slot}
use Rattle.image.specs.Slot.{slot_of, root_key}
use Rattle.image.proofs.Laid.{SameHeader, header_put, same_place, wide, behind, room, in_order}
use Rattle.image.specs.Laid.{Laid}

-- the word, and the field of n bytes, at a place of a slot
abbrev pub slot_word : List ℕ → ℕ → ℕ → ℕ
slot_word image c k = word_or0 image (slot_at image c + k)

abbrev pub slot_field : List ℕ → ℕ → ℕ → ℕ → List ℕ
slot_field image c k n = field (slot_at image c + k) n image

-- a slot's front: the 48 bytes that every slot has
abbrev pub slot_bytes : List ℕ → ℕ → List ℕ
slot_bytes image c = field (slot_at image c) 48 image

-- a word of a field of 48 bytes
word_in : (image : List ℕ) (p k : ℕ) → k + 4 ≤ 48 → p + 48 ≤ length image → word_or0 image (p + k) ≡ word_at (field p 48 image) k
unfolding pick
word_in image p k h fits = rw (le-leb (p + k + 4) (length image) (omega arith)) (sym (field_word p 48 image k h))

module _ (image : List ℕ) (c : ℕ) (laid : Laid image) (below : c < count image) where
  front_room : slot_at image c + 48 ≤ length image
  front_room = omega (arith, room image c laid below, wide image laid)

  pub root_in : (slot_of image c).root_state ≡ word_at (slot_bytes image c) 0
  unfolding slot_of
  root_in = ap (word_or0 image) (omega arith) ∙ word_in image (slot_at image c) 0 (omega arith) front_room

  pub counter_in_lem : (slot_of image c).counter_state ≡ word_at (slot_bytes image c) 4
  unfolding slot_of
  counter_in_lem = word_in image (slot_at image c) 4 (omega arith) front_room

  pub value_in_lem : (slot_of image c).value ≡ word_at (slot_bytes image c) 8
  unfolding slot_of
  value_in_lem = word_in image (slot_at image c) 8 (omega arith) front_room

pub key_in_lem : (image : List ℕ) (c : ℕ) → field (slot_at image c + 16) 32 image ≡ field 16 32 (slot_bytes image c)
key_in_lem image c = sym (field-field (slot_at image c) 48 16 32 image (omega arith))

pub length-root_key : (image : List ℕ) (c : ℕ) → length (root_key image c) ≡ 32
unfolding root_key
length-root_key image c =
    either (λ (key : List ℕ). length key ≡ 32) _ _ _ (λ e. length-table _ 32) (λ e. length-replicate {A = ℕ} 32 255)

-- one of two different numbers is below the other
order_by : (m n : ℕ) → (m ≡ n → ⊥) → (b : Bool) → ltb m n ≡ b → (m < n) ⊎ (n < m)
order_by m n apart true e = inl (ltb-true m n e)
order_by m n apart false e = let least = ltb-false m n e in inr (omega (arith, least, apart))

order : (m n : ℕ) → (m ≡ n → ⊥) → (m < n) ⊎ (n < m)
order m n apart = order_by m n apart _ refl

-- a word stored at a place of a slot
module _ (image : List ℕ) (c k w : ℕ) (laid : Laid image) (below : c < count image) (inside : k + 4 ≤ slot_size image) where
  abbrev after : List ℕ
  after = with_word image (slot_at image c + k) w

  fits : slot_at image c + k + 4 ≤ length image
  fits = omega (arith, room image c laid below, inside)

  is_put : after ≡ put_word image (slot_at image c + k) w
  unfolding pick
  is_put = rw (le-leb (slot_at image c + k + 4) (length image) fits)

  pub header_stored : SameHeader after image
  header_stored = rw is_put (header_put image (slot_at image c + k) w (omega (arith, behind image c laid)))

  -- in its own slot: the word at its place, and no other
  pub word_stored : slot_word after c k ≡ w
  word_stored = rw (same_place after image c header_stored) (word_same image (slot_at image c + k) w fits)

  pub word_beside : (m : ℕ) → Apart m k → slot_word after c m ≡ slot_word image c m
  word_beside m apart =
      rw (same_place after image c header_stored)
      (word_apart image (slot_at image c + m) (slot_at image c + k) w
      (⊎_elim (λ (before : m + 4 ≤ k). inl (omega arith)) (λ (after : k + 4 ≤ m). inr (omega arith)) apart))

  -- a field that stands wholly before or behind the store, in any slot
  kept : (p n : ℕ) → (slot_at image c + k + 4 ≤ p) ⊎ (p + n ≤ slot_at image c + k) → field p n after ≡ field p n image
  kept p n apart = rw is_put (field_put_out p n (slot_at image c + k) w image apart)

  pub field_beside : (m n : ℕ) → (k + 4 ≤ m) ⊎ (m + n ≤ k) → slot_field after c m n ≡ slot_field image c m n
  field_beside m n apart =
      rw (same_place after image c header_stored)
      (kept (slot_at image c + m) n
      (⊎_elim (λ (behind : k + 4 ≤ m). inl (omega arith)) (λ (before : m + n ≤ k). inr (omega arith)) apart))

  pub field_other : (d m n : ℕ) → (d ≡ c → ⊥) → m + n ≤ slot_size image → slot_field after d m n ≡ slot_field image d m n
  field_other d m n apart size =
      rw (same_place after image d header_stored)
      (kept (slot_at image d + m) n
      (⊎_elim (λ (l : d < c). inr (omega (arith, in_order image d c l))) (λ (g : c < d). inl (omega (arith, in_order image c d g)))
      (order d c apart)))

  pub word_other : (d m : ℕ) → (d ≡ c → ⊥) → m + 4 ≤ slot_size image → slot_word after d m ≡ slot_word image d m
  word_other d m apart size =
      rw (same_place after image d header_stored)
      (word_apart image (slot_at image d + m) (slot_at image c + k) w
      (⊎_elim (λ (l : d < c). inl (omega (arith, in_order image d c l))) (λ (g : c < d). inr (omega (arith, in_order image c d g)))
      (order d c apart)))

  -- the front: a store in it, a store behind it, and a store in another slot
  pub front-stored : k + 4 ≤ 48 → slot_bytes after c ≡ put_word (slot_bytes image c) k w
  front-stored front =
      rw (same_place after image c header_stored, is_put)
      (field_put_in (slot_at image c) 48 k w image front (front_room image c laid below))

  pub front_kept : 48 ≤ k → slot_bytes after c ≡ slot_bytes image c
  front_kept past = rw (same_place after image c header_stored) (kept (slot_at image c) 48 (inr (omega arith)))

  pub front_other : (d : ℕ) → (d ≡ c → ⊥) → slot_bytes after d ≡ slot_bytes image d
  front_other d apart =
      rw (same_place after image d header_stored)
      (kept (slot_at image d) 48
      (⊎_elim (λ (l : d < c). inr (omega (arith, in_order image d c l, wide image laid)))
      (λ (g : c < d). inl (omega (arith, in_order image c d g)))
      (order d c apart)))

-- a slot, read from its front
abbrev pub front_slot : List ℕ → Slot
front_slot front = record { root_state = word_at front 0; counter_state = word_at front 4; value = word_at front 8 }

pub slot_in : (image : List ℕ) (c : ℕ) → Laid image → c < count image → slot_of image c ≡ front_slot (slot_bytes image c)
slot_in image c laid below = rw (← root_in image c laid below, ← counter_in_lem image c laid below, ← value_in_lem image c laid below)

-- a word stored at the value's place changes the value alone
pub value-stored :
    (image : List ℕ) (c w : ℕ) → Laid image → c < count image →
    slot_of (with_word image (slot_at image c + 8) w) c ≡
    record { root_state = (slot_of image c).root_state; counter_state = (slot_of image c).counter_state; value = w }
unfolding slot_of
value-stored image c w laid below =
    let after = with_word image (slot_at image c + 8) w in
    let inside : 8 + 4 ≤ slot_size image = omega (arith, wide image laid) in
    let place : (l : List ℕ) → slot_at l c ≡ slot_at l c + 0 = λ l. omega arith in
    let root : word_or0 after (slot_at after c) ≡ word_or0 image (slot_at image c) =
    ap (word_or0 after) (place after) ∙ word_beside image c 8 w laid below inside 0 (inl (omega arith)) ∙ ap (word_or0 image) (sym (place image)) in
    rw (root, word_beside image c 8 w laid below inside 4 (inl (omega arith)), word_stored image c 8 w laid below inside)
