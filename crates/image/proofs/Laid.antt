-- Images with the same header, and images that refusals 1 to 3 let through: where their slots stand. Nothing here or above asks which
-- sizes a slot may have, but `wide`. Assumes nothing.
use Prim.Native.Nat.{ℕ, ◌+◌, ◌*◌, ◌≤◌, ◌<◌}
use mathlib.Core.Path.{◌≡◌, refl, sym, ◌∙◌}
use mathlib.Core.Logic.{inl}
use mathlib.Core.List.{List}
use native.Mathlib.Nat.{mul-suc, mul-le-mul_left}
use native.Mathlib.Omega.{arith}
use borrow.Author.Tests.{ltb-false, eqb-true, not-false}
use lib.ListN.{length}
use Rattle.words.specs.Choice.{pick}
use Rattle.words.specs.Words.{put_word}
use Rattle.words.proofs.Rows.{none_fails, no_test}
use Rattle.words.proofs.Puts.{length_put, word_kept}
use Rattle.image.specs.Header.{count, offset, slot_size, total, slot_at}
use Rattle.image.specs.Refusal.{is_size, refusals, refusal}
use Rattle.image.specs.Laid.{Laid}

-- the words of a header stand before all stores
pub record SameHeader (a b : List ℕ) : Type 0 where
  pub size : length a ≡ length b
  pub counters : count a ≡ count b
  pub first : offset a ≡ offset b
  pub each : slot_size a ≡ slot_size b
  pub all : total a ≡ total b

pub same_header : (a : List ℕ) → SameHeader a a
same_header a = record { size = refl; counters = refl; first = refl; each = refl; all = refl }

pub then_header : (a b c : List ℕ) → SameHeader a b → SameHeader b c → SameHeader a c
then_header a b c g h =
    record {
      size = g.size ∙ h.size;
      counters = g.counters ∙ h.counters;
      first = g.first ∙ h.first;
      each = g.each ∙ h.each;
      all = g.all ∙ h.all;
    }

pub back_header : (a b : List ℕ) → SameHeader a b → SameHeader b a
back_header a b h =
    record { size = sym h.size; counters = sym h.counters; first = sym h.first; each = sym h.each; all = sym h.all }

-- a word stored behind the header leaves it
pub header_put : (l : List ℕ) (j w : ℕ) → 16 ≤ j → SameHeader (put_word l j w) l
header_put l j w h =
    record {
      size = length_put l j w;
      counters = word_kept l 0 j w (inl (omega arith));
      first = word_kept l 4 j w (inl (omega arith));
      each = word_kept l 8 j w (inl (omega arith));
      all = word_kept l 12 j w (inl (omega arith));
    }

pub same_place : (a b : List ℕ) (c : ℕ) → SameHeader a b → slot_at a c ≡ slot_at b c
unfolding slot_at
same_place a b c h = rw (h.first, h.each)

pub same_refusal : (a b : List ℕ) → SameHeader a b → refusal a ≡ refusal b
unfolding refusal
same_refusal a b h = rw (h.all, h.counters, h.first, h.each, h.size)

pub same_laid : (a b : List ℕ) → SameHeader a b → Laid b → Laid a
same_laid a b h laid =
    record {
      each = rw h.each laid.each;
      first = rw h.first laid.first;
      fits = rw (h.each, h.first, h.counters, h.size) laid.fits;
      few = rw h.counters laid.few;
    }

pub accepted_laid : (image : List ℕ) → refusal image ≡ 0 → Laid image
unfolding refusal pick
accepted_laid image z =
    let row = none_fails (refusals (length image) (count image) (offset image) (slot_size image) (total image)) refl z in
    let size = eqb-true (total image) (length image) (not-false _ (no_test _ (row 0) 2)) in
    let fits = ltb-false (total image) (offset image + slot_size image * count image) (no_test _ (row 2) 3) in
    record {
      each = not-false _ (no_test _ (row 2) 2);
      first = ltb-false (offset image) 16 (no_test _ (row 2) 0);
      fits = omega (arith, size, fits);
      few = ltb-false 4 (count image) (no_test _ (row 1) 1);
    }

-- every slot has at least the 48 bytes of its front
pub wide : (image : List ℕ) → Laid image → 48 ≤ slot_size image
unfolding is_size
wide image laid = let e = eqb-true (slot_size image) 48 laid.each in omega (arith, e)

-- one slot more
one_more : (s m n : ℕ) → m < n → s * m + s ≤ s * n
one_more s m n h = rw (← mul-suc s m) (mul-le-mul_left s h)

-- slots stand behind the header, inside the image, and one behind the other
pub behind : (image : List ℕ) (c : ℕ) → Laid image → 16 ≤ slot_at image c
unfolding slot_at
behind image c laid = omega (arith, laid.first)

pub room : (image : List ℕ) (c : ℕ) → Laid image → c < count image → slot_at image c + slot_size image ≤ length image
unfolding slot_at
room image c laid below = omega (arith, laid.fits, one_more (slot_size image) c (count image) below)

pub in_order : (image : List ℕ) (c d : ℕ) → c < d → slot_at image c + slot_size image ≤ slot_at image d
unfolding slot_at
in_order image c d h = omega (arith, one_more (slot_size image) c d h)
