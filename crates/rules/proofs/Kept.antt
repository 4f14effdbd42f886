-- The power-on state is what frames start from, and a frame run whole leaves it so: the header and the session keys of other counters
-- are left alone, and a new session key is as long as an old one. Assumes nothing.
use Prim.Native.Nat.{ℕ, ◌<◌}
use mathlib.Core.Path.{◌≡◌, refl, ap, ◌∙◌}
use mathlib.Core.Bool.{Bool, true, false}
use mathlib.Core.List.{List}
use native.Mathlib.Omega.{arith}
use borrow.Author.Tests.{eqb-true, eqb-false}
use lib.Dec.{eqb}
use lib.ListN.{length, get_or, length-set}
use lib.Seq.{get_or-set_same, get_or-set_other}
use Rattle.hmac.proofs.Lengths.{length-HMAC}
use Rattle.image.specs.Refusal.{refusal}
use Rattle.image.proofs.Laid.{SameHeader, same_header, same_laid, accepted_laid}
use Rattle.image.specs.Laid.{Laid}
use Rattle.jobs.specs.Jobs.{command_of}
use Rattle.jobs.specs.declared.Kind.{Kind}
use Rattle.jobs.specs.declared.Kind.TheVariants.{RootKeyAndCounter, RootKey, SessionKey, Increment, Request, TemporaryKeyAndCounter, TemporaryKey}
use Rattle.frames.specs.Layout.{counter_of}
use Rattle.state.specs.declared.Key.{Key}
use Rattle.state.specs.Parts.{no_key, power_on}
use Rattle.state.proofs.Inside.{no_key_lem}
use Rattle.plan.proofs.InSlot.{made}
use Rattle.rules.specs.Whole.{Outcome, frame_kept, status_on_arrival, kind_in, value_in, kept_after, keys_after, failed_with, carried_out, whole, new_session_key}
use Rattle.rules.specs.Formed.{Formed}
use Rattle.rules.proofs.Taken.{below_count, one_end}

-- the power-on state is formed
pub formed_on : (image : List ℕ) → refusal image ≡ 0 → Formed image power_on.keys
formed_on image accepted =
    record { laid = accepted_laid image accepted; four = refl; long = λ k. ap (λ (key : Key). length key.bytes) (no_key_lem 4 k) }

pub record Kept (d : Outcome) (frame : List ℕ) (o : Outcome) : Type 0 where
  pub header : SameHeader o.image d.image
  pub size : length o.keys ≡ length d.keys
  pub sessions : (k : ℕ) → (k ≡ counter_of frame → ⊥) → get_or o.keys k no_key ≡ get_or d.keys k no_key

module _ (d : Outcome) (frame : List ℕ) where
  abbrev c : ℕ
  c = counter_of frame

  kept_keys :
      (kind : Kind) →
      (length (keys_after (command_of kind) d frame) ≡ length d.keys)
      × ((k : ℕ) → (k ≡ c → ⊥) → get_or (keys_after (command_of kind) d frame) k no_key ≡ get_or d.keys k no_key)
  kept_keys RootKeyAndCounter = (refl, λ k apart. refl)
  kept_keys RootKey = (refl, λ k apart. refl)
  kept_keys TemporaryKeyAndCounter = (refl, λ k apart. refl)
  kept_keys TemporaryKey = (refl, λ k apart. refl)
  kept_keys SessionKey = (length-set d.keys c _, λ k apart. get_or-set_other d.keys c k _ no_key apart)
  kept_keys Increment = (refl, λ k apart. refl)
  kept_keys Request = (refl, λ k apart. refl)

  abbrev kept : ℕ
  kept = kept_after (command_of (kind_in d frame)) 0 (value_in d frame)

  carried-kept : Laid d.image → status_on_arrival d.image d.keys frame ≡ 0 → Kept d frame (carried_out (kind_in d frame) d frame)
  unfolding carried_out
  carried-kept laid passed =
      record {
        header = (made (kind_in d frame) (frame_kept frame) kept d.image c laid (below_count d frame passed)).header;
        size = (kept_keys (kind_in d frame)).0;
        sessions = (kept_keys (kind_in d frame)).1;
      }

  pub whole-kept : Laid d.image → Kept d frame (whole d frame)
  unfolding failed_with
  whole-kept laid =
      one_end (Kept d frame) d frame (carried-kept laid)
      (λ status. record { header = same_header d.image; size = refl; sessions = λ k apart. refl })

-- a new session key has 32 bytes, as the others have
module _ (d : Outcome) (frame : List ℕ) (formed : Formed d.image d.keys) where
  long_own :
      (kind : Kind) → status_on_arrival d.image d.keys frame ≡ 0 →
      length (get_or (keys_after (command_of kind) d frame) (counter_of frame) no_key).bytes ≡ 32
  long_own RootKeyAndCounter passed = formed.long (counter_of frame)
  long_own RootKey passed = formed.long (counter_of frame)
  long_own TemporaryKeyAndCounter passed = formed.long (counter_of frame)
  long_own TemporaryKey passed = formed.long (counter_of frame)
  long_own SessionKey passed =
      let place : counter_of frame < length d.keys = omega (arith, formed.four, below_count d frame passed, formed.laid.few) in
      rw (get_or-set_same d.keys (counter_of frame) (record { there = true; bytes = new_session_key d frame }) no_key place) (length-HMAC _ _)
  long_own Increment passed = formed.long (counter_of frame)
  long_own Request passed = formed.long (counter_of frame)

  -- the session key of the frame's counter, afterwards
  long_after : length (get_or (whole d frame).keys (counter_of frame) no_key).bytes ≡ 32
  unfolding carried_out failed_with
  long_after =
      one_end (λ o. length (get_or o.keys (counter_of frame) no_key).bytes ≡ 32) d frame (λ passed. long_own (kind_in d frame) passed)
      (λ status. formed.long (counter_of frame))

  long_by : (k : ℕ) (b : Bool) → eqb k (counter_of frame) ≡ b → length (get_or (whole d frame).keys k no_key).bytes ≡ 32
  long_by k true e = rw (eqb-true k (counter_of frame) e) long_after
  long_by k false e =
      ap (λ (key : Key). length key.bytes) ((whole-kept d frame formed.laid).sessions k (eqb-false k (counter_of frame) e)) ∙ formed.long k

  pub whole_formed : Formed (whole d frame).image (whole d frame).keys
  whole_formed =
      let kept = whole-kept d frame formed.laid in
      record {
        laid = same_laid _ _ kept.header formed.laid;
        four = kept.size ∙ formed.four;
        long = λ k. long_by k _ refl;
      }
