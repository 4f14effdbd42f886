-- A frame run whole: it changes its own counter and session key alone, and by what is compared of them alone. Assumes nothing.
use Prim.Native.Nat.{ℕ, ◌+◌, ◌<◌}
use mathlib.Core.Path.{◌≡◌, refl, ap, sym, ◌∙◌}
use mathlib.Core.Bool.{Bool, true, false}
use mathlib.Core.List.{List}
use native.Mathlib.Omega.{arith}
use borrow.Author.Tests.{eqb-true}
use lib.Dec.{eqb}
use lib.ListN.{length, get_or, set}
use lib.Seq.{get_or-set_same}
use Rattle.words.specs.Choice.{pick}
use Rattle.image.specs.Header.{count, slot_at}
use Rattle.image.specs.Slot.{slot_of}
use Rattle.image.proofs.Laid.{same_laid}
use Rattle.image.specs.Laid.{Laid}
use Rattle.jobs.specs.Jobs.{command_of}
use Rattle.jobs.specs.declared.Kind.{Kind}
use Rattle.jobs.specs.declared.Kind.TheVariants.{RootKeyAndCounter, RootKey, SessionKey, Increment, Request, TemporaryKeyAndCounter, TemporaryKey}
use Rattle.frames.specs.Layout.{counter_of}
use Rattle.state.specs.declared.Key.{Key}
use Rattle.state.specs.Parts.{no_key}
use Rattle.plan.specs.Stores.{stores}
use Rattle.plan.specs.Storing.{all_stored}
use Rattle.plan.proofs.InSlot.{InSlot, made}
use Rattle.rules.specs.Whole.{kept_after, frame_kept, status_on_arrival, Outcome, kind_in, value_in, all_checks, failed_with, keys_after, reply_after, image_after, carried_out, whole}
use Rattle.rules.proofs.TenChecks.{all_pass}
use Rattle.rules.proofs.Taken.{Facts, below_count, facts, one_end}
use Rattle.rules.specs.Formed.{Formed}
use Rattle.counters.specs.Compared.{counter_in}
use Rattle.counters.proofs.Counters.{read_counter, counter_read, counter_after, after-stores}
use Rattle.counters.proofs.Own.{SameTo, key_there_same, kind_same, new_key_same, value_same, checks_same}

-- the stores of a kind of job
module _ (kind : Kind) (frame : List ℕ) (kept : ℕ) (image : List ℕ) (c : ℕ) (laid : Laid image) (below : c < count image) where
  abbrev after : List ℕ
  after = all_stored (stores kind frame kept) image c

  abbrev in_slot : InSlot (stores kind frame kept) image c
  in_slot = made kind frame kept image c laid below

  still_laid : Laid after
  still_laid = same_laid after image in_slot.header laid

  pub own-after : counter_in after c ≡ counter_after kind frame kept (counter_in image c)
  own-after =
      counter_read after c still_laid (rw in_slot.header.counters below) ∙ ap read_counter in_slot.own
      ∙ after-stores (λ i. get_or image (slot_at image c + i) 0) frame kept kind
      ∙ ap (counter_after kind frame kept) (sym (counter_read image c laid below))

  pub other_after : (k : ℕ) → k < count image → (k ≡ c → ⊥) → counter_in after k ≡ counter_in image k
  other_after k inside apart =
      counter_read after k still_laid (rw in_slot.header.counters inside) ∙ ap read_counter (in_slot.other k apart)
      ∙ sym (counter_read image k laid inside)

-- a frame run whole leaves the other counters
module _ (d : Outcome) (frame : List ℕ) (laid : Laid d.image) (k : ℕ) (inside : k < count d.image) (apart : k ≡ counter_of frame → ⊥) where
  abbrev Same : Outcome → Type 0
  Same o = counter_in o.image k ≡ counter_in d.image k

  pub others_kept : Same (whole d frame)
  unfolding carried_out failed_with
  others_kept =
      let kind = kind_in d frame in
      one_end Same d frame
      (λ passed.
      other_after kind (frame_kept frame) (kept_after (command_of kind) 0 (value_in d frame)) d.image (counter_of frame) laid
      (below_count d frame passed) k inside apart)
      (λ status. refl)

-- two devices that are the same to a frame come to the same by it
pub record SameBy (frame : List ℕ) (d e : Outcome) (o p : Outcome) : Type 0 where
  pub status : o.status ≡ p.status
  pub reply : o.reply ≡ p.reply
  pub counter :
      counter_of frame < count d.image → counter_in o.image (counter_of frame) ≡ counter_in p.image (counter_of frame)
  pub session : get_or o.keys (counter_of frame) no_key ≡ get_or p.keys (counter_of frame) no_key

module _
    (frame : List ℕ) (d e : Outcome) (same : SameTo frame d e)
    (formed-d : Formed d.image d.keys) (formed-e : Formed e.image e.keys) where
  abbrev own : ℕ
  own = counter_of frame

  module _ (passed : status_on_arrival d.image d.keys frame ≡ 0) where
    below : own < count d.image
    below = below_count d frame passed

    below_e : own < count e.image
    below_e = rw (← same.header.counters) below

    abbrev kept_by : Outcome → Kind → ℕ
    kept_by x kind = kept_after (command_of kind) 0 (value_in x frame)

    counter_same_after :
        (kind : Kind) → Facts kind (slot_of d.image own) →
        counter_in (image_after kind d frame) own ≡ counter_in (image_after kind e frame) own
    counter_same_after kind known =
        own-after kind (frame_kept frame) (kept_by d kind) d.image own formed-d.laid below
        ∙ ap (counter_after kind (frame_kept frame) (kept_by d kind)) (same.counter below) ∙ by_kept kind known
        ∙ sym (own-after kind (frame_kept frame) (kept_by e kind) e.image own formed-e.laid below_e)
      where
        by_kept :
            (kind : Kind) → Facts kind (slot_of d.image own) →
            counter_after kind (frame_kept frame) (kept_by d kind) (counter_in e.image own) ≡
            counter_after kind (frame_kept frame) (kept_by e kind) (counter_in e.image own)
        by_kept RootKeyAndCounter known = refl
        by_kept RootKey known = refl
        by_kept TemporaryKeyAndCounter known = refl
        by_kept TemporaryKey known = refl
        by_kept SessionKey known = refl
        by_kept Increment known = rw (value_same frame d e same below known)
        by_kept Request known = refl

    key-kept : (keys : List Key) → length keys ≡ 4 → (key : Key) → get_or (set keys own key) own no_key ≡ key
    key-kept keys four key = get_or-set_same keys own key no_key (omega (arith, four, below, formed-d.laid.few))

    session_same_after :
        (kind : Kind) →
        get_or (keys_after (command_of kind) d frame) own no_key ≡ get_or (keys_after (command_of kind) e frame) own no_key
    session_same_after RootKeyAndCounter = same.session
    session_same_after RootKey = same.session
    session_same_after TemporaryKeyAndCounter = same.session
    session_same_after TemporaryKey = same.session
    session_same_after SessionKey =
        key-kept d.keys formed-d.four _
        ∙ ap (λ (bytes : List ℕ). record { there = true; bytes = bytes }) (new_key_same frame d e same passed)
        ∙ sym (key-kept e.keys formed-e.four _)
    session_same_after Increment = same.session
    session_same_after Request = same.session

    reply_same_after :
        (kind : Kind) → Facts kind (slot_of d.image own) → reply_after (command_of kind) d frame ≡ reply_after (command_of kind) e frame
    reply_same_after RootKeyAndCounter known = refl
    reply_same_after RootKey known = refl
    reply_same_after TemporaryKeyAndCounter known = refl
    reply_same_after TemporaryKey known = refl
    reply_same_after SessionKey known = refl
    reply_same_after Increment known = refl
    reply_same_after Request known = rw (key_there_same frame d e same, value_same frame d e same below known)

    carried_same : SameBy frame d e (carried_out (kind_in d frame) d frame) (carried_out (kind_in e frame) e frame)
    unfolding carried_out
    carried_same =
        rw (← kind_same frame d e same passed)
        (record {
          status = refl;
          reply = reply_same_after (kind_in d frame) (facts d frame passed);
          counter = λ _. counter_same_after (kind_in d frame) (facts d frame passed);
          session = session_same_after (kind_in d frame);
        })

  whole_by : (b : Bool) → eqb (all_checks d frame) 0 ≡ b → SameBy frame d e (whole d frame) (whole e frame)
  unfolding whole pick failed_with
  whole_by true p =
      rw (← checks_same frame d e same, p) (carried_same (all_pass d frame (eqb-true (all_checks d frame) 0 p)).0)
  whole_by false p =
      rw (← checks_same frame d e same, p)
      (record { status = refl; reply = refl; counter = same.counter; session = same.session })

  pub whole_same : SameBy frame d e (whole d frame) (whole e frame)
  whole_same = whole_by _ refl
