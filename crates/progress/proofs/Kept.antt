-- What a run keeps of a device that is not refused: it is not refused, the header stays, and so does every byte but those of the words
-- that the job stores. By one induction over the steps, each of which keeps the image or makes one store in the slot. Assumes nothing.
use Prim.Native.Nat.{ℕ, zero, suc, ◌+◌, ◌<◌, ◌≤◌}
use mathlib.Core.Path.{◌≡◌, refl, sym, ◌∙◌}
use mathlib.Core.Logic.{⊎_elim, ◌⊎◌, inl, inr}
use mathlib.Core.Bool.{Bool, true, false}
use mathlib.Core.List.{List}
use native.Mathlib.Omega.{arith}
use borrow.Author.Tests.{eqb-false, lt-ltb}
use lib.ListN.{length, get_or}
use Rattle.words.specs.Choice.{pick}
use Rattle.words.proofs.Choice.{either, or_zero}
use Rattle.words.proofs.Puts.{length_with, byte_apart}
use Rattle.image.specs.Header.{count, slot_size, slot_at}
use Rattle.image.specs.Refusal.{refusal}
use Rattle.image.specs.Laid.{Laid}
use Rattle.image.proofs.Laid.{SameHeader, same_header, then_header, same_place, same_refusal, accepted_laid, wide}
use Rattle.image.proofs.Slots.{header_stored}
use Rattle.jobs.specs.Jobs.{length_of}
use Rattle.state.specs.declared.State.{State}
use Rattle.state.specs.Refusal.{is_running, job_refusal, device_refusal}
use Rattle.state.proofs.Refused.{device-refusal, Fits, job_fits, fits_job}
use Rattle.state.proofs.Running.{no_job_idle, step_left}
use Rattle.plan.specs.declared.Store.{Store}
use Rattle.plan.specs.Storing.{stored}
use Rattle.plan.proofs.Places.{store-place}
use Rattle.steps.specs.Step.{is_hash, store_now, step_state, step_image}
use Rattle.steps.proofs.Keeps.{step_keeps}
use Rattle.steps.proofs.StoreSteps.{step_image_lem}
use Rattle.device.specs.Work.{Device, stepped, run}
use Rattle.device.specs.Calls.{is_busy}
use Rattle.progress.specs.Spared.{Spared}
use Rattle.progress.proofs.Runs.{stepped_idle}

-- the length of an image never changes
step_length : (image : List ℕ) (s : State) → length (step_image image s) ≡ length image
unfolding step_image stored
step_length image s =
    either (λ (l : List ℕ). length l ≡ length image) (is_running s) _ _
    (λ _. either (λ (l : List ℕ). length l ≡ length image) (is_hash s.job) _ _ (λ _. refl) (λ _. length_with image _ _)) (λ _. refl)

pub run_length : (n : ℕ) (d : Device) → length (run n d).image ≡ length d.image
unfolding run stepped
run_length zero d = refl
run_length (suc n) d = step_length (run n d).image (run n d).state ∙ run_length n d

-- a step of a job that runs, on an image with slots
module _ (image : List ℕ) (s : State) (laid : Laid image) (below : s.job.counter < count image) (runs : is_running s ≡ true) where
  abbrev store : Store
  store = store_now s.job

  abbrev place : ℕ
  place = slot_at image s.job.counter

  apart : (store.at + 4 ≤ 12) ⊎ ((16 ≤ store.at) × (store.at + 4 ≤ 48))
  apart = store-place s.job.kind _ s.job.frame s.job.kept

  within : store.at + 4 ≤ slot_size image
  within =
      ⊎_elim (λ before. omega (arith, before, wide image laid))
      (λ behind. omega (arith, behind.1, wide image laid)) apart

  step_header : SameHeader (step_image image s) image
  unfolding stored
  step_header =
      rw (step_image_lem image s runs)
      (either (λ (l : List ℕ). SameHeader l image) (is_hash s.job) _ _ (λ _. same_header image)
      (λ _. header_stored image s.job.counter store.at store.word laid below within))

  -- the word of a store is apart from a byte that is spared
  away : (i : ℕ) → Spared image s.job.counter i → (place + store.at + 4 ≤ i) ⊎ (i + 1 ≤ place + store.at)
  away i spared =
      ⊎_elim (λ before. inr (omega (arith, before)))
      (⊎_elim (λ behind. inl (omega (arith, behind, within)))
      (λ between.
      ⊎_elim (λ low. inl (omega (arith, low, between.0)))
      (λ high. inr (omega (arith, high.0, between.1))) apart)) spared

  step_spares : (i : ℕ) → Spared image s.job.counter i → get_or (step_image image s) i 0 ≡ get_or image i 0
  unfolding stored
  step_spares i spared =
      rw (step_image_lem image s runs)
      (either (λ (l : List ℕ). get_or l i 0 ≡ get_or image i 0) (is_hash s.job) _ _ (λ _. refl)
      (λ _. byte_apart image i (place + store.at) store.word (away i spared)))

  -- a job that is still there fits, as it did
  step_fits : Fits (count (step_image image s)) (step_state image s)
  unfolding is_running pick
  step_fits there =
      let k = step_keeps image s runs there in
      let more = eqb-false (s.job.step + 1) (length_of s.job.kind) k.goes_on in (
        rw (step_header.counters, k.counter) below,
        rw (there, k.step, k.kind) (lt-ltb (s.job.step + 1) (length_of s.job.kind) (omega (arith, more, step_left s runs))),
      )

-- a device that is not refused, and what steps have made of it
record Since (d e : Device) : Type 0 where
  accepted : device_refusal e.image e.state ≡ 0
  header : SameHeader e.image d.image
  counter : is_busy e ≡ true → e.state.job.counter ≡ d.state.job.counter
  bytes : (i : ℕ) → Spared d.image d.state.job.counter i → get_or e.image i 0 ≡ get_or d.image i 0

-- an image with slots, and a job that fits
parts : (image : List ℕ) (s : State) → device_refusal image s ≡ 0 → (refusal image ≡ 0) × (job_refusal (count image) s ≡ 0)
parts image s accepted = or_zero (refusal image) (job_refusal (count image) s) (sym (device-refusal image s) ∙ accepted)

module _ (d e : Device) (since : Since d e) where
  both_parts : (refusal e.image ≡ 0) × (job_refusal (count e.image) e.state ≡ 0)
  both_parts = parts e.image e.state since.accepted

  -- where the slot stands, and its size, are as they were
  still_spared : is_busy e ≡ true → (i : ℕ) → Spared d.image d.state.job.counter i → Spared e.image e.state.job.counter i
  still_spared busy i spared =
      rw (since.counter busy, same_place e.image d.image d.state.job.counter since.header, since.header.each) spared

  busy_next : is_busy e ≡ true → Since d (stepped e)
  unfolding stepped pick
  busy_next busy =
      let fits = job_fits (count e.image) e.state both_parts.1 busy in
      let laid = accepted_laid e.image both_parts.0 in
      let header = step_header e.image e.state laid fits.0 fits.1 in
      record {
        accepted =
            device-refusal (step_image e.image e.state) (step_state e.image e.state)
            ∙ rw (
              same_refusal (step_image e.image e.state) e.image header,
              both_parts.0,
              fits_job _ (step_state e.image e.state) (step_fits e.image e.state laid fits.0 fits.1),
            );
        header = then_header _ _ _ header since.header;
        counter = λ there. (step_keeps e.image e.state fits.1 there).counter ∙ since.counter busy;
        bytes =
            λ i spared.
            step_spares e.image e.state laid fits.0 fits.1 i (still_spared busy i spared) ∙ since.bytes i spared;
      }

  next_by : (b : Bool) → is_busy e ≡ b → Since d (stepped e)
  next_by true busy = busy_next busy
  next_by false none = rw (stepped_idle e (no_job_idle e.state none)) since

since : (n : ℕ) (d : Device) → device_refusal d.image d.state ≡ 0 → Since d (run n d)
unfolding run
since zero d accepted = record { accepted = accepted; header = same_header d.image; counter = λ _. refl; bytes = λ i spared. refl }
since (suc n) d accepted = next_by d (run n d) (since n d accepted) _ refl

-- it is never refused, whatever job it came with
pub run_not_refused : (n : ℕ) (d : Device) → device_refusal d.image d.state ≡ 0 → device_refusal (run n d).image (run n d).state ≡ 0
run_not_refused n d accepted = (since n d accepted).accepted

-- it keeps the header,
pub run_header : (n : ℕ) (d : Device) → device_refusal d.image d.state ≡ 0 → SameHeader (run n d).image d.image
run_header n d accepted = (since n d accepted).header

-- and it changes no byte outside the slot of its job's counter, and none of bytes 12-15 in it
pub run-kept :
    (n : ℕ) (d : Device) → device_refusal d.image d.state ≡ 0 →
    (i : ℕ) → Spared d.image d.state.job.counter i → get_or (run n d).image i 0 ≡ get_or d.image i 0
run-kept n d accepted = (since n d accepted).bytes
