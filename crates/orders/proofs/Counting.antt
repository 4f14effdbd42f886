-- The value of a set counter changes with the last step of an increment that passed all checks, and by 1: no other step of any job
-- changes what is shown of it. Assumes nothing.
use Prim.Native.Nat.{ℕ, suc, ◌+◌, ◌-◌, ◌%◌, ◌^◌, ◌<◌}
use mathlib.Core.Path.{◌≡◌, refl, ap, sym, subst, ◌∙◌}
use mathlib.Core.Logic.{◌⊎◌, inl, inr, ⊎_elim}
use mathlib.Core.Bool.{Bool, true, false}
use mathlib.Core.List.{List}
use native.Mathlib.Omega.{arith}
use borrow.Author.Tests.{eqb-true}
use lib.Dec.{eqb, ltb}
use Rattle.words.specs.Choice.{pick}
use Rattle.image.specs.Header.{count}
use Rattle.image.specs.Slot.{slot_of, is_set}
use Rattle.frames.specs.Layout.{type_of, counter_of}
use Rattle.jobs.specs.Jobs.{command_of, command_type, hash_steps}
use Rattle.jobs.specs.declared.Command.TheVariants.{IncrementCounter}
use Rattle.jobs.specs.declared.Kind.{Kind}
use Rattle.jobs.specs.declared.Kind.TheVariants.{RootKeyAndCounter, RootKey, SessionKey, Increment, Request, TemporaryKeyAndCounter, TemporaryKey}
use Rattle.state.specs.declared.Key.{Key}
use Rattle.rules.specs.Whole.{Outcome, frame_kept, kind_in, value_in, Verifies, last_status, all_checks, kept_after, carried_out, failed_with, whole}
use Rattle.rules.proofs.TenChecks.{all_pass}
use Rattle.rules.proofs.Taken.{below_count, type_named, facts}
use Rattle.rules.proofs.Passed.{signature_verified, not_at_its_end}
use Rattle.jobs.proofs.Types.{type_kept}
use Rattle.progress.specs.Steps.{steps_of}
use Rattle.device.specs.Work.{Device, run}
use Rattle.device.specs.Calls.{outcome, Call, called}
use Rattle.counters.specs.Compared.{Counter, counter_in}
use Rattle.counters.proofs.Cuts.{cut_at}
use Rattle.counters.proofs.Counters.{read_back, counter_after}
use Rattle.counters.proofs.WholeOwn.{own-after}
use Rattle.counters.proofs.Growing.{Starts, NoIncrement, value_on, value_out, next_value}
use Rattle.orders.specs.Ledger.{Ledger}
use Rattle.orders.proofs.Sound.{Working, Sound}
use Rattle.orders.proofs.Interrupted.{header_found, own-cut}
use Rattle.orders.proofs.Calls.{works_on}
use Rattle.orders.proofs.Monotonic.{call_grows}
use Rattle.orders.proofs.Growing.{starts_of, none-cut, nothing_made, out_image, others_on, others_out}

increment_or_not : (kind : Kind) → NoIncrement kind ⊎ (kind ≡ Increment)
increment_or_not RootKeyAndCounter = inl tt
increment_or_not RootKey = inl tt
increment_or_not TemporaryKeyAndCounter = inl tt
increment_or_not TemporaryKey = inl tt
increment_or_not SessionKey = inl tt
increment_or_not Increment = inr refl
increment_or_not Request = inl tt

-- a job under way, and m steps more
module _ (frame : List ℕ) (done : ℕ) (o : Outcome) (d : Device) (w : Working frame done o d) (left : done < steps_of o frame) (m : ℕ) where
  abbrev c : ℕ
  c = counter_of frame

  abbrev found : Outcome
  found = outcome w.found

  abbrev kind : Kind
  kind = kind_in found frame

  abbrev p : Counter
  p = counter_in found.image c

  abbrev kept : ℕ
  kept = kept_after (command_of kind) 0 (value_in found frame)

  -- the value shown stays
  abbrev Same : Type 0
  Same = (counter_in (run m d).image c).value ≡ (counter_in d.image c).value

  starts : Starts kind p
  starts = starts_of found.image c kind (facts found frame w.passed)

  abbrev sofar : ℕ
  sofar = done - hash_steps (command_of kind)

  before : (counter_in d.image c).value ≡ (cut_at kind sofar p).value
  before = ap (λ (q : Counter). q.value) (own-cut frame done o d w)

  -- while the job is under way
  same_on : ltb (m + done) (steps_of o frame) ≡ true → Same
  same_on more =
      ap (λ (q : Counter). q.value) (own-cut frame (m + done) o (run m d) (works_on frame done o d w m more))
      ∙ value_on kind p starts sofar (m + done - hash_steps (command_of kind)) ∙ sym before

  module _ (end : ltb (m + done) (steps_of o frame) ≡ false) where
    after_image : (run m d).image ≡ (whole found frame).image
    after_image = out_image frame done o d w left m end

    -- at its end, if a check failed
    same_failed : eqb (all_checks found frame) 0 ≡ false → Same
    unfolding whole failed_with pick
    same_failed e =
        rw (after_image, e)
        (sym
        (before ∙ ap (λ (j : ℕ). (cut_at kind j p).value) (nothing_made frame done o d w left m e) ∙ ap (λ (q : Counter). q.value) (none-cut kind p)))

    carried_image : all_checks found frame ≡ 0 → (run m d).image ≡ (carried_out kind found frame).image
    unfolding whole pick
    carried_image e = rw (after_image, e)

    -- or if none did
    after-value : all_checks found frame ≡ 0 → counter_in (run m d).image c ≡ counter_after kind (frame_kept frame) kept p
    unfolding carried_out
    after-value e =
        ap (λ (i : List ℕ). counter_in i c) (carried_image e)
        ∙ own-after kind (frame_kept frame) kept found.image c w.formed.laid (below_count found frame w.passed)

    same_carried : all_checks found frame ≡ 0 → NoIncrement kind → Same
    same_carried e none = ap (λ (q : Counter). q.value) (after-value e) ∙ value_out kind none (frame_kept frame) kept p starts sofar ∙ sym before

    -- an increment that passed: by 1
    module _ (e : all_checks found frame ≡ 0) (increments : kind ≡ Increment) (word : (counter_in d.image c).value < 2 ^ 32) where
      pub last-passed : last_status IncrementCounter found frame ≡ 0
      last-passed = rw increments at (all_pass found frame e).1

      counter_set : is_set (slot_of found.image c).counter_state ≡ true
      counter_set = rw increments at (facts found frame w.passed)

      pub shown : (counter_in d.image c).value ≡ value_in found frame
      unfolding counter_in pick
      shown = before ∙ value_on kind p starts 0 sofar ∙ ap (λ (q : Counter). q.value) (none-cut kind p) ∙ rw counter_set

      after-shown : (counter_in (run m d).image c).value ≡ read_back ((value_in found frame + 1) % 2 ^ 32)
      unfolding counter_in pick
      after-shown = ap (λ (q : Counter). q.value) (after-value e) ∙ rw (increments, counter_set)

      pub one_more : (counter_in (run m d).image c).value ≡ suc (counter_in d.image c).value
      one_more =
          let v = value_in found frame in
          let below : v < 2 ^ 32 = rw shown at word in
          after-shown ∙ next_value v ((v + 1) % 2 ^ 32) refl (not_at_its_end found frame last-passed) below ∙ omega (arith, shown)

      pub typed : type_of frame ≡ command_type IncrementCounter
      typed =
          sym (type_kept (type_of frame) _ _ (type_named found frame w.passed))
          ∙ ap (λ (k : Kind). command_type (command_of k)) increments

      -- what the ledger says has the same session key
      pub verified_as_if : Verifies IncrementCounter o frame
      verified_as_if =
          subst
          (λ (keys : List Key).
          Verifies IncrementCounter (record { status = found.status; keys = keys; reply = found.reply; image = found.image }) frame)
          w.alike.keys (signature_verified found frame last-passed)

-- so the value shown stays, or this is the last step of an increment that passed
module _ (frame : List ℕ) (done : ℕ) (o : Outcome) (d : Device) (w : Working frame done o d) (left : done < steps_of o frame) (m : ℕ) where
  abbrev Stays : Type 0
  Stays = (counter_in (run m d).image (counter_of frame)).value ≡ (counter_in d.image (counter_of frame)).value

  -- what a change tells
  pub record Increments : Type 0 where
    pub ended : ltb (m + done) (steps_of o frame) ≡ false
    pub passed : all_checks (outcome w.found) frame ≡ 0
    pub increments : kind_in (outcome w.found) frame ≡ Increment

  pub increments_by :
      (Stays → ⊥) → (more fails : Bool) → ltb (m + done) (steps_of o frame) ≡ more → eqb (all_checks (outcome w.found) frame) 0 ≡ fails → Increments
  increments_by changed true fails more e = absurd (changed (same_on frame done o d w left m more))
  increments_by changed false false end e = absurd (changed (same_failed frame done o d w left m end e))
  increments_by changed false true end e =
      let passed = eqb-true (all_checks (outcome w.found) frame) 0 e in
      ⊎_elim (λ none. absurd (changed (same_carried frame done o d w left m end passed none)))
      (λ kind. record { ended = end; passed = passed; increments = kind }) (increment_or_not (kind_in (outcome w.found) frame))

-- a counter that is set shows the value in its slot
pub shown-value : (image : List ℕ) (c : ℕ) → is_set (slot_of image c).counter_state ≡ true → (counter_in image c).value ≡ (slot_of image c).value
unfolding counter_in pick
shown-value image c set = rw set

-- a call that changes the value in the slot of a set counter
module _ (l : Ledger) (d : Device) (sound : Sound l d) (c : ℕ) (inside : c < count d.image) (word : (counter_in d.image c).value < 2 ^ 32)
    (set : is_set (slot_of d.image c).counter_state ≡ true) where
  abbrev Changes : List ℕ → Type 0
  Changes after = (slot_of after c).value ≡ (slot_of d.image c).value → ⊥

  -- what is compared of the counter has changed
  pub seen : (call : Call) → Changes (called call d).image → (counter_in (called call d).image c).value ≡ (counter_in d.image c).value → ⊥
  unfolding counter_in
  seen call changed same =
      let still = (call_grows l d sound call c inside).set set in
      changed (sym (shown-value (called call d).image c still) ∙ same ∙ shown-value d.image c set)

  pub other_counter :
      (frame : List ℕ) (done quota : ℕ) (w : Working frame done l.as_if d) → done < steps_of l.as_if frame → (c ≡ counter_of frame → ⊥) → (more : Bool) →
      ltb (quota + done) (steps_of l.as_if frame) ≡ more → (counter_in (run quota d).image c).value ≡ (counter_in d.image c).value
  other_counter frame done quota w left apart true more =
      ap (λ (q : Counter). q.value)
      (others_on frame done l.as_if d w left quota more c (rw (← (header_found frame done l.as_if d w).counters) inside) apart)
  other_counter frame done quota w left apart false end =
      ap (λ (q : Counter). q.value)
      (others_out frame done l.as_if d w left quota end c (rw (← (header_found frame done l.as_if d w).counters) inside) apart)
