-- It is a monotonic counter: along any order of calls a set counter stays set and its value never falls, a set root stays set and its
-- key never changes. Work alone changes an image, and a job's stores let its counter grow, from any of them to any later one, and to the
-- end. Assumes nothing.
use Prim.Native.Nat.{ℕ, ◌+◌, ◌-◌, ◌≤◌, ◌<◌}
use mathlib.Core.Path.{◌≡◌, refl, ap, sym, ◌∙◌}
use mathlib.Core.Bool.{Bool, true, false}
use mathlib.Core.List.{List}
use native.Mathlib.Omega.{arith}
use borrow.Author.Tests.{eqb-true, eqb-false}
use lib.Dec.{eqb, ltb}
use Rattle.words.specs.Choice.{pick}
use Rattle.words.proofs.Choice.{either, otherwise}
use Rattle.image.specs.Header.{count}
use Rattle.image.specs.Slot.{slot_of}
use Rattle.frames.specs.Layout.{counter_of}
use Rattle.jobs.specs.Jobs.{command_of, signature_steps, hash_steps}
use Rattle.jobs.specs.declared.Command.{Command}
use Rattle.jobs.specs.declared.Command.TheVariants.{WriteRootKey, UpdateSessionKey, IncrementCounter, RequestCounter}
use Rattle.jobs.specs.declared.Kind.{Kind}
use Rattle.jobs.specs.declared.Kind.TheVariants.{RootKeyAndCounter, RootKey, SessionKey, Increment, Request, TemporaryKeyAndCounter, TemporaryKey}
use Rattle.rules.specs.Whole.{Outcome, frame_kept, kind_in, value_in, last_status, all_checks, kept_after, carried_out, failed_with, whole}
use Rattle.rules.proofs.TenChecks.{all_checks_lem, all_pass}
use Rattle.rules.proofs.Taken.{Facts, below_count, facts}
use Rattle.rules.proofs.Passed.{not_at_its_end}
use Rattle.progress.specs.Steps.{steps_of}
use Rattle.device.specs.Work.{Device, run}
use Rattle.device.specs.Calls.{outcome}
use Rattle.counters.specs.Compared.{Counter, counter_in}
use Rattle.counters.proofs.Cuts.{cut_at}
use Rattle.counters.proofs.Alikes.{same_to}
use Rattle.counters.proofs.WholeOwn.{own-after, others_kept}
use Rattle.counters.proofs.Growing.{GrowsTo, Starts, Stores, grows_self, grows_on, grows_out}
use Rattle.orders.proofs.Sound.{Working}
use Rattle.orders.proofs.SameSteps.{steps_same}
use Rattle.orders.proofs.Interrupted.{header_found, own-cut, others_found}
use Rattle.orders.proofs.Calls.{works_on, out_whole}

-- what a frame that passes checks 1 to 7 has met, of what is compared
pub starts_of : (image : List ℕ) (c : ℕ) (kind : Kind) → Facts kind (slot_of image c) → Starts kind (counter_in image c)
unfolding counter_in
starts_of image c RootKeyAndCounter (r, s) = (r, s, otherwise _ _ _ s)
starts_of image c RootKey (r, s) = r
starts_of image c TemporaryKeyAndCounter (r, s) = (s, otherwise _ _ _ s)
starts_of image c TemporaryKey _ = tt
starts_of image c SessionKey _ = tt
starts_of image c Increment s = s
starts_of image c Request _ = tt

-- and one that passes the others too: an increment keeps the successor of the value, which is not at its end
stores_of :
    (o : Outcome) (frame : List ℕ) (kind : Kind) → Facts kind (slot_of o.image (counter_of frame)) → last_status (command_of kind) o frame ≡ 0 →
    Stores kind (kept_after (command_of kind) 0 (value_in o frame)) (counter_in o.image (counter_of frame))
unfolding counter_in pick
stores_of o frame RootKeyAndCounter _ _ = tt
stores_of o frame RootKey _ _ = tt
stores_of o frame TemporaryKeyAndCounter _ _ = tt
stores_of o frame TemporaryKey _ _ = tt
stores_of o frame SessionKey _ _ = tt
stores_of o frame Increment set passed = rw set (refl, not_at_its_end o frame passed)
stores_of o frame Request _ _ = tt

pub none-cut : (kind : Kind) (p : Counter) → cut_at kind 0 p ≡ p
unfolding pick
none-cut RootKeyAndCounter p = refl
none-cut RootKey p = refl
none-cut TemporaryKeyAndCounter p = refl
none-cut TemporaryKey p = refl
none-cut SessionKey p = refl
none-cut Increment p = refl
none-cut Request p = refl

-- no store is made before the check
checked-first : (command : Command) → signature_steps command ≤ hash_steps command
checked-first WriteRootKey = omega arith
checked-first UpdateSessionKey = omega arith
checked-first IncrementCounter = omega arith
checked-first RequestCounter = omega arith

-- a job under way, and m steps more
module _ (frame : List ℕ) (done : ℕ) (o : Outcome) (d : Device) (w : Working frame done o d) (left : done < steps_of o frame) (m : ℕ) where
  abbrev c : ℕ
  c = counter_of frame

  abbrev found : Outcome
  found = outcome w.found

  abbrev kind : Kind
  kind = kind_in found frame

  abbrev p : Counter
  p = counter_in found.image c

  abbrev sofar : ℕ
  sofar = done - hash_steps (command_of kind)

  starts : Starts kind p
  starts = starts_of found.image c kind (facts found frame w.passed)

  -- under way
  own_on : ltb (m + done) (steps_of o frame) ≡ true → GrowsTo (counter_in d.image c) (counter_in (run m d).image c)
  own_on more =
      rw (own-cut frame done o d w, own-cut frame (m + done) o (run m d) (works_on frame done o d w m more))
      (grows_on kind p starts sofar (m + done - hash_steps (command_of kind)) (omega arith))

  pub others_on :
      ltb (m + done) (steps_of o frame) ≡ true → (k : ℕ) → k < count found.image → (k ≡ c → ⊥) →
      counter_in (run m d).image k ≡ counter_in d.image k
  others_on more k inside apart =
      others_found frame (m + done) o (run m d) (works_on frame done o d w m more) k inside apart
      ∙ sym (others_found frame done o d w k inside apart)

  -- at its end: all stores are made,
  carried : all_checks found frame ≡ 0 → GrowsTo (cut_at kind sofar p) (counter_in (carried_out kind found frame).image c)
  unfolding carried_out
  carried passed =
      let kept = kept_after (command_of kind) 0 (value_in found frame) in
      rw (own-after kind (frame_kept frame) kept found.image c w.formed.laid (below_count found frame w.passed))
      (grows_out kind (frame_kept frame) kept p starts
      (stores_of found frame kind (facts found frame w.passed) (all_pass found frame passed).1) sofar)

  -- or a check failed, and none was
  failed_steps : eqb (all_checks found frame) 0 ≡ false → steps_of found frame ≡ signature_steps (command_of kind)
  unfolding steps_of pick
  failed_steps e =
      let last : eqb (last_status (command_of kind) found frame) 0 ≡ false = rw (all_checks_lem found frame, w.passed) at e in
      rw (w.passed, last)

  pub nothing_made : eqb (all_checks found frame) 0 ≡ false → sofar ≡ 0
  nothing_made e =
      let few = steps_same frame found o (same_to frame found o w.header w.alike) in
      omega (arith, left, few, failed_steps e, checked-first (command_of kind))

  failed : eqb (all_checks found frame) 0 ≡ false → (status : ℕ) → GrowsTo (cut_at kind sofar p) (counter_in (failed_with status found).image c)
  unfolding failed_with
  failed e status = rw (nothing_made e, none-cut kind p) (grows_self p)

  own-whole : GrowsTo (cut_at kind sofar p) (counter_in (whole found frame).image c)
  unfolding whole
  own-whole =
      either (λ (x : Outcome). GrowsTo (cut_at kind sofar p) (counter_in x.image c)) (eqb (all_checks found frame) 0) _ _
      (λ e. carried (eqb-true (all_checks found frame) 0 e)) (λ e. failed e (all_checks found frame))

  pub out_image : ltb (m + done) (steps_of o frame) ≡ false → (run m d).image ≡ (whole found frame).image
  out_image end = ap (λ (x : Outcome). x.image) (out_whole frame done o d w m end)

  own_out : ltb (m + done) (steps_of o frame) ≡ false → GrowsTo (counter_in d.image c) (counter_in (run m d).image c)
  own_out end = rw (own-cut frame done o d w, out_image end) own-whole

  pub others_out :
      ltb (m + done) (steps_of o frame) ≡ false → (k : ℕ) → k < count found.image → (k ≡ c → ⊥) →
      counter_in (run m d).image k ≡ counter_in d.image k
  others_out end k inside apart =
      ap (λ (i : List ℕ). counter_in i k) (out_image end) ∙ others_kept found frame w.formed.laid k inside apart
      ∙ sym (others_found frame done o d w k inside apart)

  grows_by :
      (k : ℕ) → k < count found.image → (more own : Bool) → ltb (m + done) (steps_of o frame) ≡ more → eqb k c ≡ own →
      GrowsTo (counter_in d.image k) (counter_in (run m d).image k)
  grows_by k inside true true more own = rw (eqb-true k c own) (own_on more)
  grows_by k inside true false more own = rw (others_on more k inside (eqb-false k c own)) (grows_self (counter_in d.image k))
  grows_by k inside false true end own = rw (eqb-true k c own) (own_out end)
  grows_by k inside false false end own = rw (others_out end k inside (eqb-false k c own)) (grows_self (counter_in d.image k))

  pub job_grows : (k : ℕ) → k < count d.image → GrowsTo (counter_in d.image k) (counter_in (run m d).image k)
  job_grows k inside = grows_by k (rw (← (header_found frame done o d w).counters) inside) _ _ refl refl
