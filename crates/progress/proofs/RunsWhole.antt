-- Running a job to its end gives the whole-frame result. Assumes nothing.
use Prim.Native.Nat.{ℕ, ◌+◌, ◌-◌, ◌≤◌}
use mathlib.Core.Path.{◌≡◌, refl, ap, ◌∙◌}
use mathlib.Core.Bool.{Bool, true, false}
use mathlib.Core.List.{List, ◌++◌}
use native.Mathlib.Omega.{arith}
use lib.Dec.{eqb}
use lib.ListN.{length, get_or, length-append}
use Rattle.words.specs.Choice.{pick}
use Rattle.words.specs.Words.{bytes_of, bytes_of_all}
use Rattle.words.proofs.Table.{length-table}
use Rattle.words.specs.Table.{field}
use Rattle.hmac.specs.Hmac.{HMAC}
use Rattle.hmac.proofs.FourBlocks.{fourth, fourth_hmac}
use Rattle.jobs.specs.Jobs.{length_of, command_of, signature_steps, hash_steps, longest}
use Rattle.jobs.proofs.Longest.{at_most, checked-within}
use Rattle.jobs.specs.declared.Kind.{Kind}
use Rattle.jobs.specs.declared.Kind.TheVariants.{RootKeyAndCounter, RootKey, SessionKey, Increment, Request, TemporaryKeyAndCounter, TemporaryKey}
use Rattle.state.specs.declared.State.{State}
use Rattle.plan.specs.Storing.{all_stored}
use Rattle.steps.specs.Ending.{with_key, finished_by}
use Rattle.steps.specs.Deciding.{with_kept}
use Rattle.steps.proofs.AfterCheck.{passed}
use Rattle.arrival.specs.Arrival.{taken, arrived}
use Rattle.rules.specs.Whole.{frame_kept, status_on_arrival, value_in, kept_after, image_after, failed_with, carried_out, kind_in, whole, key_in, last_status}
use Rattle.rules.proofs.TenChecks.{all_checks_lem}
use Rattle.arrival.proofs.Arrives.{arrived_fails}
use Rattle.device.specs.Work.{Device, run}
use Rattle.device.specs.Calls.{device, outcome}
use Rattle.progress.proofs.Runs.{run_not_taken, run_add}
use Rattle.progress.proofs.Checked.{start, asked, frame_starts, Checked, checked}
use Rattle.progress.proofs.Storing.{stored-all, stored_request}
use Rattle.progress.proofs.Ended.{ended}

length-signed : (tag : List ℕ) (value : ℕ) → length (field 4 12 tag ++ bytes_of value) ≤ 55
length-signed tag value =
    omega (arith, length-append (field 4 12 tag) (bytes_of value), length-table (λ i. get_or tag (4 + i) 0) 12)

module _ (d : Device) (frame : List ℕ) (formed : length (key_in (outcome d) frame).bytes ≡ 32) where
  -- the whole-frame result of a kind of job
  abbrev Whole : Kind → Type 0
  Whole kind =
      outcome (run longest (device d.image (start d frame kind))) ≡
      pick (eqb (last_status (command_of kind) (outcome d) frame) 0) (carried_out kind (outcome d) frame)
      (failed_with (last_status (command_of kind) (outcome d) frame) (outcome d))

  -- the steps of the longest job: those of the check, then the others
  abbrev later : Kind → ℕ
  later kind = longest - signature_steps (command_of kind)

  all_steps :
      (kind : Kind) →
      run longest (device d.image (start d frame kind)) ≡
      run (later kind) (run (signature_steps (command_of kind)) (device d.image (start d frame kind)))
  all_steps kind =
      let both : longest ≡ later kind + signature_steps (command_of kind) = omega (arith, at_most kind, checked-within kind) in
      ap (λ (n : ℕ). run n (device d.image (start d frame kind))) both
      ∙ run_add (later kind) (signature_steps (command_of kind)) (device d.image (start d frame kind))

  enough : (kind : Kind) → length_of kind ≤ later kind + signature_steps (command_of kind)
  enough kind = omega (arith, at_most kind, checked-within kind)

  -- it is enough that the steps after a check that passed come to what the page says
  module _ (kind : Kind) (c : Checked d frame kind) where
    abbrev Carried : Type 0
    Carried =
        outcome (run (later kind) (device d.image (passed (asked d frame kind c.chain c.inner) (value_in (outcome d) frame)))) ≡
        carried_out kind (outcome d) frame

    whole_by : Carried → Whole kind
    unfolding failed_with
    whole_by carried =
        rw (all_steps kind, c.reaches)
        (ended (later kind) d.image (asked d frame kind c.chain c.inner) (value_in (outcome d) frame) _ _ c.decides (λ _. carried))

    -- a command that ends with its stores
    abbrev ending : State
    ending = with_kept (asked d frame kind c.chain c.inner) (kept_after (command_of kind) 0 (value_in (outcome d) frame))

    whole_storing :
        hash_steps (command_of kind) ≡ signature_steps (command_of kind) →
        outcome (device (image_after kind (outcome d) frame) (finished_by (command_of kind) ending)) ≡ carried_out kind (outcome d) frame →
        Whole kind
    unfolding with_kept
    whole_storing blocks ends = whole_by (stored-all _ _ _ _ _ _ _ _ _ _ kind blocks (enough kind) ∙ ends)

  -- the reply's digest is the HMAC that the page names
  reply-signed :
      (chain inner : List ℕ) →
      bytes_of_all (fourth (key_in (outcome d) frame).bytes (field 4 12 (frame_kept frame) ++ bytes_of (value_in (outcome d) frame)) chain inner) ≡
      HMAC (key_in (outcome d) frame).bytes (field 4 12 (frame_kept frame) ++ bytes_of (value_in (outcome d) frame))
  reply-signed chain inner =
      fourth_hmac (key_in (outcome d) frame).bytes _ chain inner formed (length-signed (frame_kept frame) (value_in (outcome d) frame))

  whole_request : Checked d frame Request → Whole Request
  unfolding carried_out with_kept all_stored
  whole_request c =
      whole_by Request c (rw (← reply-signed c.chain c.inner) (stored_request _ _ _ _ _ _ _ _ _ _ (enough Request)))

  whole-kind : (kind : Kind) → Checked d frame kind → Whole kind
  unfolding carried_out with_kept with_key all_stored
  whole-kind RootKeyAndCounter c = whole_storing RootKeyAndCounter c refl refl
  whole-kind RootKey c = whole_storing RootKey c refl refl
  whole-kind TemporaryKeyAndCounter c = whole_storing TemporaryKeyAndCounter c refl refl
  whole-kind TemporaryKey c = whole_storing TemporaryKey c refl refl
  whole-kind SessionKey c = whole_storing SessionKey c refl refl
  whole-kind Increment c = whole_storing Increment c refl refl
  whole-kind Request c = whole_request c

runs_by :
    (d : Device) (frame : List ℕ) → d.state.job.there ≡ false → length (key_in (outcome d) frame).bytes ≡ 32 →
    (b : Bool) → eqb (status_on_arrival d.image d.state.keys frame) 0 ≡ b →
    outcome (run longest (device d.image (arrived d.image d.state frame))) ≡ whole (outcome d) frame
unfolding whole taken pick failed_with
runs_by d frame idle formed true e =
    let kind = kind_in (outcome d) frame in
    rw (frame_starts d frame e, all_checks_lem (outcome d) frame, e) (whole-kind d frame formed kind (checked d frame formed kind))
runs_by d frame idle formed false e =
    rw (
      arrived_fails d.image d.state frame e,
      run_not_taken longest d (status_on_arrival d.image d.state.keys frame) idle,
      all_checks_lem (outcome d) frame,
      e,
      e,
    )

-- A command frame that finds the device idle, and the steps after it, at most those of the longest job, come to what the page says. A
-- session key has 32 bytes in every state of the type.
pub runs_whole :
    (d : Device) (frame : List ℕ) → d.state.job.there ≡ false → length (key_in (outcome d) frame).bytes ≡ 32 →
    outcome (run longest (device d.image (arrived d.image d.state frame))) ≡ whole (outcome d) frame
runs_whole d frame idle formed = runs_by d frame idle formed _ refl
