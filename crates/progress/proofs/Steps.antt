-- The steps of a command frame that finds the device idle, in closed form: it is busy below their number and idle from it on. A step
-- that is neither the last of its kind nor that of a check leaves the job there, and the check is that of the page. Assumes nothing.
use Prim.Native.Nat.{ℕ, zero, suc, ◌+◌, ◌-◌, ◌≤◌, ◌<◌}
use mathlib.Core.Path.{◌≡◌, refl, ap, sym, ◌∙◌}
use mathlib.Core.Bool.{Bool, true, false}
use mathlib.Core.List.{List}
use native.Mathlib.Omega.{arith}
use borrow.Author.Tests.{ltb-true, ltb-false, le-ltb, eqb-true, ne_eqb}
use lib.Dec.{ltb, eqb}
use lib.ListN.{length}
use Rattle.words.specs.Choice.{pick}
use Rattle.words.proofs.Choice.{never}
use Rattle.frames.specs.Layout.{counter_of}
use Rattle.jobs.specs.Jobs.{length_of, command_of, signature_steps, hash_steps}
use Rattle.jobs.specs.declared.Kind.{Kind}
use Rattle.jobs.proofs.Longest.{some_steps, some-blocks, checked-within}
use Rattle.state.specs.declared.State.{State}
use Rattle.state.specs.Refusal.{is_running}
use Rattle.state.proofs.Running.{no_job_idle}
use Rattle.plan.specs.Storing.{all_stored}
use Rattle.steps.proofs.AfterCheck.{decided_good, decided_bad}
use Rattle.steps.proofs.Going.{passed_there, step_there}
use Rattle.arrival.specs.Arrival.{taken, arrived}
use Rattle.arrival.proofs.Arrives.{arrived_fails}
use Rattle.rules.specs.Whole.{frame_kept, kind_in, value_in, key_in, status_on_arrival, last_status, whole}
use Rattle.device.specs.Work.{Device, stepped, run, steps_left}
use Rattle.device.specs.Calls.{device, is_busy, outcome}
use Rattle.progress.specs.Steps.{steps_of_job, steps_of}
use Rattle.progress.proofs.Runs.{run-posted, run_not_taken, run_add}
use Rattle.progress.proofs.Jobs.{At, runs, progress}
use Rattle.progress.proofs.Ends.{left_run, left_is, same_end}
use Rattle.progress.proofs.Checked.{start, asked, frame_starts, Checked, checked}
use Rattle.progress.proofs.RunsWhole.{runs_whole}

-- a job of a kind, from its start
module _ (d : Device) (frame : List ℕ) (kind : Kind) (c : Checked d frame kind) where
  abbrev first : Device
  first = device d.image (start d frame kind)

  abbrev signed : ℕ
  signed = signature_steps (command_of kind)

  abbrev verdict : ℕ
  verdict = last_status (command_of kind) (outcome d) frame

  abbrev Job : ℕ → Type 0
  Job n = At kind (counter_of frame) (frame_kept frame) d.image n (run n first).image (run n first).state

  begins : At kind (counter_of frame) (frame_kept frame) d.image 0 d.image (start d frame kind)
  unfolding all_stored
  begins =
      let none : 0 - hash_steps (command_of kind) ≡ 0 = omega arith in
      record { there = refl; kind-kept = refl; counter_kept = refl; frame-kept = refl; step = refl; stored_so_far = rw none }

  -- a job that is still there has done the steps that were made
  job_at : (n : ℕ) → is_busy (run n first) ≡ true → Job n × (n < length_of kind)
  job_at n busy =
      let e : n + 0 ≡ n = omega arith in
      rw e at (progress kind (counter_of frame) (frame_kept frame) d.image 0 first begins (some_steps kind) n busy)

  -- the step of the check
  over_check : eqb verdict 0 ≡ true → signed < length_of kind → is_busy (run signed first) ≡ true
  over_check good more =
      let s = asked d frame kind c.chain c.inner in
      let value = value_in (outcome d) frame in
      ap is_busy (c.reaches ∙ ap (device d.image) (decided_good s value verdict c.decides good))
      ∙ passed_there s value (ne_eqb (signed - 1 + 1) (length_of kind) (λ e. omega (arith, e, more, some-blocks (command_of kind))))

  -- one step more
  goes_by :
      (n : ℕ) → suc n < length_of kind → (n + 1 ≡ signed → eqb verdict 0 ≡ true) → is_busy (run n first) ≡ true →
      (b : Bool) → eqb (n + 1) signed ≡ b → is_busy (run (suc n) first) ≡ true
  unfolding run stepped
  goes_by n more passes busy true e =
      let here = eqb-true (n + 1) signed e in
      let same : signed ≡ suc n = omega (arith, here) in
      ap (λ (m : ℕ). is_busy (run m first)) (sym same) ∙ over_check (passes here) (omega (arith, same, more))
  goes_by n more passes busy false e =
      let job = job_at n busy in
      let at = job.0 in
      step_there (run n first).image (run n first).state (runs _ _ _ _ n _ _ at job.1)
      (rw (at.step, at.kind-kept) (ne_eqb (n + 1) (length_of kind) (λ last. omega (arith, last, more))))
      (rw (at.step, at.kind-kept) e)

  -- busy, below a number of steps up to which no check fails
  busy_until :
      (t : ℕ) → t ≤ length_of kind → (signed < t → eqb verdict 0 ≡ true) → (n : ℕ) → n < t → is_busy (run n first) ≡ true
  unfolding run
  busy_until t most passes zero below = refl
  busy_until t most passes (suc n) below =
      goes_by n (omega (arith, below, most)) (λ here. passes (omega (arith, here, below)))
      (busy_until t most passes n (omega (arith, below))) _ refl

  -- idle: from the length of the kind on, and if a check fails from the check on
  idle_by : (n : ℕ) → length_of kind ≤ n → (b : Bool) → is_busy (run n first) ≡ b → is_busy (run n first) ≡ false
  idle_by n all true busy = absurd (omega (arith, all, (job_at n busy).1))
  idle_by n all false idle = idle

  idle_failed : eqb verdict 0 ≡ false → (n : ℕ) → signed ≤ n → is_busy (run n first) ≡ false
  idle_failed bad n all =
      let s = asked d frame kind c.chain c.inner in
      let more : n ≡ (n - signed) + signed = omega (arith, all) in
      ap (λ (m : ℕ). is_busy (run m first)) more
      ∙ ap is_busy
      (run_add (n - signed) signed first
      ∙ ap (run (n - signed)) (c.reaches ∙ ap (device d.image) (decided_bad s (value_in (outcome d) frame) verdict c.decides bad))
      ∙ run-posted (n - signed) d.image s verdict)

  -- busy below the number of steps, by whether a check fails
  job_by :
      (n : ℕ) (good : Bool) → eqb verdict 0 ≡ good → (b : Bool) → ltb n (pick good (length_of kind) signed) ≡ b →
      is_busy (run n first) ≡ b
  unfolding pick
  job_by n true good true below =
      busy_until (length_of kind) (omega arith) (λ _. good) n (ltb-true n (length_of kind) below)
  job_by n true good false past = idle_by n (ltb-false n (length_of kind) past) _ refl
  job_by n false bad true below =
      busy_until signed (checked-within kind) (λ over. absurd (omega (arith, over))) n (ltb-true n signed below)
  job_by n false bad false past = idle_failed bad n (ltb-false n signed past)

  job_below : (n : ℕ) → is_busy (run n first) ≡ ltb n (pick (eqb verdict 0) (length_of kind) signed)
  job_below n = job_by n _ refl _ refl

-- a command frame that finds the device idle. A session key has 32 bytes in every state of the type
module _ (d : Device) (frame : List ℕ) (idle : is_busy d ≡ false) (formed : length (key_in (outcome d) frame).bytes ≡ 32) where
  abbrev begun : Device
  begun = device d.image (arrived d.image d.state frame)

  abbrev kind : Kind
  kind = kind_in (outcome d) frame

  abbrev on_arrival : ℕ
  on_arrival = status_on_arrival d.image d.state.keys frame

  starts : eqb on_arrival 0 ≡ true → begun ≡ device d.image (start d frame kind)
  starts passes = ap (device d.image) (frame_starts d frame passes)

  never_busy : eqb on_arrival 0 ≡ false → (n : ℕ) → is_busy (run n begun) ≡ false
  unfolding taken
  never_busy fails n =
      ap (λ (s : State). is_busy (run n (device d.image s))) (arrived_fails d.image d.state frame fails)
      ∙ ap is_busy (run_not_taken n d on_arrival idle) ∙ idle

  busy_by : (n : ℕ) (b : Bool) → eqb on_arrival 0 ≡ b → is_busy (run n begun) ≡ ltb n (pick b (steps_of_job (outcome d) frame) 0)
  unfolding pick
  busy_by n true passes =
      ap (λ (x : Device). is_busy (run n x)) (starts passes) ∙ job_below d frame kind (checked d frame formed kind) n
  busy_by n false fails = never_busy fails n ∙ sym (le-ltb n 0 (omega arith))

  -- busy below the number of steps, and idle from it on
  pub busy_below : (n : ℕ) → is_busy (run n begun) ≡ ltb n (steps_of (outcome d) frame)
  unfolding steps_of
  busy_below n = busy_by n _ refl

  -- while it is busy: the job is the frame's, has done the steps that were made, and has made the stores of so many
  abbrev Working : ℕ → Type 0
  Working n = At kind (counter_of frame) (frame_kept frame) d.image n (run n begun).image (run n begun).state × (n < length_of kind)

  working_by : (n : ℕ) → is_busy (run n begun) ≡ true → (b : Bool) → eqb on_arrival 0 ≡ b → Working n
  working_by n busy true passes =
      rw (starts passes)
      (job_at d frame kind (checked d frame formed kind) n (ap (λ (x : Device). is_busy (run n x)) (sym (starts passes)) ∙ busy))
  working_by n busy false fails = absurd (never (sym (never_busy fails n) ∙ busy))

  pub working_at : (n : ℕ) → is_busy (run n begun) ≡ true → Working n
  working_at n busy = working_by n busy _ refl

  pub step_at : (n : ℕ) → is_busy (run n begun) ≡ true → (run n begun).state.job.step ≡ n
  step_at n busy = (working_at n busy).0.step

  -- a job that is there runs
  runs_by : (n : ℕ) (b : Bool) → is_busy (run n begun) ≡ b → is_running (run n begun).state ≡ b
  runs_by n true busy =
      let w = working_at n busy in
      runs _ _ _ _ n _ _ w.0 w.1
  runs_by n false gone = no_job_idle (run n begun).state gone

  -- from it on it is as the page says
  pub whole-after : (n : ℕ) → steps_of (outcome d) frame ≤ n → outcome (run n begun) ≡ whole (outcome d) frame
  whole-after n all =
      let gone = runs_by n _ refl ∙ busy_below n ∙ le-ltb n (steps_of (outcome d) frame) all in
      ap outcome (same_end n begun gone) ∙ runs_whole d frame idle formed

  -- the steps left: all of them at first, and after n steps n less
  pub steps_left_lem : steps_left begun ≡ steps_of (outcome d) frame
  steps_left_lem = left_is begun (steps_of (outcome d) frame) (λ n. runs_by n _ refl ∙ busy_below n)

  pub steps_left-after : (n : ℕ) → steps_left (run n begun) ≡ steps_of (outcome d) frame - n
  steps_left-after n = left_run n begun ∙ ap (λ (t : ℕ). t - n) steps_left_lem
