-- Each step leaves less of a job: of the steps of its kind one more is done, or the job has ended. Assumes nothing.
use Rattle.std.proofs.Common.{◌≡◌, ℕ, ◌+◌, ◌-◌, ◌<◌, true, List, refl, arith}
use borrow.Author.Tests.{eqb-false}
use Rattle.words.specs.Choice.{pick}
use Rattle.words.proofs.Choice.{either}
use Rattle.jobs.specs.Jobs.{length_of, command_of}
use Rattle.jobs.specs.declared.Command.{Command}
use Rattle.jobs.specs.declared.Command.TheVariants.{WriteRootKey, UpdateSessionKey, IncrementCounter, RequestCounter}
use Rattle.state.specs.declared.State.{State}
use Rattle.state.specs.Parts.{posted}
use Rattle.state.specs.Refusal.{is_running}
use Rattle.state.proofs.Running.{step_left}
use Rattle.signing.specs.Hashed.{with_block, hashed}
use Rattle.steps.specs.Ending.{with_key, with_reply, with_step, finished_by, advanced}
use Rattle.steps.specs.Deciding.{with_kept, decided, hash_step}
use Rattle.steps.specs.Step.{is_hash, step_state}

-- the steps of a job's kind that are not done
abbrev pub rest : State → ℕ
rest s = length_of s.job.kind - s.job.step

-- the same where a job runs, and none where it does not
pub bound : State → ℕ
bound s = pick (is_running s) (rest s) 0

finished_none : (command : Command) (s : State) → bound (finished_by command s) ≡ 0
unfolding bound is_running pick with_key with_reply
finished_none WriteRootKey s = refl
finished_none UpdateSessionKey s = refl
finished_none IncrementCounter s = refl
finished_none RequestCounter s = refl

on_less : (s : State) → s.job.step + 1 < length_of s.job.kind → bound (with_step s (s.job.step + 1)) < rest s
unfolding bound with_step
on_less s h = either (λ (n : ℕ). n < rest s) _ _ 0 (λ e. omega arith) (λ e. omega arith)

advanced_less : (s : State) → s.job.step < length_of s.job.kind → bound (advanced s) < rest s
unfolding advanced
advanced_less s h =
    either (λ (t : State). bound t < rest s) _ _ _
    (λ e. rw (finished_none (command_of s.job.kind) s) (omega arith))
    (λ e. on_less s (omega (arith, eqb-false (s.job.step + 1) (length_of s.job.kind) e)))

kept_less :
    (s : State) (kept : ℕ) → s.job.step < length_of s.job.kind → bound (advanced (with_kept s kept)) < rest s
unfolding with_kept
kept_less s kept h = advanced_less (with_kept s kept) h

posted_less : (s : State) (status : ℕ) → s.job.step < length_of s.job.kind → bound (posted s status) < rest s
unfolding bound is_running pick
posted_less s status h = omega arith

decided_less : (s : State) (value : ℕ) → s.job.step < length_of s.job.kind → bound (decided s value) < rest s
unfolding decided
decided_less s value h =
    either (λ (t : State). bound t < rest s) _ _ _ (λ e. kept_less s _ h) (λ e. posted_less s _ h)

hash_less : (image : List ℕ) (s : State) → s.job.step < length_of s.job.kind → bound (hash_step image s) < rest s
unfolding hash_step hashed with_block
hash_less image s h =
    either (λ (t : State). bound t < rest s) _ _ _ (λ e. decided_less (hashed s) _ h) (λ e. advanced_less (hashed s) h)

-- a step leaves less of a job that runs
pub step_less : (image : List ℕ) (s : State) → is_running s ≡ true → bound (step_state image s) < rest s
unfolding step_state pick
step_less image s runs =
    rw runs
    (either (λ (t : State). bound t < rest s) (is_hash s.job) _ _ (λ e. hash_less image s (step_left s runs))
    (λ e. advanced_less s (step_left s runs)))

pub bound_runs : (s : State) → is_running s ≡ true → bound s ≡ rest s
unfolding bound pick
bound_runs s e = rw e
