-- What a step keeps of a job that is still there after it: everything but its step number, and the kept word until the stores begin.
-- Each of the ends of a step changes these alone, or drops the job. Assumes nothing.
use Rattle.std.proofs.Common.{◌≡◌, ℕ, ◌+◌, true, false, List, sym, refl, ◌∙◌}
use Rattle.words.specs.Choice.{pick}
use Rattle.words.proofs.Choice.{never, either}
use Rattle.jobs.specs.Jobs.{command_of}
use Rattle.jobs.specs.declared.Command.{Command}
use Rattle.jobs.specs.declared.Command.TheVariants.{WriteRootKey, UpdateSessionKey, IncrementCounter, RequestCounter}
use Rattle.state.specs.declared.State.{State}
use Rattle.state.specs.Refusal.{is_running}
use Rattle.signing.specs.Hashed.{with_block, hashed}
use Rattle.steps.specs.Ending.{with_key, with_reply, with_step, is_last, finished_by, advanced}
use Rattle.steps.specs.Deciding.{with_kept, decided, hash_step}
use Rattle.steps.specs.Step.{is_hash, step_state}

-- a step keeps the job, but for its step number, and for the kept word until the stores begin
pub record Keeps (s t : State) : Type 0 where
  pub kind : t.job.kind ≡ s.job.kind
  pub counter : t.job.counter ≡ s.job.counter
  pub frame : t.job.frame ≡ s.job.frame
  pub step : t.job.step ≡ s.job.step + 1
  pub kept : is_hash s.job ≡ false → t.job.kept ≡ s.job.kept
  pub goes_on : is_last s ≡ false

-- if the job is still there
abbrev Going : State → State → Type 0
Going s t = t.job.there ≡ true → Keeps s t

finished_gone : (command : Command) (s t : State) → (finished_by command s).job.there ≡ true → Keeps t (finished_by command s)
unfolding with_key with_reply
finished_gone WriteRootKey s t e = absurd (never e)
finished_gone UpdateSessionKey s t e = absurd (never e)
finished_gone IncrementCounter s t e = absurd (never e)
finished_gone RequestCounter s t e = absurd (never e)

-- one more step: the job ends, or goes on
advanced_keeps : (s t : State) → (is_last t ≡ false → Keeps s (with_step t (t.job.step + 1))) → Going s (advanced t)
unfolding advanced
advanced_keeps s t on = either (Going s) _ _ _ (λ _. finished_gone (command_of t.job.kind) t s) (λ more _. on more)

store_keeps : (s : State) → Going s (advanced s)
unfolding with_step
store_keeps s =
    advanced_keeps s s (λ more. record { kind = refl; counter = refl; frame = refl; step = refl; kept = λ _. refl; goes_on = more })

block_keeps : (s : State) → Going s (advanced (hashed s))
unfolding with_step hashed with_block
block_keeps s =
    advanced_keeps s (hashed s)
    (λ more. record { kind = refl; counter = refl; frame = refl; step = refl; kept = λ _. refl; goes_on = more })

decided_keeps : (s : State) (value : ℕ) → is_hash s.job ≡ true → Going s (decided (hashed s) value)
unfolding decided with_step with_kept hashed with_block
decided_keeps s value hashing =
    either (Going s) _ _ _
    (λ _.
    advanced_keeps s (with_kept (hashed s) _)
    (λ more.
    record {
      kind = refl;
      counter = refl;
      frame = refl;
      step = refl;
      kept = λ stores. absurd (never (sym stores ∙ hashing));
      goes_on = more;
    }))
    (λ _ e. absurd (never e))

hash_keeps : (image : List ℕ) (s : State) → is_hash s.job ≡ true → Going s (hash_step image s)
unfolding hash_step
hash_keeps image s hashing = either (Going s) _ _ _ (λ _. decided_keeps s _ hashing) (λ _. block_keeps s)

pub step_keeps : (image : List ℕ) (s : State) → is_running s ≡ true → Going s (step_state image s)
unfolding step_state pick
step_keeps image s runs = rw runs (either (Going s) (is_hash s.job) _ _ (λ h. hash_keeps image s h) (λ _. store_keeps s))
