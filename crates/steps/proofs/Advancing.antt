-- One more step is done: the job's last, or not; after a block, and after the checks of a signature. Assumes nothing.
use Rattle.std.proofs.Common.{◌≡◌, ℕ, ◌+◌, Bool, true, false, List, sym, refl, ◌∙◌, eq-eqb, ne_eqb}
use Rattle.words.specs.Choice.{pick}
use Rattle.jobs.specs.Jobs.{command_of, signature_steps}
use Rattle.jobs.specs.declared.Command.{Command}
use Rattle.jobs.specs.declared.Command.TheVariants.{WriteRootKey, UpdateSessionKey, IncrementCounter, RequestCounter}
use Rattle.state.specs.declared.State.{State}
use Rattle.state.specs.Refusal.{is_running}
use Rattle.signing.specs.Hashed.{hashed}
use Rattle.steps.specs.Ending.{with_key, with_reply, finished_by, with_step, is_last, advanced}
use Rattle.steps.specs.Deciding.{with_kept, decision_of, decided, hash_step}
use Rattle.rules.specs.Whole.{kept_after}

-- by the answer of `is_last`
module _ (s r : State) (last : Bool) (asked : last ≡ is_last s) where
  pub last_step : last ≡ true → r ≡ finished_by (command_of s.job.kind) s → r ≡ advanced s
  unfolding advanced pick
  last_step taken e = rw (sym asked ∙ taken) e

  pub another_step : last ≡ false → r ≡ with_step s (s.job.step + 1) → r ≡ advanced s
  unfolding advanced pick
  another_step left e = rw (sym asked ∙ left) e

-- no check has failed: the word is kept, and one more step is done
pub passed_on :
    (s t r : State) (value status kept : ℕ) (command : Command) → status ≡ decision_of s value → status ≡ 0 →
    command ≡ command_of s.job.kind → kept ≡ kept_after command s.job.kept value → t ≡ with_kept s kept → r ≡ advanced t →
    r ≡ decided s value
unfolding decided pick
passed_on s t r value status kept command asked zero c k e done =
    rw (← asked, eq-eqb status 0 zero, ← c, ← k, ← e) done

-- a block that is not the last of a signature check
pub hashed_on :
    (image : List ℕ) (s t r : State) (command : Command) (steps : ℕ) → t ≡ hashed s → command ≡ command_of s.job.kind →
    steps ≡ signature_steps command → (s.job.step + 1 ≡ steps → ⊥) → r ≡ advanced t → r ≡ hash_step image s
unfolding hash_step pick
hashed_on image s t r command steps h c k apart done =
    rw (← h, ← c, ← k, ne_eqb (s.job.step + 1) steps apart) done

-- a job that has ended does not run
pub finished_idle : (command : Command) (s : State) → is_running (finished_by command s) ≡ false
unfolding is_running with_key with_reply pick
finished_idle WriteRootKey s = refl
finished_idle UpdateSessionKey s = refl
finished_idle IncrementCounter s = refl
finished_idle RequestCounter s = refl

-- one more step, by whether it is the job's last
pub on_from : (s : State) → is_last s ≡ false → advanced s ≡ with_step s (s.job.step + 1)
unfolding advanced pick
on_from s e = rw e

pub end_from : (s : State) → is_last s ≡ true → advanced s ≡ finished_by (command_of s.job.kind) s
unfolding advanced pick
end_from s e = rw e
