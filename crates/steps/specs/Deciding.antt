-- Document 01, "Steps": checks 8 to 10 are made in the last step of the signature check. Assumes nothing.
use Rattle.std.specs.Prelude.{ℕ, ◌+◌, List, ◌==◌}
use Rattle.words.specs.Choice.{pick}
use Rattle.words.specs.Words.{bytes_of_all}
use Rattle.image.specs.Slot.{slot_of}
use Rattle.jobs.specs.Jobs.{command_of, signature_steps}
use Rattle.decision.specs.Decision.{decision}
use Rattle.state.specs.declared.State.{State}
use Rattle.state.specs.Parts.{with_job, posted}
use Rattle.signing.specs.Hashed.{hashed}
use Rattle.rules.specs.Whole.{kept_after}
use Rattle.steps.specs.Ending.{advanced}

-- the counter value is read in step 4, and what the command wants of it is kept
unfoldable pub with_kept : State → ℕ → State
with_kept s kept =
    with_job s
    (record {
      there = s.job.there;
      kind = s.job.kind;
      counter = s.job.counter;
      step = s.job.step;
      frame = s.job.frame;
      root_key = s.job.root_key;
      made = s.job.made;
      inner = s.job.inner;
      kept = kept;
    })

-- the status that checks 8 to 10 give, of the digest that the state holds and the counter value
abbrev pub decision_of : State → ℕ → ℕ
decision_of s value = decision (command_of s.job.kind) s.job.frame (bytes_of_all s.chain) value

-- a failed check ends the job and changes nothing but status
unfoldable pub decided : State → ℕ → State
decided s value =
    pick (decision_of s value == 0) (advanced (with_kept s (kept_after (command_of s.job.kind) s.job.kept value)))
    (posted s (decision_of s value))

-- one SHA-256 block, and in the last of the signature check the checks
unfoldable pub hash_step : List ℕ → State → State
hash_step image s =
    pick (s.job.step + 1 == signature_steps (command_of s.job.kind)) (decided (hashed s) (slot_of image s.job.counter).value)
    (advanced (hashed s))
