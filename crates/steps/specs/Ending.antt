-- Document 01, "Steps": the last step posts the status, and what a job leaves when it ends well. Assumes nothing.
use Rattle.std.specs.Prelude.{ℕ, ◌+◌, Bool, true, List, ◌++◌, ◌==◌, slice_set}
use Rattle.words.specs.Choice.{pick}
use Rattle.words.specs.Words.{bytes_of, bytes_of_all}
use Rattle.frames.specs.Layout.{data_in}
use Rattle.jobs.specs.Jobs.{length_of, command_of}
use Rattle.jobs.specs.declared.Command.{Command}
use Rattle.jobs.specs.declared.Command.TheVariants.{WriteRootKey, UpdateSessionKey, IncrementCounter, RequestCounter}
use Rattle.state.specs.declared.State.{State}
use Rattle.state.specs.Parts.{with_job, posted}

-- the state with a session key for a counter
unfoldable pub with_key : State → ℕ → List ℕ → State
with_key s counter bytes =
    record {
      status = s.status;
      keys = slice_set s.keys counter (record { there = true; bytes = bytes });
      reply = s.reply;
      enabled = s.enabled;
      chain = s.chain;
      job = s.job;
    }

-- the state with a reply
unfoldable pub with_reply : State → List ℕ → State
with_reply s bytes =
    record {
      status = s.status;
      keys = s.keys;
      reply = record { there = true; bytes = bytes };
      enabled = s.enabled;
      chain = s.chain;
      job = s.job;
    }

-- 80h. Type 01: the new session key, a later success replaces it. Type 03: 12 tag bytes, 4 counter bytes, 32 signature bytes
abbrev pub finished_by : Command → State → State
finished_by WriteRootKey s = posted s 0x80
finished_by UpdateSessionKey s = with_key (posted s 0x80) s.job.counter s.job.made
finished_by IncrementCounter s = posted s 0x80
finished_by RequestCounter s =
    with_reply (posted s 0x80) (data_in 3 s.job.frame ++ bytes_of s.job.kept ++ bytes_of_all s.chain)

-- the state with the job at a step number
unfoldable pub with_step : State → ℕ → State
with_step s step =
    with_job s
    (record {
      there = s.job.there;
      kind = s.job.kind;
      counter = s.job.counter;
      step = step;
      frame = s.job.frame;
      root_key = s.job.root_key;
      made = s.job.made;
      inner = s.job.inner;
      kept = s.job.kept;
    })

-- the next step is the last of its kind of job
abbrev pub is_last : State → Bool
is_last s = s.job.step + 1 == length_of s.job.kind

-- one more step is done, and at the length of its kind the job has ended
unfoldable pub advanced : State → State
advanced s =
    pick (is_last s) (finished_by (command_of s.job.kind) s) (with_step s (s.job.step + 1))
