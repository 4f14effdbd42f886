-- Document 01, "The counter image": the power-on state; and the one form of what is not there. Assumes nothing.
use Rattle.std.specs.Prelude.{ℕ, false, get_or, replicate}
use Rattle.frames.specs.declared.Reply.{Reply}
use Rattle.jobs.specs.declared.Kind.TheVariants.{TemporaryKey}
use Rattle.state.specs.declared.Key.{Key}
use Rattle.state.specs.declared.Job.{Job}
use Rattle.state.specs.declared.State.{State}

abbrev pub no_key : Key
no_key = record { there = false; bytes = replicate 32 0 }

abbrev pub no_reply : Reply
no_reply = record { there = false; bytes = replicate 48 0 }

abbrev pub no_job : Job
no_job =
    record {
      there = false;
      kind = TemporaryKey;
      counter = 0;
      step = 0;
      frame = replicate 64 0;
      root_key = replicate 32 0;
      made = replicate 32 0;
      inner = replicate 8 0;
      kept = 0;
    }

-- status 00h, no session (HMAC) key for any counter, no reply, no job, not reset-enabled
abbrev pub power_on : State
power_on =
    record {
      status = 0x00;
      keys = replicate 4 no_key;
      reply = no_reply;
      enabled = false;
      chain = replicate 8 0;
      job = no_job;
    }

-- the session key of a counter; none where there is no such counter
abbrev pub session_key : State → ℕ → Key
session_key s counter = get_or s.keys counter no_key

-- the state with another job
abbrev pub with_job : State → Job → State
with_job s job =
    record {
      status = s.status;
      keys = s.keys;
      reply = s.reply;
      enabled = s.enabled;
      chain = s.chain;
      job = job;
    }

-- a status is posted: the job has ended
abbrev pub posted : State → ℕ → State
posted s status =
    record {
      status = status;
      keys = s.keys;
      reply = s.reply;
      enabled = s.enabled;
      chain = s.chain;
      job = no_job;
    }
