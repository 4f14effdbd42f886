-- The state that some bytes stand for. Bytes that are not there read as 0. Assumes nothing.
use Rattle.std.specs.Prelude.{ℕ, ◌+◌, List, [], ◌∷◌, get_or}
use Rattle.words.specs.Table.{field}
use Rattle.words.specs.Words.{word_or0, words_at}
use Rattle.frames.specs.declared.Reply.{Reply}
use Rattle.state.specs.declared.Key.{Key}
use Rattle.state.specs.declared.Job.{Job}
use Rattle.state.specs.declared.State.{State}
use Rattle.packed.specs.Codes.{flag_of, kind_of}

-- a session key: whether it is there, then its 32 bytes
abbrev pub key_at : ℕ → List ℕ → Key
key_at at s = record { there = flag_of (get_or s at 0); bytes = field (at + 1) 32 s }

-- the session keys by counter, 33 bytes each, from 59
abbrev pub keys_of : List ℕ → List Key
keys_of s = key_at 59 s ∷ key_at 92 s ∷ key_at 125 s ∷ key_at 158 s ∷ []

-- the reply: whether it is there at 10, its bytes from 11
abbrev pub reply_of : List ℕ → Reply
reply_of s = record { there = flag_of (get_or s 10 0); bytes = field 11 48 s }

-- the job: its numbers from 2, and behind the chaining words what it keeps
abbrev pub job_of : List ℕ → Job
job_of s =
    record {
      there = flag_of (get_or s 2 0);
      kind = kind_of (get_or s 3 0);
      counter = get_or s 4 0;
      step = get_or s 5 0;
      frame = field 255 64 s;
      root_key = field 319 32 s;
      made = field 351 32 s;
      inner = words_at 223 8 s;
      kept = word_or0 s 6;
    }

-- the state: the status at 0, reset-enable at 1, the chaining words from 191
unfoldable pub unpacked : List ℕ → State
unpacked s =
    record {
      status = get_or s 0 0;
      keys = keys_of s;
      reply = reply_of s;
      enabled = flag_of (get_or s 1 0);
      chain = words_at 191 8 s;
      job = job_of s;
    }
