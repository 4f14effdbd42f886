-- Document 01, "Steps": the state after a hash step. Assumes nothing.
use Rattle.std.specs.Prelude.{ℕ, ◌%◌, List, eqb}
use Rattle.words.specs.Choice.{pick}
use Rattle.words.specs.Words.{bytes_of_all}
use Rattle.hmac.specs.Quarters.{chain_after}
use Rattle.jobs.specs.Jobs.{command_of}
use Rattle.jobs.specs.declared.Command.{Command}
use Rattle.jobs.specs.declared.Command.TheVariants.{WriteRootKey, UpdateSessionKey, IncrementCounter, RequestCounter}
use Rattle.state.specs.declared.State.{State}
use Rattle.signing.specs.Signing.{quarter_of, key_of, message_of}

-- the chaining words of the step's block
unfoldable pub block_done : Command → State → List ℕ
block_done command s =
    chain_after (quarter_of s.job.step) (key_of command s) (message_of command s.job.step s.job.frame s.job.kept)
    s.chain s.job.inner

-- the inner digest's words are kept over the third block
unfoldable pub inner_after : ℕ → List ℕ → List ℕ → List ℕ
inner_after step inner chain = pick (eqb (step % 4) 1) chain inner

-- type 01: the first of its HMACs is the new session key
abbrev pub made_after : Command → ℕ → List ℕ → List ℕ → List ℕ
made_after WriteRootKey step made chain = made
made_after UpdateSessionKey step made chain = pick (eqb step 3) (bytes_of_all chain) made
made_after IncrementCounter step made chain = made
made_after RequestCounter step made chain = made

-- the state with the chaining words of a block, and what the job keeps of them
unfoldable pub with_block : Command → State → List ℕ → State
with_block command s chain =
    record {
      status = s.status;
      keys = s.keys;
      reply = s.reply;
      enabled = s.enabled;
      chain = chain;
      job =
          record {
            there = s.job.there;
            kind = s.job.kind;
            counter = s.job.counter;
            step = s.job.step;
            frame = s.job.frame;
            root_key = s.job.root_key;
            made = made_after command s.job.step s.job.made chain;
            inner = inner_after s.job.step s.job.inner chain;
            kept = s.job.kept;
          };
    }

-- after a hash step the state holds that block's chaining words
unfoldable pub hashed : State → State
hashed s = with_block (command_of s.job.kind) s (block_done (command_of s.job.kind) s)
