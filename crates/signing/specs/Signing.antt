-- Document 01, "A taken OP1 frame" and "Steps": key and message of the HMAC that a job is at, and the block of a hash step.
-- Assumes nothing.
use Rattle.std.specs.Prelude.{ℕ, ◌%◌, List, ◌++◌, ltb, eqb}
use Rattle.words.specs.Choice.{pick}
use Rattle.words.specs.Words.{bytes_of}
use Rattle.frames.specs.Layout.{signed_in, data_in}
use Rattle.hmac.specs.declared.Quarter.{Quarter}
use Rattle.hmac.specs.declared.Quarter.TheVariants.{KeyIpad, Message, KeyOpad, InnerDigest}
use Rattle.jobs.specs.declared.Command.{Command}
use Rattle.jobs.specs.declared.Command.TheVariants.{WriteRootKey, UpdateSessionKey, IncrementCounter, RequestCounter}
use Rattle.state.specs.declared.State.{State}
use Rattle.state.specs.Parts.{session_key}

-- a signature check takes 4 blocks (two inner, two outer): the one that comes after n steps
unfoldable pub quarter_of : ℕ → Quarter
quarter_of step = pick (eqb (step % 4) 0) KeyIpad (pick (eqb (step % 4) 1) Message (pick (eqb (step % 4) 2) KeyOpad InnerDigest))

-- 00: the key sent. 01: the root key in use, which gives the new session key, then the new session key. 02, 03: session key
abbrev pub key_of : Command → State → List ℕ
key_of WriteRootKey s = data_in 0 s.job.frame
key_of UpdateSessionKey s = pick (ltb s.job.step 4) s.job.root_key s.job.made
key_of IncrementCounter s = (session_key s s.job.counter).bytes
key_of RequestCounter s = (session_key s s.job.counter).bytes

-- the front bytes that the table says are signed; 01: first the key data; 03: then, for the reply, tag then counter value
abbrev pub message_of : Command → ℕ → List ℕ → ℕ → List ℕ
message_of WriteRootKey step frame kept = signed_in 0 frame
message_of UpdateSessionKey step frame kept = pick (ltb step 4) (data_in 1 frame) (signed_in 1 frame)
message_of IncrementCounter step frame kept = signed_in 2 frame
message_of RequestCounter step frame kept = pick (ltb step 4) (signed_in 3 frame) (data_in 3 frame ++ bytes_of kept)
