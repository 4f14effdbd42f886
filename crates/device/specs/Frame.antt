-- Document 01, "Frames by first byte": the state and the output after a frame. Assumes nothing.
use Rattle.std.specs.Prelude.{ℕ, Bool, true, false, List, length}
use Rattle.words.specs.Choice.{pick}
use Rattle.frames.specs.declared.Class.{Class}
use Rattle.frames.specs.declared.Class.TheVariants.{Empty, EnableReset, Reset, Read, Unnamed, CommandFrame}
use Rattle.frames.specs.Reading.{read_output}
use Rattle.state.specs.declared.State.{State}
use Rattle.state.specs.Parts.{power_on}
use Rattle.arrival.specs.Arrival.{arrived}

-- the state with reset-enable on or off
unfoldable pub with_enabled : State → Bool → State
with_enabled s enabled =
    record {
      status = s.status;
      keys = s.keys;
      reply = s.reply;
      enabled = enabled;
      chain = s.chain;
      job = s.job;
    }

-- the empty frame changes nothing at all; 66h: reset enabled; 99h, when enabled: power-on state, any job dropped
-- every other non-empty frame, and every 99h, clears reset-enable; 9Bh while busy is ignored, while idle it is taken
abbrev pub state_after : Class → List ℕ → State → List ℕ → State
state_after Empty image s frame = s
state_after EnableReset image s frame = with_enabled s true
state_after Reset image s frame = pick s.enabled power_on (with_enabled s false)
state_after Read image s frame = with_enabled s false
state_after CommandFrame image s frame = pick s.job.there (with_enabled s false) (arrived image s frame)
state_after Unnamed image s frame = with_enabled s false

-- the read fills the whole output buffer; no other frame writes output
abbrev pub output_after : Class → State → List ℕ → List ℕ
output_after Empty s output = output
output_after EnableReset s output = output
output_after Reset s output = output
output_after Read s output = read_output s.job.there s.status s.reply (length output)
output_after CommandFrame s output = output
output_after Unnamed s output = output
