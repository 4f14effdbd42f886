-- Demand 3 of the scope: what the device would be, told from the calls alone. A command frame that finds the device idle is under way
-- until its steps are done, and has then run whole. The device is never looked at. Assumes nothing.
use Rattle.std.specs.Prelude.{ℕ, ◌+◌, Bool, true, false, List, [], ◌∷◌, ltb}
use Rattle.words.specs.Choice.{pick}
use Rattle.frames.specs.declared.Class.{Class}
use Rattle.frames.specs.declared.Class.TheVariants.{Empty, EnableReset, Reset, Read, Unnamed, CommandFrame}
use Rattle.frames.specs.Classes.{class_of}
use Rattle.frames.specs.Layout.{counter_of}
use Rattle.jobs.specs.declared.Kind.{Kind}
use Rattle.jobs.specs.declared.Kind.TheVariants.{RootKeyAndCounter, RootKey, SessionKey, Increment, Request, TemporaryKeyAndCounter, TemporaryKey}
use Rattle.state.specs.Parts.{power_on}
use Rattle.plan.specs.Stores.{counter_stores}
use Rattle.plan.specs.Storing.{all_stored}
use Rattle.rules.specs.Whole.{Outcome, kind_in, whole}
use Rattle.progress.specs.Steps.{steps_of}
use Rattle.device.specs.Calls.{device, Call, PowerUp, Frame, Work, outcome}

-- no frame is under way, or this one is, with so many of its steps done
pub data Pending : Type 0 where
  None : Pending
  Doing : List ℕ → ℕ → Pending

-- what the device would be if every command frame that found it idle had run whole, the frame under way, and whether reset is enabled
pub record Ledger : Type 0 where
  pub as_if : Outcome
  pub pending : Pending
  pub enabled : Bool

abbrev pub entry : Outcome → Pending → Bool → Ledger
entry o pending enabled = record { as_if = o; pending = pending; enabled = enabled }

-- busy: a frame is under way
abbrev pub is_doing : Pending → Bool
is_doing None = false
is_doing (Doing frame done) = true

-- reset is enabled, or not, and all else as it was
abbrev pub enabling : Bool → Ledger → Ledger
enabling enabled l = entry l.as_if l.pending enabled

-- a frame with so many steps done is under way, or it has no more, and has run whole
unfoldable pub going : List ℕ → ℕ → Outcome → Bool → Ledger
going frame done o enabled =
    pick (ltb done (steps_of o frame)) (entry o (Doing frame done) enabled) (entry (whole o frame) None enabled)

-- a command frame: ignored while one is under way, else it begins
abbrev pub taken : Pending → List ℕ → Outcome → Ledger
taken None frame o = going frame 0 o false
taken (Doing other done) frame o = entry o (Doing other done) false

-- a quota of steps: the frame under way goes on
abbrev pub worked : Pending → ℕ → Outcome → Bool → Ledger
worked None quota o enabled = entry o None enabled
worked (Doing frame done) quota o enabled = going frame (quota + done) o enabled

-- a frame's own steps have set its counter, and it is not at its end: the state of the counter is stored in the last step but one of a
-- root key frame that sets root too
abbrev pub has_set : Kind → ℕ → Bool
has_set RootKeyAndCounter done = ltb 13 done
has_set RootKey done = false
has_set TemporaryKeyAndCounter done = false
has_set TemporaryKey done = false
has_set SessionKey done = false
has_set Increment done = false
has_set Request done = false

-- setting a counter to 0 only
unfoldable pub set_to0 : Outcome → ℕ → Outcome
set_to0 o c = record { status = o.status; keys = o.keys; reply = o.reply; image = all_stored counter_stores o.image c }

-- an interrupted frame drops out, or, if its own steps had set its counter, counts as setting that counter to 0 only
abbrev pub interrupted : Pending → Outcome → Outcome
interrupted None o = o
interrupted (Doing frame done) o = pick (has_set (kind_in o frame) done) (set_to0 o (counter_of frame)) o

-- a reset or a power cut: the power-on state, the image kept
abbrev pub restarted : Outcome → Outcome
restarted o = outcome (device o.image power_on)

abbrev pub cut : Ledger → Ledger
cut l = entry (restarted (interrupted l.pending l.as_if)) None false

-- a frame, by its class
abbrev pub heard : Class → List ℕ → Ledger → Ledger
heard Empty bytes l = l
heard EnableReset bytes l = enabling true l
heard Reset bytes l = pick l.enabled (cut l) (enabling false l)
heard Read bytes l = enabling false l
heard CommandFrame bytes l = taken l.pending bytes l.as_if
heard Unnamed bytes l = enabling false l

-- one call more
abbrev pub entered : Call → Ledger → Ledger
entered PowerUp l = cut l
entered (Frame bytes output) l = heard (class_of bytes) bytes l
entered (Work quota) l = worked l.pending quota l.as_if l.enabled

-- an order of calls
unfoldable pub ledger : List Call → Ledger → Ledger
ledger [] l = l
ledger (call ∷ more) l = ledger more (entered call l)

-- powered up on an image
abbrev pub opened : List ℕ → Ledger
opened image = entry (outcome (device image power_on)) None false
