-- Demand 3 of the scope, second half: orders of calls without a reset or a power cut, the command frames that they take, and the status
-- that each of them ends with. Assumes nothing.
use Rattle.std.specs.Prelude.{ℕ, ◌≡◌, Bool, true, false, List, [], ◌∷◌, ◌++◌}
use Rattle.words.specs.Choice.{pick}
use Rattle.frames.specs.declared.Class.{Class}
use Rattle.frames.specs.declared.Class.TheVariants.{Empty, EnableReset, Reset, Read, Unnamed, CommandFrame}
use Rattle.frames.specs.Classes.{class_of}
use Rattle.device.specs.Work.{Device}
use Rattle.device.specs.Calls.{Call, PowerUp, Frame, Work, called}
use Rattle.counters.specs.Reordering.{belongs}
use Rattle.orders.specs.Ledger.{Pending, None, Doing, Ledger, entered}

-- a frame of a class resets: 99h while reset is enabled
abbrev pub resets : Class → Ledger → Bool
resets Empty l = false
resets EnableReset l = false
resets Reset l = l.enabled
resets Read l = false
resets CommandFrame l = false
resets Unnamed l = false

-- a call restarts the device: a power-up, or a reset
abbrev pub restarts : Call → Ledger → Bool
restarts PowerUp l = true
restarts (Frame bytes output) l = resets (class_of bytes) l
restarts (Work quota) l = false

-- no call of an order restarts the device
unfoldable pub NoRestart : List Call → Ledger → Type 0
NoRestart [] l = Unit {0}
NoRestart (call ∷ more) l = (restarts call l ≡ false) × NoRestart more (entered call l)

-- the frame under way, if any
abbrev pub frames_under_way : Pending → List (List ℕ)
frames_under_way None = []
frames_under_way (Doing frame done) = frame ∷ []

-- a command frame is taken where none is under way
abbrev pub taken_where : Pending → List ℕ → List (List ℕ)
taken_where None frame = frame ∷ []
taken_where (Doing other done) frame = []

abbrev pub taken_from : Class → List ℕ → Ledger → List (List ℕ)
taken_from Empty bytes l = []
taken_from EnableReset bytes l = []
taken_from Reset bytes l = []
taken_from Read bytes l = []
taken_from CommandFrame bytes l = taken_where l.pending bytes
taken_from Unnamed bytes l = []

-- the frame that a call takes, if any
abbrev pub frame_taken : Call → Ledger → List (List ℕ)
frame_taken PowerUp l = []
frame_taken (Frame bytes output) l = taken_from (class_of bytes) bytes l
frame_taken (Work quota) l = []

-- the command frames that an order takes
unfoldable pub frames_taken : List Call → Ledger → List (List ℕ)
frames_taken [] l = []
frames_taken (call ∷ more) l = frame_taken call l ++ frames_taken more (entered call l)

-- the frame that a call has steps of: the one under way, or the one that it takes
abbrev pub frame_served : Call → Ledger → List (List ℕ)
frame_served PowerUp l = []
frame_served (Frame bytes output) l = taken_from (class_of bytes) bytes l
frame_served (Work quota) l = frames_under_way l.pending

-- it has its last step with this call where none is under way afterwards
abbrev pub ended_where : Pending → List (List ℕ) → List (List ℕ)
ended_where None frames = frames
ended_where (Doing frame done) frames = []

abbrev pub frame_ended : Call → Ledger → List (List ℕ)
frame_ended call l = ended_where (entered call l).pending (frame_served call l)

-- a status for each frame that is the counter's own
unfoldable pub shown_for : ℕ → List (List ℕ) → ℕ → List ℕ
shown_for c [] status = []
shown_for c (frame ∷ more) status = pick (belongs c frame) (status ∷ shown_for c more status) (shown_for c more status)

-- the final status of each of a counter's own frames: what the device shows right after the call with which the frame has its last step
unfoldable pub finals : ℕ → List Call → Ledger → Device → List ℕ
finals c [] l d = []
finals c (call ∷ more) l d =
    shown_for c (frame_ended call l) (called call d).state.status ++ finals c more (entered call l) (called call d)
