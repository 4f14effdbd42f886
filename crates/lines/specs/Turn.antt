-- Document 01, the program `rpmcrun`: what a line does, and what it prints. Assumes nothing.
use Rattle.std.specs.Prelude.{ℕ, ◌≡◌, Bool, false, Option, Some, None, List, [], ◌∷◌, ltb, eqb, length, get_or, drop, replicate}
use Rattle.arrayvec.specs.ArrayVec.{ArrayVec}
use Rattle.words.specs.Choice.{pick}
use Rattle.hexadecimal.specs.Hex.{readable}
use Rattle.device.specs.Work.{Device}
use Rattle.device.specs.Calls.{device, powered_up, after_frame, output_after_frame, after_work, image_after_work}
use Rattle.text.specs.Numbers.{number_in}
use Rattle.text.specs.Printing.{blank, number_line, work_line, read_line, unknown_line}
use Rattle.state.specs.declared.State.{State}
use Rattle.lines.specs.declared.Turned.{Turned}

-- a line's turn: what is printed, and the device afterwards
pub record Turn : Type 0 where
  pub text : List ℕ
  pub after : Device

abbrev pub turn_of : List ℕ → Device → Turn
turn_of text after = record { text = text; after = after }

-- any other line prints `?`, and touches nothing
abbrev pub unknown : Device → Turn
unknown d = turn_of unknown_line d

-- `P` power-up, of this image: the state before it is lost
unfoldable pub powered : List ℕ → Turn
powered image = turn_of (number_line 80 (powered_up image).number) (device image (powered_up image).state)

-- `F` a frame of 1 to 256 bytes; what it puts out is not printed
unfoldable pub framed : Device → List ℕ → Turn
framed d frame =
    pick (eqb (length frame) 0) (unknown d)
    (turn_of (number_line 70 (after_frame d.image d.state frame).number)
    (device d.image (after_frame d.image d.state frame).state))

-- `S` a quota of 0 to 255
unfoldable pub worked : Device → Option ℕ → Turn
worked d None = unknown d
worked d (Some quota) =
    pick (ltb 255 quota) (unknown d)
    (turn_of (work_line (after_work d quota).number (after_work d quota).steps) (device (image_after_work d quota) (after_work d quota).state))

-- the read: 96h and one dummy byte
abbrev pub read_frame : List ℕ
read_frame = 0x96 ∷ 0x00 ∷ []

-- a read that fills these bytes
unfoldable pub shown : Device → List ℕ → Turn
shown d bytes =
    turn_of
    (read_line (after_frame d.image d.state read_frame).number (output_after_frame d.image d.state read_frame bytes))
    (device d.image (after_frame d.image d.state read_frame).state)

-- `R` a read of 1 to 256 bytes
unfoldable pub read : Device → Option ℕ → Turn
read d None = unknown d
read d (Some size) = pick (eqb size 0) (unknown d) (pick (ltb 256 size) (unknown d) (shown d (replicate size 0)))

-- a line begins with this letter and a blank
unfoldable pub opens : ℕ → List ℕ → Bool
opens letter line = pick (eqb (get_or line 0 0) letter) (eqb (get_or line 1 0) blank) false

-- a line is this letter alone
unfoldable pub alone : ℕ → List ℕ → Bool
alone letter line = pick (eqb (length line) 1) (eqb (get_or line 0 0) letter) false

-- the turn of a line, without its newline
unfoldable pub turn : Device → List ℕ → Turn
turn d line =
    pick (alone 80 line) (powered d.image)
    (pick (opens 70 line) (framed d (readable 256 (drop 2 line)))
    (pick (opens 83 line) (worked d (number_in (drop 2 line)))
    (pick (opens 82 line) (read d (number_in (drop 2 line)))
    (unknown d))))

-- a call gives a text, in the line that it fills, and a state
pub record Gives (text : List ℕ) (s : State) (r : Turned) (line : ArrayVec ℕ) : Type 0 where
  pub prints : line.items ≡ text
  pub state : r.state ≡ s

-- a call gives a turn, but for the image
abbrev pub GivesTurn : Turn → Turned → ArrayVec ℕ → Type 0
GivesTurn t r line = Gives t.text t.after.state r line
