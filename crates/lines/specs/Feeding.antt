-- Document 01, the program `rpmcrun`: it reads lines. Here a byte at a time: a newline has its line answered, and any other byte is
-- kept. Then the lines of an input, which are answered in order. Assumes nothing.
use Rattle.std.specs.Prelude.{ℕ, suc, min, ◌≡◌, List, [], ◌∷◌, ◌++◌, ltb, eqb, length, take}
use Rattle.arrayvec.specs.ArrayVec.{ArrayVec}
use Rattle.words.specs.Choice.{pick}
use Rattle.state.specs.declared.State.{State}
use Rattle.device.specs.Work.{Device}
use Rattle.device.specs.Calls.{device}
use Rattle.text.specs.Printing.{newline}
use Rattle.lines.specs.declared.Turned.{Turned}
use Rattle.lines.specs.declared.Heard.{Heard}
use Rattle.lines.specs.Turn.{turn, Gives}

-- a conversation: the device, and the bytes kept of the line under way
pub record Conversation : Type 0 where
  pub device : Device
  pub kept : List ℕ

abbrev pub conversation : Device → List ℕ → Conversation
conversation d kept = record { device = d; kept = kept }

-- the line under way is at the front of its room, of 515 bytes
abbrev pub under_way : List ℕ → State → List ℕ → ℕ → Conversation
under_way image s room kept = conversation (device image s) (take (min kept 515) room)

-- what a part of the input does: what is printed, and the conversation afterwards
pub record Fed : Type 0 where
  pub text : List ℕ
  pub after : Conversation

abbrev pub fed_to : List ℕ → Conversation → Fed
fed_to text after = record { text = text; after = after }

-- a byte is kept if it is among the first 515 of its line: a line that long is never known, whatever follows
unfoldable pub keeping : List ℕ → ℕ → List ℕ
keeping kept byte = pick (ltb (length kept) 515) (kept ++ (byte ∷ [])) kept

-- the line that is kept is answered, and the next one is under way
unfoldable pub answered : Conversation → Fed
answered c = fed_to (turn c.device c.kept).text (conversation (turn c.device c.kept).after [])

-- one byte
unfoldable pub fed : ℕ → Conversation → Fed
fed byte c = pick (eqb byte newline) (answered c) (fed_to [] (conversation c.device (keeping c.kept byte)))

-- the bytes of a list, one after the other
unfoldable pub feed : List ℕ → Conversation → Fed
feed [] c = fed_to [] c
feed (byte ∷ bytes) c = fed_to ((fed byte c).text ++ (feed bytes (fed byte c).after).text) (feed bytes (fed byte c).after).after

-- at the end of the input a last line without newline is answered too; an end right after a newline is none
unfoldable pub ended : Conversation → Fed
ended c = pick (eqb (length c.kept) 0) (fed_to [] c) (answered c)

-- the bytes before the first newline, or all where there is none
unfoldable pub before_newline : List ℕ → List ℕ
before_newline [] = []
before_newline (byte ∷ bytes) = pick (eqb byte newline) [] (byte ∷ before_newline bytes)

-- the bytes up to the first newline, with it
abbrev pub up_to_newline : List ℕ → List ℕ
up_to_newline bytes = take (suc (length (before_newline bytes))) bytes

-- the line under way, with bytes that are no newline
unfoldable pub keeping_all : List ℕ → List ℕ → List ℕ
keeping_all kept [] = kept
keeping_all kept (byte ∷ bytes) = keeping_all (keeping kept byte) bytes

-- the lines of an input: those that a newline ends, and what stands behind the last newline
pub record Lines : Type 0 where
  pub whole : List (List ℕ)
  pub last : List ℕ

abbrev pub lines_as : List (List ℕ) → List ℕ → Lines
lines_as whole last = record { whole = whole; last = last }

-- the lines of an input of which this line is under way; no byte of it is cut off
unfoldable pub lines_from : List ℕ → List ℕ → Lines
lines_from line [] = lines_as [] line
lines_from line (byte ∷ bytes) =
    pick (eqb byte newline) (lines_as (line ∷ (lines_from [] bytes).whole) (lines_from [] bytes).last)
    (lines_from (line ++ (byte ∷ [])) bytes)

abbrev pub lines_of : List ℕ → Lines
lines_of bytes = lines_from [] bytes

-- all lines of an input that has ended
unfoldable pub all_lines : Lines → List (List ℕ)
all_lines lines = pick (eqb (length lines.last) 0) lines.whole (lines.whole ++ (lines.last ∷ []))

-- what lines print, one after the other, and the device behind them
unfoldable pub answers : Device → List (List ℕ) → List ℕ
answers d [] = []
answers d (line ∷ lines) = (turn d line).text ++ answers (turn d line).after lines

unfoldable pub after_all : Device → List (List ℕ) → Device
after_all d [] = d
after_all d (line ∷ lines) = after_all (turn d line).after lines

-- a call gives what was fed, but for the image: the text, in the line that it fills, the state, and how many bytes are kept
pub record GivesFed (f : Fed) (r : Heard) (line : ArrayVec ℕ) : Type 0 where
  pub prints : line.items ≡ f.text
  pub state : r.state ≡ f.after.device.state
  pub kept : r.kept ≡ length f.after.kept

-- a call gives the end of the input, but for the image
abbrev pub GivesEnd : Conversation → Turned → ArrayVec ℕ → Type 0
GivesEnd c r line = Gives (ended c).text (ended c).after.device.state r line
