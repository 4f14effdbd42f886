-- Document 01, "Frames by first byte": what a frame is, by its first byte and its length alone. Assumes nothing.
use Rattle.std.specs.Prelude.{ℕ, ◌<◌, ◌≤◌, ◌≡◌, List, ltb, eqb, length, get_or}
use Rattle.words.specs.Choice.{pick}
use Rattle.frames.specs.declared.Class.{Class}
use Rattle.frames.specs.declared.Class.TheVariants.{Empty, EnableReset, Reset, Read, Unnamed, CommandFrame}

-- 66h, one byte: reset enabled. 99h, one byte: the reset, if enabled
-- 96h and one dummy byte: the read
-- 9Bh with two bytes or more: a command frame. 9Bh alone does nothing more than a frame not named
unfoldable pub named_class : ℕ → ℕ → Class
named_class first size =
    pick (eqb first 0x66) (pick (eqb size 1) EnableReset Unnamed)
    (pick (eqb first 0x99) (pick (eqb size 1) Reset Unnamed)
    (pick (eqb first 0x96) (pick (eqb size 2) Read Unnamed)
    (pick (eqb first 0x9B) (pick (ltb 1 size) CommandFrame Unnamed)
    Unnamed)))

-- an empty frame is a class of its own: nothing changes at all
unfoldable pub class_of : List ℕ → Class
class_of frame = pick (eqb (length frame) 0) Empty (named_class (get_or frame 0 0) (length frame))

-- document 01's numbers for each class: the first byte of its frames, and how many bytes they have
abbrev pub Numbers : Class → ℕ → ℕ → Type 0
Numbers Empty first size = size ≡ 0
Numbers EnableReset first size = (first ≡ 0x66) × (size ≡ 1)
Numbers Reset first size = (first ≡ 0x99) × (size ≡ 1)
Numbers Read first size = (first ≡ 0x96) × (size ≡ 2)
Numbers CommandFrame first size = (first ≡ 0x9B) × (2 ≤ size)
Numbers Unnamed first size =
    (0 < size)
    × (first ≡ 0x66 → size ≡ 1 → ⊥)
    × (first ≡ 0x99 → size ≡ 1 → ⊥)
    × (first ≡ 0x96 → size ≡ 2 → ⊥)
    × (first ≡ 0x9B → size ≡ 1)

-- a frame that has the numbers of a class
abbrev pub FrameOf : Class → List ℕ → Type 0
FrameOf class frame = Numbers class (get_or frame 0 0) (length frame)
