-- The cases of `turn`, in its order; that a line which opens with a letter and a blank has a rest; the rest of a line, as the code
-- takes it; and that a frame and a read leave the image. Assumes nothing.
use Prim.Native.Nat.{ℕ, ◌-◌, ◌≤◌}
use mathlib.Core.Path.{◌≡◌, refl, sym}
use mathlib.Core.Bool.{true, false}
use mathlib.Core.List.{List, [], ◌∷◌}
use native.Mathlib.Omega.{arith}
use lib.ListN.{length, take, drop, length-drop}
use lib.Seq.{take-length}
use Rattle.std.specs.Prelude.{Option, Some, None}
use Rattle.words.specs.Choice.{pick}
use Rattle.words.proofs.Choice.{never, both, either}
use Rattle.hexadecimal.specs.Hex.{readable}
use Rattle.device.specs.Work.{Device}
use Rattle.text.specs.Numbers.{number_in}
use Rattle.lines.specs.Turn.{Turn, unknown, powered, framed, worked, shown, read, opens, alone, turn}

-- its second character is there
pub opens_long : (letter : ℕ) (line : List ℕ) → opens letter line ≡ true → 2 ≤ length line
unfolding opens
opens_long letter [] e = absurd (never (both _ _ e).1)
opens_long letter (x ∷ []) e = absurd (never (both _ _ e).1)
opens_long letter (x ∷ y ∷ line) e = omega arith

-- the rest of a list, as the code takes it
pub rest : (n : ℕ) (l : List ℕ) → take (length l - n) (drop n l) ≡ drop n l
rest n l =
    let size : length l - n ≡ length (drop n l) = sym (length-drop n l) in
    rw size (take-length (drop n l))

-- the cases of `turn`, in its order
module _ (d : Device) (line : List ℕ) where
  pub turn_alone : alone 80 line ≡ true → turn d line ≡ powered d.image
  unfolding turn pick
  turn_alone p = rw p

  module _ (p : alone 80 line ≡ false) where
    pub turn-frame : opens 70 line ≡ true → turn d line ≡ framed d (readable 256 (drop 2 line))
    unfolding turn pick
    turn-frame f = rw (p, f)

    module _ (f : opens 70 line ≡ false) where
      pub turn_work : opens 83 line ≡ true → turn d line ≡ worked d (number_in (drop 2 line))
      unfolding turn pick
      turn_work s = rw (p, f, s)

      module _ (s : opens 83 line ≡ false) where
        pub turn-read : opens 82 line ≡ true → turn d line ≡ read d (number_in (drop 2 line))
        unfolding turn pick
        turn-read r = rw (p, f, s, r)

        pub turn-unknown : opens 82 line ≡ false → turn d line ≡ unknown d
        unfolding turn pick
        turn-unknown r = rw (p, f, s, r)

pub framed_keeps : (d : Device) (frame : List ℕ) → (framed d frame).after.image ≡ d.image
unfolding framed
framed_keeps d frame = either (λ (t : Turn). t.after.image ≡ d.image) _ _ _ (λ e. refl) (λ e. refl)

pub read_keeps : (d : Device) (size : Option ℕ) → (read d size).after.image ≡ d.image
unfolding read shown
read_keeps d None = refl
read_keeps d (Some size) =
    either (λ (t : Turn). t.after.image ≡ d.image) _ _ _ (λ e. refl)
    (λ e. either (λ (t : Turn). t.after.image ≡ d.image) _ _ _ (λ e. refl) (λ e. refl))
