-- A line above 514 characters is never known: `F ` and the digits of 256 bytes are 514, and a number has at most three digits. So a
-- program that keeps 515 of its characters answers it as if it had kept all. Assumes nothing.
use Prim.Native.Nat.{ℕ, ◌/◌, ◌<◌}
use mathlib.Core.Path.{◌≡◌, refl, sym, ◌∙◌}
use mathlib.Core.Bool.{Bool, true, false}
use mathlib.Core.List.{List, []}
use native.Mathlib.Omega.{arith}
use borrow.Author.Tests.{ne_eqb, ltb-true, ltb-false}
use lib.Dec.{ltb}
use lib.ListN.{length, take, drop, length-drop}
use lib.Seq.{length-take-le}
use Rattle.words.specs.Choice.{pick}
use Rattle.words.proofs.Choice.{never, either}
use Rattle.hexadecimal.specs.Hex.{readable}
use Rattle.hexadecimal.proofs.Readable.{too_many, odd}
use Rattle.device.specs.Work.{Device}
use Rattle.std.specs.Prelude.{None}
use Rattle.text.specs.Numbers.{number_in}
use Rattle.text.proofs.FourDigits.{long_number}
use Rattle.lines.specs.Turn.{Turn, unknown, framed, worked, read, opens, alone, turn}

-- 513 digits are odd, and more are too many
long_digits : (text : List ℕ) → 512 < length text → readable 256 text ≡ []
long_digits text h = by_room (ltb 256 (length text / 2)) refl
  where
    by_room : (large : Bool) → ltb 256 (length text / 2) ≡ large → readable 256 text ≡ []
    by_room true e = too_many 256 text (ltb-true 256 (length text / 2) e)
    by_room false e = odd 256 text (ltb-false 256 (length text / 2) e) (λ even. omega (arith, ltb-false 256 (length text / 2) e))

module _ (d : Device) (line : List ℕ) (long : 514 < length line) where
  not-alone : alone 80 line ≡ false
  unfolding alone pick
  not-alone = rw (ne_eqb (length line) 1 (λ e. omega arith))

  frame-unknown : framed d (readable 256 (drop 2 line)) ≡ unknown d
  unfolding framed pick
  frame-unknown = rw (long_digits (drop 2 line) (rw (length-drop 2 line) (omega arith)))

  number_none : number_in (drop 2 line) ≡ None
  number_none = long_number (drop 2 line) (rw (length-drop 2 line) (omega arith))

  work_unknown : worked d (number_in (drop 2 line)) ≡ unknown d
  unfolding worked pick
  work_unknown = rw number_none

  read-unknown : read d (number_in (drop 2 line)) ≡ unknown d
  unfolding read pick
  read-unknown = rw number_none

  pub too_long : turn d line ≡ unknown d
  unfolding turn
  too_long =
      either (λ (t : Turn). t ≡ unknown d) (alone 80 line) _ _ (λ e. absurd (never (sym not-alone ∙ e)))
      (λ e. either (λ (t : Turn). t ≡ unknown d) (opens 70 line) _ _ (λ e. frame-unknown)
      (λ e. either (λ (t : Turn). t ≡ unknown d) (opens 83 line) _ _ (λ e. work_unknown)
      (λ e. either (λ (t : Turn). t ≡ unknown d) (opens 82 line) _ _ (λ e. read-unknown) (λ e. refl))))

-- so its first 515 characters are answered as all of it
pub cut_alike : (d : Device) (line : List ℕ) → 514 < length line → turn d (take 515 line) ≡ turn d line
cut_alike d line long =
    let size : length (take 515 line) ≡ 515 = length-take-le 515 line (omega arith) in
    too_long d (take 515 line) (omega arith) ∙ sym (too_long d line long)
