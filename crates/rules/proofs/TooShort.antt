-- A frame of two bytes or fewer is refused: its type is unknown, or its length is not that of its type, which is 40 bytes or more.
-- Assumes nothing.
use Prim.Native.Nat.{ℕ, ◌≤◌}
use mathlib.Core.Path.{◌≡◌, refl}
use mathlib.Core.Bool.{Bool, true, false}
use mathlib.Core.List.{List}
use native.Mathlib.Omega.{arith}
use borrow.Author.Tests.{ltb-false, ne_eqb}
use lib.Dec.{ltb}
use lib.ListN.{length}
use Rattle.words.specs.Choice.{pick}
use Rattle.words.specs.Rows.{first_of}
use Rattle.frames.specs.Layout.{layout_of, type_of}
use Rattle.frames.proofs.Layouts.{long_frames}
use Rattle.rules.specs.Whole.{Outcome, all_checks, failed_with, whole}

-- check 1 or check 2 fails
short_by : (o : Outcome) (frame : List ℕ) → length frame ≤ 2 → (t : Bool) → ltb 3 (type_of frame) ≡ t → all_checks o frame ≡ 0x04
unfolding all_checks first_of pick
short_by o frame h true e = rw e
short_by o frame h false e =
    let long = long_frames (type_of frame) (ltb-false 3 (type_of frame) e) in
    rw (e, ne_eqb (length frame) (layout_of (type_of frame)).size (λ same. omega (arith, long, same)))

-- so a frame that belongs to no counter fails, and changes no counter and no key
pub two_bytes_fail : (o : Outcome) (frame : List ℕ) → length frame ≤ 2 → whole o frame ≡ failed_with 0x04 o
unfolding whole pick
two_bytes_fail o frame h = rw (short_by o frame h _ refl)
