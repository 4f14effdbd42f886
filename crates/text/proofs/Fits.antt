-- The line of a read that fits is the read's line. Assumes nothing.
use Prim.Native.Nat.{ℕ, ◌≤◌}
use mathlib.Core.Path.{◌≡◌}
use mathlib.Core.List.{List}
use borrow.Author.Tests.{le-ltb}
use lib.ListN.{length}
use Rattle.words.specs.Choice.{pick}
use Rattle.text.specs.Printing.{read_line, fitting_read_line}

pub read_line_fits : (number : ℕ) (bytes : List ℕ) → length bytes ≤ 256 → fitting_read_line number bytes ≡ read_line number bytes
unfolding fitting_read_line pick
read_line_fits number bytes h = rw (le-ltb 256 (length bytes) h)
