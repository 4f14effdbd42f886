-- What the loop of `fill` keeps: the digits of the bytes so far, and the buffer as it was behind them. Assumes nothing.
use Prim.Native.Nat.{◌*◌}
use mathlib.Core.Path.{◌≡◌}
use mathlib.Core.List.{◌++◌}
use lib.ListN.{take, drop}
use Rattle.hexadecimal.specs.Hex.{digits_of_all}
use Rattle.hexadecimal.proofs.fill.Given as goal

abbrev pub invariant-loop-i : goal.invariant-loop-i
invariant-loop-i l = l.out ≡ digits_of_all (take l.i l.bytes) ++ drop (2 * l.i) l.initial.out
