-- What the loop of `fill_bytes` keeps: the bytes so far, and the buffer as it was behind them. Assumes nothing.
use mathlib.Core.Path.{◌≡◌}
use mathlib.Core.List.{◌++◌}
use lib.ListN.{drop}
use Rattle.words.specs.Table.{table}
use Rattle.hexadecimal.specs.Hex.{byte_at}
use Rattle.hexadecimal.proofs.fill_bytes.Given as goal

abbrev pub invariant-loop-i : goal.invariant-loop-i
invariant-loop-i l = l.out ≡ table (byte_at l.text) l.i ++ drop l.i l.initial.out
