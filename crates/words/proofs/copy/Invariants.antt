-- What the loop of `copy` keeps: the buffer is filled from the front. Assumes nothing.
use Rattle.std.proofs.Common.{◌≡◌, ◌++◌, drop}
use Rattle.words.specs.Table.{field}
use Rattle.words.proofs.copy.Given as goal

abbrev pub invariant-loop-i : goal.invariant-loop-i
invariant-loop-i l = l.out ≡ field l.at l.i l.s ++ drop l.i l.initial.out
