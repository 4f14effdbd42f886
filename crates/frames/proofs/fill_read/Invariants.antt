-- What the loop of `fill_read` keeps: the output is filled from the front. Assumes nothing.
use Rattle.std.proofs.Common.{◌≡◌, ◌++◌, drop}
use Rattle.words.specs.Table.{table}
use Rattle.frames.specs.Reading.{read_byte}
use Rattle.frames.proofs.fill_read.Given as goal

abbrev pub invariant-loop-i : goal.invariant-loop-i
invariant-loop-i l = l.out ≡ table (read_byte l.busy l.status l.reply) l.i ++ drop l.i l.initial.out
