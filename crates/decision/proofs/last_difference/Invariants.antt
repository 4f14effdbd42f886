-- What the loop of `last_difference` keeps: the differences of the words before. Assumes nothing.
use Rattle.std.proofs.Common.{◌≡◌, ◌+◌}
use Rattle.words.specs.Words.{words_of}
use Rattle.words.specs.Table.{field}
use Rattle.compare.specs.Compare.{differences}
use Rattle.decision.proofs.last_difference.Given as goal

abbrev pub invariant-loop-i : goal.invariant-loop-i
invariant-loop-i l = l.d ≡ differences l.i (words_of 7 (field 4 28 l.digest)) (words_of 7 (field (l.at + 4) 28 l.frame))
