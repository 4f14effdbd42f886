-- What the loop of `words_at` keeps: the array is filled from the front. Assumes nothing.
use Rattle.std.proofs.Common.{◌≡◌, ◌++◌, drop}
use Rattle.words.specs.Words.{words_at}
use Rattle.words.proofs.words_at.Given as goal

abbrev pub invariant-loop-i : goal.invariant-loop-i
invariant-loop-i g l = l.w-items ≡ words_at l.at l.i l.s ++ drop l.i l.initial.w-items
