-- What the loop of `first_words` keeps: the words that it copied, then the array as it was. Assumes nothing.
use Rattle.std.proofs.Common.{◌≡◌, ◌++◌, take, drop}
use Rattle.sha256.proofs.first_words.Given as goal

abbrev pub invariant-loop-t : goal.invariant-loop-t
invariant-loop-t l = (l.w ≡ take l.t l.m ++ drop l.t l.initial.w)
