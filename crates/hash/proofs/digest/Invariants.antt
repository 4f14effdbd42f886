-- What the loop of `digest` keeps: the words are stored from the front. Assumes nothing.
use Rattle.std.proofs.Common.{◌≡◌, ◌*◌, ◌++◌, length, take, drop}
use Rattle.words.specs.Words.{bytes_of_all}
use Rattle.hash.proofs.digest.Given as goal

abbrev pub invariant-loop-i : goal.invariant-loop-i
invariant-loop-i l = (length l.d ≡ 32) × (l.d ≡ bytes_of_all (take l.i l.fn.h) ++ drop (4 * l.i) l.initial.d)
