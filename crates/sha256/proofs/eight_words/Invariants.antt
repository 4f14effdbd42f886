-- What the loop of `eight_words` keeps: the words that it made. Assumes nothing.
use Rattle.std.proofs.Common.{◌≡◌}
use Rattle.sha256.specs.Block.{extended}
use Rattle.sha256.proofs.eight_words.Given as goal

abbrev pub invariant-loop-i : goal.invariant-loop-i
invariant-loop-i l = l.w ≡ extended l.initial.w l.t l.i
