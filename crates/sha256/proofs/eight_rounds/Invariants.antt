-- What the loop of `eight_rounds` keeps: the working variables after the rounds that it did. Assumes nothing.
use Rattle.std.proofs.Common.{◌≡◌}
use Rattle.sha256.specs.Block.{rounds}
use Rattle.sha256.proofs.eight_rounds.Given as goal

abbrev pub invariant-loop-i : goal.invariant-loop-i
invariant-loop-i l = l.v ≡ rounds l.w l.t l.i l.initial.v
