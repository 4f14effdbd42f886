-- What the loop of `all_rounds` keeps: after t rounds the working variables are those of the first t rounds. Assumes nothing.
use Rattle.std.proofs.Common.{◌≡◌, ◌%◌, ◌≤◌}
use Rattle.sha256.specs.Block.{rounds}
use Rattle.sha256.proofs.all_rounds.Given as goal

abbrev pub invariant-loop-t : goal.invariant-loop-t
invariant-loop-t l = (l.t ≤ 64) × (l.t % 8 ≡ 0) × (l.v ≡ rounds l.w 0 l.t l.initial.v)
