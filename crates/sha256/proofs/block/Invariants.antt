-- What the loop of `block` keeps: up to word t the array is the schedule. Assumes nothing.
use Rattle.std.proofs.Common.{◌≡◌, ◌-◌, ◌%◌, ◌≤◌}
use Rattle.sha256.specs.Block.{extended}
use Rattle.sha256.proofs.block.Given as goal

abbrev pub invariant-loop-t : goal.invariant-loop-t
invariant-loop-t l = (l.t ≤ 64) × (l.t % 8 ≡ 0) × (l.w ≡ extended l.initial.w 16 (l.t - 16))
