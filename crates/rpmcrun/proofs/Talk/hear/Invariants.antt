-- What the loop of `hear` keeps: what is left of the bytes comes to the same, fed to the conversation so far; and there is less of it
-- at each turn. Assumes nothing.
use Rattle.std.proofs.Common.{◌≡◌, length}
use Rattle.lines.specs.Feeding.{under_way, feed}
use Rattle.rpmcrun.proofs.Talk.hear.Given as goal

abbrev pub invariant-loop-rest : goal.invariant-loop-rest
invariant-loop-rest l =
    (feed l.rest (under_way l.self-inside.image l.state l.self-inside.line l.self-inside.kept)).after ≡ (feed l.bytes l.fn.self).after

abbrev pub decreases-loop-rest : goal.decreases-loop-rest
decreases-loop-rest l = length l.rest
