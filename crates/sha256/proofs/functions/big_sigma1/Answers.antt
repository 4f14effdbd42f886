-- `functions::big_sigma1` meets its contract: a rotation of an xor is the xor of the rotations. Assumes nothing.
use Rattle.std.proofs.Common.{arith}
use Rattle.sha256.proofs.Rotations.{shared_rotation}
use Rattle.sha256.proofs.functions.big_sigma1.Goals as goal

pub returns : goal.returns
returns c =
    rw (c.rotate_right-3.ensures, c.rotate_right-2.ensures, c.rotate_right.ensures)
    (shared_rotation 6 5 19 c.args.x (omega arith) (omega arith) c.ranges.x.fits)
