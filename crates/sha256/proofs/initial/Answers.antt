-- `initial` meets its contract: the code's table is the standard's. Assumes nothing.
use Rattle.std.proofs.Common.{refl}
use Rattle.sha256.specs.Constants.{H⁰}
use Rattle.sha256.proofs.initial.Goals as goal

pub returns : goal.returns
unfolding H⁰
returns c = refl
