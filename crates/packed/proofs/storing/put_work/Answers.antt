-- `put_work` meets its contract: the parts stand one behind the other. Assumes nothing.
use mathlib.Core.Path.{refl}
use Rattle.packed.proofs.Runs.{and_then}
use Rattle.packed.proofs.storing.put_work.Goals as goal

pub returns : goal.returns
returns c =
    let words = and_then (rw c.digest.ensures at c.put.ensures) (rw c.digest-2.ensures at c.put-2.ensures) refl in
    and_then (and_then (and_then words c.put-3.ensures refl) c.put-4.ensures refl) c.put-5.ensures refl
