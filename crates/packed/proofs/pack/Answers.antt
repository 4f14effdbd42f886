-- `pack` meets its contract: the parts stand one behind the other, and are the whole buffer. Assumes nothing.
use mathlib.Core.Path.{refl}
use Rattle.packed.specs.Packed.{packed}
use Rattle.packed.proofs.Runs.{and_then, stored-all}
use Rattle.packed.proofs.pack.Goals as goal

pub returns : goal.returns
unfolding packed
returns c =
    let two = and_then c.put_head.ensures c.put.ensures refl in
    let three = and_then two c.put_keys.ensures refl in
    stored-all (and_then three c.put_work.ensures refl) c.told-out
