-- `put_keys` meets its contract: the keys stand one behind the other. Assumes nothing.
use mathlib.Core.Path.{refl}
use Rattle.packed.proofs.Runs.{and_then}
use Rattle.packed.proofs.storing.put_keys.Goals as goal

pub returns : goal.returns
returns c =
    let one = rw c.session_key.ensures at c.put_key.ensures in
    let two = and_then one (rw c.session_key-2.ensures at c.put_key-2.ensures) refl in
    let three = and_then two (rw c.session_key-3.ensures at c.put_key-3.ensures) refl in
    and_then three (rw c.session_key-4.ensures at c.put_key-4.ensures) refl
