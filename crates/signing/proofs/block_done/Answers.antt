-- `block_done` meets its contract: a part of the frame is a field of it. Assumes nothing.
use native.Mathlib.Omega.{arith}
use mathlib.Core.Path.{◌≡◌}
use Rattle.words.specs.Choice.{pick}
use Rattle.words.proofs.Fields.{field_part}
use Rattle.signing.specs.Signing.{key_of}
use Rattle.signing.specs.Hashed.{block_done}
use Rattle.signing.proofs.block_done.Goals as goal

pub returns-in-WriteRootKey : goal.returns-in-WriteRootKey
unfolding block_done
returns-in-WriteRootKey c =
    let a = c.args in
    let key : c.key_of-key.result ≡ key_of a.command a.s = c.key_of-key.ensures in
    rw (← key, c.in-WriteRootKey.is, ← c.quarter_of-quarter.ensures, ← field_part 0 4 a.s.job.frame (omega arith)) c.after.ensures

pub returns-in-UpdateSessionKey : goal.returns-in-UpdateSessionKey
unfolding block_done pick
returns-in-UpdateSessionKey c = grind (arith, field_part 4 4 c.args.s.job.frame (omega arith))

pub returns-in-RequestCounter : goal.returns-in-RequestCounter
unfolding block_done pick
returns-in-RequestCounter c = grind (arith, field_part 0 16 c.args.s.job.frame (omega arith))

pub returns-in-UpdateSessionKey-2 : goal.returns-in-UpdateSessionKey-2
unfolding block_done pick
returns-in-UpdateSessionKey-2 c = grind (arith, field_part 0 8 c.args.s.job.frame (omega arith))
