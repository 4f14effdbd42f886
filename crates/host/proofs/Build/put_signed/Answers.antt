-- `put_signed` meets its contract: three runs at the front of the output. Assumes nothing.
use Prim.Native.Nat.{◌+◌}
use native.Mathlib.Omega.{arith}
use mathlib.Core.Path.{refl}
use Rattle.host.specs.Frames.{head}
use Rattle.host.proofs.Front.{front-signed}
use Rattle.host.proofs.Build.put_signed.Goals as goal

pub returns : goal.returns
returns g c =
    let a = c.args in
    let build = a.self in
    let first = c.place in
    let second = c.place-2 in
    let signed = c.signature-signed in
    let third = c.place-3 in
    let n = 4 + g.row.N in
    front-signed a.out.now build.key (head a.frame_type build.counter) build.bytes
    first.new.out second.new.out third.new.out signed.result 4 n refl (omega arith)
    (omega arith) (omega (arith, c.requires.1)) first.ensures second.ensures
    signed.ensures third.ensures
