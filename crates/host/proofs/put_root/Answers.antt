-- `put_root` meets its contract: three runs at the front of the output. Assumes nothing.
use native.Mathlib.Omega.{arith}
use mathlib.Core.Path.{refl}
use lib.ListN.{take, drop, length-drop}
use lib.Seq.{length-take-le}
use Rattle.words.proofs.Fields.{field_part}
use Rattle.host.specs.Frames.{head, root_key_frame}
use Rattle.host.proofs.Front.{front_three}
use Rattle.host.proofs.put_root.Goals as goal

pub returns : goal.returns
unfolding root_key_frame
returns c =
    let a = c.args in
    let signed = c.signature-signed in
    let first = c.place in
    let second = c.place-2 in
    let third = c.place-3 in
    let tail = take 28 (drop 4 signed.result) in
    let sent = length-take-le 28 (drop 4 signed.result) (rw (length-drop 4 signed.result) (omega arith)) in
    rw (
      ← signed.ensures,
      ← field_part 4 28 signed.result (omega arith),
    )
    (front_three a.out.now (head 0 a.counter) a.key.now tail
    first.new.out second.new.out third.new.out 4 36 refl
    (omega (arith, c.told-key)) (omega (arith, c.requires, sent)) first.ensures second.ensures third.ensures)
