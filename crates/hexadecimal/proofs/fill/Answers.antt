-- `fill` meets its contract: the loop stores the next byte's digits behind the others. Assumes nothing.
use Prim.Native.Nat.{◌+◌, ◌-◌, ◌*◌}
use native.Mathlib.Omega.{arith}
use mathlib.Core.Path.{◌≡◌, refl}
use mathlib.Core.List.{append_assoc}
use lib.ListN.{take, drop}
use lib.Seq.{take_at, drop_at, drop-drop}
use Rattle.words.proofs.Spread.{spread_more, length_spread_take}
use Rattle.hexadecimal.specs.Hex.{digits_of, digits_of_all}
use Rattle.hexadecimal.proofs.fill.Goals as goal

pub loop-i-preserved : goal.loop-i-preserved
loop-i-preserved c =
    let bytes = c.args.bytes.now in
    let out = c.args.out.now in
    let i = c.loop-i.i in
    let before = digits_of_all (take i bytes) in
    let size = length_spread_take digits_of 2 (λ b. refl) bytes i (omega arith) in
    let two : 2 * i + 2 - 2 * i ≡ 2 = omega arith in
    let behind : 2 * i + 2 ≡ 2 * (i + 1) = omega arith in
    rw (
      c.copy_from_slice.ensures.after,
      c.digits.ensures,
      c.loop-i.invariant,
      take_at before (drop (2 * i) out) (2 * i) size,
      drop_at before (drop (2 * i) out) (2 * i) size,
      spread_more digits_of bytes i (omega arith),
      two,
      drop-drop 2 (2 * i) out,
      behind,
    )
    (simp append_assoc)
