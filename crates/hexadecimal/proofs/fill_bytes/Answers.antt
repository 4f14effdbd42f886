-- `fill_bytes` meets its contract: the loop stores the next pair's byte behind the others. Assumes nothing.
use Prim.Native.Nat.{◌/◌}
use native.Mathlib.Omega.{arith}
use lib.ListN.{length}
use Rattle.words.proofs.Table.{table_more}
use Rattle.hexadecimal.specs.Hex.{byte_at}
use Rattle.hexadecimal.proofs.Pairs.{pair_byte}
use Rattle.hexadecimal.proofs.fill_bytes.Goals as goal

pub loop-i-preserved : goal.loop-i-preserved
loop-i-preserved c =
    let text = c.args.text.now in
    let i = c.loop-i.i in
    rw (c.byte_of.ensures, c.as_chunks.ensures.front, pair_byte (length text / 2) text i (omega arith), c.loop-i.invariant)
    (table_more (byte_at text) i c.args.out.now (omega arith))
