-- `copy` meets its contract: the loop fills the buffer from the front. Assumes nothing.
use Prim.Native.Nat.{◌+◌}
use native.Mathlib.Omega.{arith}
use mathlib.Core.Path.{◌≡◌, refl, ◌∙◌}
use lib.ListN.{length}
use Rattle.words.specs.Table.{table}
use Rattle.words.proofs.Table.{table_more, table-all}
use Rattle.words.proofs.Fields.{byte_capped}
use Rattle.words.proofs.copy.Goals as goal

pub loop-i-init : goal.loop-i-init
unfolding table
loop-i-init c = refl

pub loop-i-preserved : goal.loop-i-preserved
loop-i-preserved c =
    let a = c.args in
    rw (c.byte.ensures, byte_capped a.s.now (a.at + c.loop-i.i) _ _ (omega arith) c.saturating_add.ensures, c.loop-i.invariant)
    (table_more _ c.loop-i.i _ (omega arith))

pub returns : goal.returns
returns c =
    let out = c.args.out.now in
    let e : c.loop-i.i ≡ length out = omega arith in
    rw e at c.loop-i.invariant ∙ table-all _ (length out) out refl
