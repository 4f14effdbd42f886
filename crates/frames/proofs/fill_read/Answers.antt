-- `fill_read` meets its contract: the loop fills the output from the front. Assumes nothing.
use native.Mathlib.Omega.{arith}
use mathlib.Core.Path.{◌≡◌, refl, ◌∙◌}
use lib.ListN.{length}
use Rattle.words.specs.Table.{table}
use Rattle.words.proofs.Table.{table_more, table-all}
use Rattle.frames.specs.Reading.{read_output}
use Rattle.frames.proofs.fill_read.Goals as goal

pub loop-i-init : goal.loop-i-init
unfolding table
loop-i-init c = refl

pub loop-i-preserved : goal.loop-i-preserved
loop-i-preserved c = rw (c.read_byte.ensures, c.loop-i.invariant) (table_more _ c.loop-i.i c.args.out.now (omega arith))

pub returns : goal.returns
unfolding read_output
returns c =
    let out = c.args.out.now in
    let e : c.loop-i.i ≡ length out = omega arith in
    rw e at c.loop-i.invariant ∙ table-all _ (length out) out refl
