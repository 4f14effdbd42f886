-- `block` meets its contract: eight words more, on the schedule so far. Assumes nothing.
use Rattle.std.proofs.Common.{◌∙◌, arith}
use Rattle.sha256.proofs.Groups.{words_on}
use Rattle.sha256.proofs.block.Goals as goal

pub loop-t-preserved : goal.loop-t-preserved
loop-t-preserved c =
    (omega arith, omega arith, c.eight_words.ensures ∙ rw c.loop-t.invariant.2 (words_on _ c.loop-t.t 8 c.loop-t.auto.t))
