-- `digest` meets its contract: the loop stores the words from the front. Assumes nothing.
use Prim.Native.Nat.{◌*◌}
use native.Mathlib.Omega.{arith}
use mathlib.Core.Path.{◌≡◌, refl, ◌∙◌}
use mathlib.Core.List.{append-nil}
use lib.Seq.{take_all}
use Rattle.words.specs.Table.{spread}
use Rattle.words.proofs.Filling.{words_more}
use Rattle.words.proofs.Inside.{put_inside}
use Rattle.hash.proofs.digest.Goals as goal

pub loop-i-init : goal.loop-i-init
unfolding spread
loop-i-init c = (refl, refl)

pub loop-i-preserved : goal.loop-i-preserved
loop-i-preserved c =
    let i = c.loop-i.i in
    (omega arith, c.put.ensures ∙ put_inside c.loop-i.d (4 * i) (omega arith) _ ∙ rw c.loop-i.invariant.1 (words_more c.args.h _ i (omega arith) (omega arith)))

pub returns : goal.returns
returns c =
    let e : c.loop-i.i ≡ 8 = omega arith in
    rw e at c.loop-i.invariant.1 ∙ rw (take_all 8 c.args.h (omega arith)) (append-nil _)
