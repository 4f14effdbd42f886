-- `key_block` meets its contract: the loop xors the key into a buffer of the pad. Assumes nothing.
use native.Mathlib.Omega.{arith}
use mathlib.Core.Path.{◌≡◌, ap, ◌∙◌}
use lib.Seq.{take_all}
use Rattle.words.specs.Words.{words_of}
use Rattle.hmac.proofs.KeyBlock.{xor_more, key_xored}
use Rattle.hmac.proofs.key_block.Goals as goal

pub loop-i-preserved : goal.loop-i-preserved
loop-i-preserved c =
    rw c.loop-i.invariant (xor_more _ c.args.key _ c.loop-i.i (omega arith) (omega arith))

pub returns : goal.returns
returns c =
    let key = c.args.key in
    let e : c.loop-i.i ≡ 32 = omega arith in
    c.words_of.ensures ∙ ap (words_of 16) (rw e at c.loop-i.invariant ∙ rw (take_all 32 key (omega arith)) (key_xored _ key (omega arith)))
