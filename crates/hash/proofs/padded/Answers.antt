-- `padded` meets its contract: the stores make the last block. Assumes nothing.
use native.Mathlib.Omega.{arith}
use mathlib.Core.Path.{◌∙◌}
use Rattle.words.proofs.Inside.{put_inside}
use Rattle.hash.proofs.OneBlock.{last_block_lem}
use Rattle.hash.proofs.padded.Goals as goal

pub returns : goal.returns
returns c =
    let m = c.args.message.now in
    c.put.ensures
    ∙ put_inside c.place.new.out 60 (omega arith) _
    ∙ rw c.place.ensures (last_block_lem c.args.before m c.ranges.before.fits c.requires)
