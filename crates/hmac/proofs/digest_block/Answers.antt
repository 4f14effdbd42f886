-- `digest_block` meets its contract: the words of the digest's bytes are the words that it was made of. Assumes nothing.
use native.Mathlib.Omega.{arith}
use lib.Seq.{take_all}
use Rattle.words.specs.Table.{table}
use Rattle.words.proofs.Table.{table-take}
use Rattle.hmac.proofs.DigestBlock.{digest_words}
use Rattle.hmac.proofs.digest_block.Goals as goal

pub returns : goal.returns
unfolding table
returns c =
    let inner = c.args.inner in
    rw (digest_words inner (omega arith), ← take_all 8 inner (omega arith), ← table-take inner 8 (omega arith))
