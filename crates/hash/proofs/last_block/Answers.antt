-- `last_block` meets its contract: the message, or its first 55 bytes, padded and read as words. Assumes nothing.
use native.Mathlib.Omega.{arith}
use mathlib.Core.Path.{sym}
use lib.Seq.{take_all, length-take-le}
use Rattle.hash.proofs.last_block.Goals as goal

pub returns-then-message-le55 : goal.returns-then-message-le55
returns-then-message-le55 c =
    rw (
      c.words_of.ensures,
      c.padded.ensures,
      take_all 55 c.args.message.now c.if-message-le55.true,
    )

pub slice_bounds-padded-end : goal.slice_bounds-padded-end
slice_bounds-padded-end c = sym (length-take-le 55 c.args.message.now (omega arith))

pub padded-requires-2 : goal.padded-requires-2
padded-requires-2 c = rw (length-take-le 55 c.args.message.now (omega arith)) (omega arith)

pub returns : goal.returns
returns c = rw (c.words_of-2.ensures, c.padded-2.ensures)
