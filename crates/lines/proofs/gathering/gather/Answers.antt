-- `gather` meets its contract: what stands before the first newline is kept. Assumes nothing.
use Rattle.lines.proofs.Kept.{newline_is}
use Rattle.lines.proofs.gathering.gather.Goals as goal

pub returns : goal.returns
returns c =
    let newline = newline_is c.args.bytes.now _ _ c.first_newline-newline.ensures c.unwrap_or-before.ensures in
    let kept = rw newline.1 at c.keep.ensures in
    record { newline = newline.0; kept_value = kept.value; line_after = kept.line_after }
