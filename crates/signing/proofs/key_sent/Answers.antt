-- `key_sent` meets its contract: a part of the frame is a field of it. Assumes nothing.
use native.Mathlib.Omega.{arith}
use mathlib.Core.Path.{◌∙◌}
use Rattle.words.proofs.Fields.{field_part}
use Rattle.signing.proofs.key_sent.Goals as goal

pub returns : goal.returns
returns c = c.copy_from_slice.ensures.after ∙ field_part 4 32 c.args.frame (omega arith)
