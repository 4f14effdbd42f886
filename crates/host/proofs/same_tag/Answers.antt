-- `same_tag` meets its contract. Assumes nothing.
use native.Mathlib.Omega.{arith}
use Rattle.words.proofs.Fields.{field_part}
use Rattle.host.specs.Reading.{same_tag}
use Rattle.host.proofs.same_tag.Goals as goal

pub returns : goal.returns
unfolding same_tag
returns c =
    rw (← field_part 1 12 c.args.reply.now (omega (arith, c.told-reply))) c.same.ensures
