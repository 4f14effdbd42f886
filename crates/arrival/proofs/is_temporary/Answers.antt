-- `is_temporary` meets its contract. Assumes nothing.
use native.Mathlib.Omega.{arith}
use Rattle.words.proofs.Fields.{field_part}
use Rattle.rules.specs.Whole.{is_temporary}
use Rattle.arrival.proofs.is_temporary.Goals as goal

pub returns : goal.returns
unfolding is_temporary
returns c =
    let a = c.args in
    rw (← field_part 4 32 a.frame (omega arith)) c.same.ensures
