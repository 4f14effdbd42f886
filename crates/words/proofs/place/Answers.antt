-- `place` meets its contract: what is copied stands between what was in front of it and what was behind. Assumes nothing.
use native.Mathlib.Omega.{arith}
use Rattle.words.proofs.Inside.{place_split}
use Rattle.words.proofs.place.Goals as goal

pub returns-then-bytes-out : goal.returns-then-bytes-out
returns-then-bytes-out c =
    let a = c.args in
    rw c.copy_from_slice.ensures.after (place_split a.out.now a.at _ a.bytes.now (omega arith) (omega arith))
