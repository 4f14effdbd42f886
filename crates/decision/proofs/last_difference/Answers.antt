-- `last_difference` meets its contract: the loop takes the words in turn, every one. Assumes nothing.
use Prim.Native.Nat.{◌+◌, ◌*◌, ◌<◌}
use mathlib.Core.Path.{◌≡◌, refl}
use native.Mathlib.Numerals.{add-one}
use native.Mathlib.Omega.{arith}
use Rattle.words.specs.Words.{words_of}
use Rattle.words.proofs.Inside.{get_inside}
use Rattle.words.proofs.Table.{get_or-table}
use Rattle.words.proofs.Fields.{field_word}
use Rattle.compare.specs.Compare.{differences}
use Rattle.decision.proofs.last_difference.Goals as goal

pub loop-i-init : goal.loop-i-init
unfolding differences
loop-i-init c = refl

pub loop-i-preserved : goal.loop-i-preserved
unfolding differences words_of
loop-i-preserved c =
    let a = c.args in
    let i = c.loop-i.i in
    let below : i < 7 = omega arith in
    rw (
      c.get.ensures,
      c.get-in-loop-i.ensures,
      get_inside a.digest (4 + 4 * i) (omega arith),
      get_inside a.frame (a.at + 4 + 4 * i) (omega arith),
      c.loop-i.invariant,
      add-one i,
      get_or-table _ 7 i 0 below,
      get_or-table _ 7 i 0 below,
      field_word 4 28 a.digest (4 * i) (omega arith),
      field_word (a.at + 4) 28 a.frame (4 * i) (omega arith),
    )

pub returns : goal.returns
returns c =
    let e : c.loop-i.i ≡ 7 = omega arith in
    rw e at c.loop-i.invariant
