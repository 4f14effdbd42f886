-- `words_at` meets its contract: the loop fills the array from the front. Assumes nothing.
use Prim.Native.Nat.{ℕ, ◌+◌, ◌*◌}
use native.Mathlib.Omega.{arith}
use mathlib.Core.Path.{◌≡◌, refl, ◌∙◌}
use Rattle.std.proofs.lemmas.List.{length-replicate}
use Rattle.words.specs.Table.{table}
use Rattle.words.proofs.Table.{table_more, table-all}
use Rattle.words.proofs.Fields.{word_capped}
use Rattle.words.proofs.words_at.Goals as goal

pub loop-i-init : goal.loop-i-init
unfolding table
loop-i-init g c = refl

pub loop-i-preserved : goal.loop-i-preserved
loop-i-preserved g c =
    let a = c.args in
    rw (c.get.ensures, word_capped a.s.now (a.at + 4 * c.loop-i.i) _ _ (omega arith) c.saturating_add.ensures, c.loop-i.invariant)
    (table_more _ c.loop-i.i _ (omega (arith, length-replicate {A = ℕ} g.row.N 0)))

pub returns : goal.returns
returns g c =
    let all = length-replicate {A = ℕ} g.row.N 0 in
    let e : c.loop-i.i ≡ g.row.N = omega (arith, all) in
    rw e at c.loop-i.invariant ∙ table-all _ g.row.N _ all
