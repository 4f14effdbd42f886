-- `difference` meets its contract: what it gathers are the differences of the pairs. Assumes nothing.
use Rattle.std.proofs.Common.{rules, ◌∙◌, tests}
use Rattle.std.proofs.lemmas.Iterator.{YieldsList-from_slice, YieldsList-from_zip}
use Rattle.std.proofs.lemmas.Iterator.Consumers.{fold_from_yields_List}
use Rattle.compare.proofs.Gathered.{more, gathered}
use Rattle.compare.proofs.difference.Goals as goal

pub returns : goal.returns
returns c =
    fold_from_yields_List _ more 0 c.fold.result c.fold.ensures.ran (YieldsList-from_zip (YieldsList-from_slice c.args.a.now cc) (YieldsList-from_slice c.args.b.now cc)) (λ a x b q k. search (rules, tests))
    ∙ gathered c.args.a.now c.args.b.now c.requires
