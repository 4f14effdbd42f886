-- `decided` meets its contract: the job goes on only where no check fails. Assumes nothing.
use Rattle.std.proofs.Common.{ap}
use Rattle.checks.specs.Failures.{status_of}
use Rattle.steps.specs.Deciding.{with_kept}
use Rattle.steps.proofs.Advancing.{last_step, another_step, passed_on}
use Rattle.steps.proofs.decided.Goals as goal

pub is_last-requires : goal.is_last-requires
unfolding with_kept
is_last-requires c =
    rw c.with_kept-t.ensures c.requires

pub returns-then-is_last : goal.returns-then-is_last
returns-then-is_last c =
    passed_on _ c.with_kept-t.result _ _ _ _ _ c.decision_of.ensures (ap status_of c.in_default.is)
    c.from-2.ensures c.kept_after-kept.ensures c.with_kept-t.ensures
    (last_step c.with_kept-t.result _ _ c.is_last.ensures c.if-is_last.true c.finished.ensures)

pub with_next-requires : goal.with_next-requires
unfolding with_kept
with_next-requires c =
    rw c.with_kept-t.ensures c.requires

pub returns : goal.returns
returns c =
    passed_on _ c.with_kept-t.result _ _ _ _ _ c.decision_of.ensures (ap status_of c.in_default.is)
    c.from-2.ensures c.kept_after-kept.ensures c.with_kept-t.ensures
    (another_step c.with_kept-t.result _ _ c.is_last.ensures c.if-is_last.false c.with_next.ensures)
