-- `store_step` meets its contract: the word that the plan names. Assumes nothing.
use Rattle.steps.proofs.Advancing.{last_step, another_step}
use Rattle.steps.proofs.store_step.Goals as goal

pub overflow_sub-i : goal.overflow_sub-i
overflow_sub-i c =
    rw (c.hash_steps.ensures, c.from.ensures) c.requires.1

pub returns-then-is_last : goal.returns-then-is_last
returns-then-is_last c =
    let command-of = c.from in
    let hash-steps = c.hash_steps in (
      last_step _ _ _ c.is_last.ensures c.if-is_last.true c.finished.ensures,
      rw (← command-of.ensures, ← hash-steps.ensures, ← c.store_of-store.ensures) c.put_store.ensures,
    )

pub returns : goal.returns
returns c =
    let command-of = c.from in
    let hash-steps = c.hash_steps in (
      another_step _ _ _ c.is_last.ensures c.if-is_last.false c.with_next.ensures,
      rw (← command-of.ensures, ← hash-steps.ensures, ← c.store_of-store.ensures) c.put_store.ensures,
    )
