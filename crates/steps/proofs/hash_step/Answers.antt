-- `hash_step` meets its contract: the checks in the last step of the signature check. Assumes nothing.
use Rattle.std.proofs.Common.{◌+◌, eq-eqb}
use Rattle.words.specs.Choice.{pick}
use Rattle.signing.specs.Hashed.{with_block, hashed}
use Rattle.steps.specs.Deciding.{hash_step}
use Rattle.steps.proofs.Advancing.{last_step, another_step, hashed_on}
use Rattle.steps.proofs.hash_step.Goals as goal

pub decided-requires : goal.decided-requires
unfolding hashed with_block
decided-requires c =
    let hashed-call = c.hashed-t in
    rw hashed-call.ensures c.requires

pub returns-then-next-signature_steps : goal.returns-then-next-signature_steps
unfolding hash_step pick
returns-then-next-signature_steps c =
    let a = c.args in
    let hashed-call = c.hashed-t in
    let command-of = c.from in
    let last = c.signature_steps in
    let job = a.s.job in
    rw (
      ← hashed-call.ensures,
      ← c.slot_of-slot.ensures,
      ← command-of.ensures,
      ← last.ensures,
      eq-eqb (job.step + 1) last.result c.if-next-signature_steps.true,
    )
    c.decided.ensures

pub is_last-requires : goal.is_last-requires
unfolding hashed with_block
is_last-requires c =
    let hashed-call = c.hashed-t in
    rw hashed-call.ensures c.requires

pub returns-then-is_last : goal.returns-then-is_last
returns-then-is_last c =
    let t = c.hashed-t in
    hashed_on _ _ t.result _ _ _ t.ensures c.from.ensures c.signature_steps.ensures
    c.if-next-signature_steps.false (last_step t.result _ _ c.is_last.ensures c.if-is_last.true c.finished.ensures)

pub with_next-requires : goal.with_next-requires
unfolding hashed with_block
with_next-requires c =
    let hashed-call = c.hashed-t in
    rw hashed-call.ensures c.requires

pub returns : goal.returns
returns c =
    let t = c.hashed-t in
    hashed_on _ _ t.result _ _ _ t.ensures c.from.ensures c.signature_steps.ensures
    c.if-next-signature_steps.false (another_step t.result _ _ c.is_last.ensures c.if-is_last.false c.with_next.ensures)
