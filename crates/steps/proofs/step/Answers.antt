-- `step` meets its contract: a block or a store, by the step number. Assumes nothing.
use Rattle.std.proofs.Common.{◌≡◌, true, false, sym, ap, ◌∙◌, arith, le-ltb, lt-ltb}
use Rattle.words.specs.Choice.{pick}
use Rattle.jobs.specs.Jobs.{command_of, hash_steps}
use Rattle.state.specs.Refusal.{is_running}
use Rattle.jobs.proofs.Longest.{at_most, longest_job}
use Rattle.state.proofs.Running.{step_left}
use Rattle.steps.specs.Step.{is_hash, step_state, step_image}
use Rattle.steps.proofs.step.Goals as goal

pub returns-then-not-is_running : goal.returns-then-not-is_running
unfolding step_state step_image pick
returns-then-not-is_running c =
    let idle : is_running c.args.s ≡ false = sym c.is_running.ensures ∙ c.if-not-is_running.true in (rw idle, rw idle)

pub returns-then-s-hash_steps : goal.returns-then-s-hash_steps
unfolding step_state step_image pick
returns-then-s-hash_steps c =
    let runs : is_running c.args.s ≡ true = sym c.is_running.ensures ∙ c.if-not-is_running.false in
    let hash = lt-ltb _ _ c.if-s-hash_steps.true in
    let steps = c.hash_steps.ensures ∙ ap hash_steps c.from.ensures in
    (rw (runs, ← steps, hash) c.hash_step.ensures, rw (runs, ← steps, hash))

pub store_step-requires : goal.store_step-requires
store_step-requires c =
    let s = c.args.s in
    let runs : is_running s ≡ true = sym c.is_running.ensures ∙ c.if-not-is_running.false in (
      omega (arith, step_left s runs, at_most s.job.kind, longest_job),
      rw (← c.from.ensures, ← c.hash_steps.ensures) c.if-s-hash_steps.false,
    )

pub returns : goal.returns
unfolding step_state step_image pick
returns c =
    let job = c.args.s.job in
    let runs : is_running c.args.s ≡ true = sym c.is_running.ensures ∙ c.if-not-is_running.false in
    let steps = c.hash_steps.ensures ∙ ap hash_steps c.from.ensures in
    let store : is_hash job ≡ false = le-ltb job.step (hash_steps (command_of job.kind)) (rw (← steps) c.if-s-hash_steps.false) in
    (rw (runs, store) c.store_step.ensures.0, rw (runs, store) c.store_step.ensures.1)
