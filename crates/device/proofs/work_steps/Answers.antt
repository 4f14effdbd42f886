-- `work_steps` meets its contract: after each step, the device is the one that the definition runs to, and the steps done
-- and left are those that were left at first. Assumes nothing.
use native.Mathlib.Omega.{arith}
use mathlib.Core.Path.{◌≡◌, refl, ap, sym, ◌∙◌}
use mathlib.Core.Bool.{true, false}
use Rattle.state.specs.Refusal.{is_running}
use Rattle.device.specs.Work.{stepped, run, steps_left}
use Rattle.device.specs.Calls.{device, answer, after_steps}
use Rattle.device.proofs.Left.{left_one, run_more, stopped, used_up}
use Rattle.device.proofs.work_steps.Goals as goal

pub loop-done-init : goal.loop-done-init
unfolding run
loop-done-init c = (refl, refl, omega arith, refl)

pub returns-then-not-is_running-clause-value : goal.returns-then-not-is_running-clause-value
unfolding after_steps
returns-then-not-is_running-clause-value c =
    let inv = c.loop-done.invariant in
    let idle : is_running c.loop-done.t ≡ false = sym c.is_running.ensures ∙ c.if-not-is_running.true in
    let all = stopped c.loop-done.done c.args.quota _ (device c.loop-done.image c.loop-done.t) inv.2 (omega arith) idle in
    rw (c.worked.ensures, ← all, ← inv.1)

pub returns-then-not-is_running-clause-image_after : goal.returns-then-not-is_running-clause-image_after
returns-then-not-is_running-clause-image_after c =
    let inv = c.loop-done.invariant in
    let idle : is_running c.loop-done.t ≡ false = sym c.is_running.ensures ∙ c.if-not-is_running.true in
    let all = stopped c.loop-done.done c.args.quota _ (device c.loop-done.image c.loop-done.t) inv.2 (omega arith) idle in
    rw (← all) inv.0

pub loop-done-preserved : goal.loop-done-preserved
unfolding stepped
loop-done-preserved c =
    let inv = c.loop-done.invariant in
    let d₀ = device c.args.image.now c.args.s in
    let d = device c.loop-done.image c.loop-done.t in
    let step = c.step-t in
    let runs : is_running c.loop-done.t ≡ true = sym c.is_running.ensures ∙ c.if-not-is_running.false in
    let now : device step.new.image step.result ≡ stepped d = rw (step.ensures.0, step.ensures.1) in
    let left = ap steps_left now in (
      rw (run_more c.loop-done.done d₀, ← inv.0, ← inv.1) step.ensures.1,
      rw (run_more c.loop-done.done d₀, ← inv.0, ← inv.1) step.ensures.0,
      omega (arith, inv.2, left, left_one d runs),
      step.auto.image ∙ inv.3,
    )

pub returns-clause-value : goal.returns-clause-value
unfolding after_steps
returns-clause-value c =
    let inv = c.loop-done.invariant in
    let all = used_up c.loop-done.done c.args.quota _ (device c.loop-done.image c.loop-done.t) inv.2 (omega arith) in
    let d = device c.args.image.now c.args.s in
    let quota = c.args.quota in
    let same : c.loop-done.done ≡ quota = omega arith in
    rw (c.worked-2.ensures, ← all) (ap (answer 0 quota) (inv.1 ∙ ap (λ n. (run n d).state) same))
