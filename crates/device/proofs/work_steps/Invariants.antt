-- What the loop of `work_steps` keeps. Assumes nothing.
use Rattle.std.proofs.Common.{◌≡◌, ◌+◌, length}
use Rattle.device.specs.Work.{run, steps_left}
use Rattle.device.specs.Calls.{device}
use Rattle.device.proofs.work_steps.Given as goal

abbrev pub invariant-loop-done : goal.invariant-loop-done
invariant-loop-done l = (l.image ≡ (run l.done (device l.initial.image l.initial.t)).image)
    × (l.t ≡ (run l.done (device l.initial.image l.initial.t)).state)
    × (l.done + steps_left (device l.image l.t) ≡ steps_left (device l.initial.image l.initial.t))
    × (length l.image ≡ length l.initial.image)
