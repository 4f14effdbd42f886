-- Demand 3 of the scope, at every moment: what the ledger says of a device. Assumes nothing.
use Rattle.std.specs.Prelude.{ℕ, ◌≡◌, false, List}
use Rattle.frames.specs.Layout.{counter_of}
use Rattle.state.specs.declared.Job.{Job}
use Rattle.rules.specs.Whole.{Outcome, frame_kept, kind_in}
use Rattle.device.specs.Work.{Device}
use Rattle.device.specs.Calls.{outcome, is_busy}
use Rattle.counters.specs.Compared.{Alike}
use Rattle.orders.specs.Ledger.{Doing, Ledger, is_doing}

-- a job is that of the frame under way: of the frame's kind, for its counter, with its bytes kept and so many of its steps done
pub record JobOf (frame : List ℕ) (done : ℕ) (o : Outcome) (job : Job) : Type 0 where
  pub kind : job.kind ≡ kind_in o frame
  pub counter : job.counter ≡ counter_of frame
  pub kept : job.frame ≡ frame_kept frame
  pub step : job.step ≡ done

-- busy while a frame is under way, and then its job is there; reset enabled or not; and once idle, what it would be
pub record InStep (l : Ledger) (d : Device) : Type 0 where
  pub busy : is_busy d ≡ is_doing l.pending
  pub enabled : d.state.enabled ≡ l.enabled
  pub doing : (frame : List ℕ) (done : ℕ) → l.pending ≡ Doing frame done → JobOf frame done l.as_if d.state.job
  pub idle : is_busy d ≡ false → Alike (outcome d) l.as_if
