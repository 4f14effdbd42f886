-- What holds along an order of calls, of the ledger and the device: the device rests and is as if, or a job works on what its frame
-- found. Assumes nothing.
use Prim.Native.Nat.{ℕ, ◌<◌}
use mathlib.Core.Path.{◌≡◌, refl}
use mathlib.Core.Bool.{false}
use mathlib.Core.List.{List}
use Rattle.image.specs.Refusal.{refusal}
use Rattle.image.proofs.Laid.{SameHeader, same_header}
use Rattle.jobs.specs.Jobs.{length_of}
use Rattle.frames.specs.Layout.{counter_of}
use Rattle.arrival.specs.Arrival.{arrived}
use Rattle.rules.specs.Whole.{Outcome, frame_kept, status_on_arrival, kind_in}
use Rattle.device.specs.Work.{Device, run}
use Rattle.device.specs.Calls.{device, outcome, is_busy}
use Rattle.progress.specs.Steps.{steps_of}
use Rattle.progress.proofs.Jobs.{At}
use Rattle.progress.proofs.Enabled.{enabled_as}
use Rattle.counters.specs.Compared.{Alike}
use Rattle.rules.specs.Formed.{Formed}
use Rattle.orders.specs.Ledger.{Pending, None, Doing, Ledger, entry}

-- no frame is under way: the device is as if
pub record Resting (o : Outcome) (d : Device) : Type 0 where
  pub formed : Formed d.image d.state.keys
  pub none : is_busy d ≡ false
  pub header : SameHeader d.image o.image
  pub alike : Alike (outcome d) o

-- a device that has just taken a frame
abbrev pub started : Device → List ℕ → Device
started d frame = device d.image (arrived d.image d.state frame)

-- a frame is under way: the device that it found was as if, and the steps since then are those of its job
pub record Working (frame : List ℕ) (done : ℕ) (o : Outcome) (d : Device) : Type 0 where
  pub found : Device
  pub formed : Formed found.image found.state.keys
  pub none : is_busy found ≡ false
  pub header : SameHeader found.image o.image
  pub alike : Alike (outcome found) o
  pub passed : status_on_arrival found.image found.state.keys frame ≡ 0
  pub now : d ≡ enabled_as d.state.enabled (run done (started found frame))
  pub at : At (kind_in (outcome found) frame) (counter_of frame) (frame_kept frame) found.image done d.image d.state
  pub left : done < length_of (kind_in (outcome found) frame)

-- as the ledger has it
abbrev pub AsPending : Pending → Outcome → Device → Type 0
AsPending None o d = Resting o d
AsPending (Doing frame done) o d = Working frame done o d × (done < steps_of o frame)

-- the image as if is accepted, reset is enabled or not, and the device rests or works, as the ledger says
pub record Sound (l : Ledger) (d : Device) : Type 0 where
  pub accepted : refusal l.as_if.image ≡ 0
  pub enabled : d.state.enabled ≡ l.enabled
  pub state : AsPending l.pending l.as_if d

-- an idle device is as if it had run nothing
pub rest_sound :
    (d : Device) → refusal d.image ≡ 0 → Formed d.image d.state.keys → is_busy d ≡ false →
    Sound (entry (outcome d) None d.state.enabled) d
rest_sound d accepted formed none =
    record {
      accepted = accepted;
      enabled = refl;
      state =
          record {
            formed = formed;
            none = none;
            header = same_header d.image;
            alike = record { status = refl; reply = refl; keys = refl; counters = λ c below. refl };
          };
    }
