-- A job after its check: carried out where no check fails, and else ended with that check's status. Assumes nothing.
use Prim.Native.Nat.{ℕ}
use mathlib.Core.Path.{◌≡◌, refl}
use mathlib.Core.Bool.{Bool, true, false}
use mathlib.Core.List.{List}
use lib.Dec.{eqb}
use Rattle.words.specs.Choice.{pick}
use Rattle.state.specs.declared.State.{State}
use Rattle.state.specs.Parts.{posted}
use Rattle.steps.specs.Deciding.{decision_of, decided}
use Rattle.steps.proofs.AfterCheck.{passed, decided_good, decided_bad}
use Rattle.device.specs.Work.{run}
use Rattle.device.specs.Calls.{device, outcome}
use Rattle.progress.proofs.Runs.{run-posted}
use Rattle.rules.specs.Whole.{Outcome}

ended_by :
    (n : ℕ) (image : List ℕ) (s : State) (value v : ℕ) (good : Outcome) → decision_of s value ≡ v →
    (eqb v 0 ≡ true → outcome (run n (device image (passed s value))) ≡ good) → (b : Bool) → eqb v 0 ≡ b →
    outcome (run n (device image (decided s value))) ≡ pick b good (outcome (device image (posted s v)))
unfolding pick
ended_by n image s value v good e f true b = rw (decided_good s value v e b) (f b)
ended_by n image s value v good e f false b = rw (decided_bad s value v e b, run-posted n image s v)

pub ended :
    (n : ℕ) (image : List ℕ) (s : State) (value v : ℕ) (good : Outcome) → decision_of s value ≡ v →
    (eqb v 0 ≡ true → outcome (run n (device image (passed s value))) ≡ good) →
    outcome (run n (device image (decided s value))) ≡ pick (eqb v 0) good (outcome (device image (posted s v)))
ended n image s value v good e f = ended_by n image s value v good e f _ refl
