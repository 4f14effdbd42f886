-- A command frame arrives: it starts a job where checks 1 to 7 pass, and else ends with the status of the one that fails. By the test
-- that `arrived` makes. Assumes nothing.
use Prim.Native.Nat.{ℕ}
use mathlib.Core.Path.{◌≡◌}
use mathlib.Core.Bool.{true, false}
use mathlib.Core.List.{List}
use lib.Dec.{eqb}
use Rattle.words.specs.Choice.{pick}
use Rattle.state.specs.declared.State.{State}
use Rattle.arrival.specs.Arrival.{job_of, taken, arrived}
use Rattle.rules.specs.Whole.{status_on_arrival}

pub arrived_fails :
    (image : List ℕ) (s : State) (frame : List ℕ) → eqb (status_on_arrival image s.keys frame) 0 ≡ false →
    arrived image s frame ≡ taken s (status_on_arrival image s.keys frame) s.job
unfolding arrived pick
arrived_fails image s frame e = rw e

pub arrived_starts :
    (image : List ℕ) (s : State) (frame : List ℕ) → eqb (status_on_arrival image s.keys frame) 0 ≡ true →
    arrived image s frame ≡ taken s 0x01 (job_of image frame)
unfolding arrived pick
arrived_starts image s frame e = rw e
