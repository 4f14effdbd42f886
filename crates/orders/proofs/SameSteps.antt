-- A frame takes the same steps on two devices that are the same to it. Assumes nothing.
use Prim.Native.Nat.{ℕ}
use mathlib.Core.Path.{◌≡◌, refl}
use mathlib.Core.Bool.{Bool, true, false}
use mathlib.Core.List.{List}
use borrow.Author.Tests.{eqb-true}
use lib.Dec.{eqb}
use Rattle.words.specs.Choice.{pick}
use Rattle.rules.specs.Whole.{Outcome, status_on_arrival}
use Rattle.progress.specs.Steps.{steps_of}
use Rattle.counters.proofs.Own.{SameTo, arrival_same, kind_same, last_same}

module _ (frame : List ℕ) (d e : Outcome) (same : SameTo frame d e) where
  steps_by : (b : Bool) → eqb (status_on_arrival d.image d.keys frame) 0 ≡ b → steps_of d frame ≡ steps_of e frame
  unfolding steps_of pick
  steps_by true p =
      let passed = eqb-true (status_on_arrival d.image d.keys frame) 0 p in
      rw (← arrival_same frame d e same, p, last_same frame d e same passed, kind_same frame d e same passed)
  steps_by false p = rw (← arrival_same frame d e same, p)

  pub steps_same : steps_of d frame ≡ steps_of e frame
  steps_same = steps_by _ refl
