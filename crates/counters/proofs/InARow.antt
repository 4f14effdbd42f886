-- Frames that run whole, some and then some more. Assumes nothing.
use Prim.Native.Nat.{ℕ}
use mathlib.Core.Path.{◌≡◌, refl, ap, ◌∙◌}
use mathlib.Core.Bool.{Bool, true, false}
use mathlib.Core.List.{List, [], ◌∷◌, ◌++◌}
use Rattle.words.specs.Choice.{pick}
use Rattle.rules.specs.Whole.{Outcome, whole}
use Rattle.counters.specs.Reordering.{belongs, all_whole, own_statuses}

pub whole_append : (fs gs : List (List ℕ)) (o : Outcome) → all_whole (fs ++ gs) o ≡ all_whole gs (all_whole fs o)
unfolding all_whole
whole_append [] gs o = refl
whole_append (frame ∷ fs) gs o = whole_append fs gs (whole o frame)

pick-append : (b : Bool) (status : ℕ) (s t : List ℕ) → pick b (status ∷ (s ++ t)) (s ++ t) ≡ pick b (status ∷ s) s ++ t
unfolding pick
pick-append true status s t = refl
pick-append false status s t = refl

pub statuses_append :
    (c : ℕ) (fs gs : List (List ℕ)) (o : Outcome) → own_statuses c (fs ++ gs) o ≡ own_statuses c fs o ++ own_statuses c gs (all_whole fs o)
unfolding all_whole own_statuses
statuses_append c [] gs o = refl
statuses_append c (frame ∷ fs) gs o =
    let status = (whole o frame).status in
    let s = own_statuses c fs (whole o frame) in
    let t = own_statuses c gs (all_whole fs (whole o frame)) in
    ap (λ (more : List ℕ). pick (belongs c frame) (status ∷ more) more) (statuses_append c fs gs (whole o frame))
    ∙ pick-append (belongs c frame) status s t
