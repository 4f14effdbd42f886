-- Demand 3 of the scope, second half: command frames that run whole, and which counter each belongs to. Assumes nothing.
use Rattle.std.specs.Prelude.{ℕ, Bool, false, List, [], ◌∷◌, ltb, eqb, length}
use Rattle.words.specs.Choice.{pick}
use Rattle.frames.specs.Layout.{counter_of}
use Rattle.rules.specs.Whole.{Outcome, whole}

-- a frame belongs to the counter that it names; a two-byte one belongs to no counter
unfoldable pub belongs : ℕ → List ℕ → Bool
belongs c frame = pick (ltb 2 (length frame)) (eqb (counter_of frame) c) false

-- a counter's own frames, in their own order
unfoldable pub own_frames : ℕ → List (List ℕ) → List (List ℕ)
own_frames c [] = []
own_frames c (frame ∷ more) = pick (belongs c frame) (frame ∷ own_frames c more) (own_frames c more)

-- frames run whole, one after the other, with no reset or cut between
unfoldable pub all_whole : List (List ℕ) → Outcome → Outcome
all_whole [] o = o
all_whole (frame ∷ more) o = all_whole more (whole o frame)

-- the final status of each of a counter's own frames
unfoldable pub own_statuses : ℕ → List (List ℕ) → Outcome → List ℕ
own_statuses c [] o = []
own_statuses c (frame ∷ more) o =
    pick (belongs c frame) ((whole o frame).status ∷ own_statuses c more (whole o frame))
    (own_statuses c more (whole o frame))
