-- The ten checks are those on arrival, and where none of these fails the last ones: the table is the one behind the other, and no row
-- has the number 0. Assumes nothing.
use Prim.Native.Nat.{ℕ}
use mathlib.Core.Path.{◌≡◌, refl, sym, ◌∙◌}
use mathlib.Core.List.{List}
use Rattle.words.specs.Choice.{pick, or_else}
use Rattle.words.proofs.Choice.{or_zero}
use Rattle.words.proofs.Rows.{first-append}
use Rattle.image.specs.Header.{count}
use Rattle.image.specs.Slot.{slot_of}
use Rattle.frames.specs.Layout.{counter_of}
use Rattle.checks.specs.Checks.{checks_of, arrival_status}
use Rattle.jobs.specs.Jobs.{command_of}
use Rattle.decision.specs.Decision.{last_checks_of, decision}
use Rattle.rules.specs.Whole.{Outcome, frame_kept, kind_in, value_in, key_in, signature, status_on_arrival, last_status, all_checks}

pub all_checks_lem :
    (o : Outcome) (frame : List ℕ) →
    all_checks o frame ≡ or_else (status_on_arrival o.image o.keys frame) (last_status (command_of (kind_in o frame)) o frame)
unfolding all_checks status_on_arrival last_status arrival_status decision pick
all_checks_lem o frame =
    first-append (checks_of frame (count o.image) (slot_of o.image (counter_of frame)) (key_in o frame).there)
    (last_checks_of (command_of (kind_in o frame)) (frame_kept frame) (signature (command_of (kind_in o frame)) o frame) (value_in o frame))
    refl

pub all_pass :
    (o : Outcome) (frame : List ℕ) → all_checks o frame ≡ 0 →
    (status_on_arrival o.image o.keys frame ≡ 0) × (last_status (command_of (kind_in o frame)) o frame ≡ 0)
all_pass o frame z = or_zero _ _ (sym (all_checks_lem o frame) ∙ z)
