-- What is never touched: header, gap and tail, bytes 12 to 15 of a slot, bad slots, and the slots of counters that no frame is for.
-- Assumes nothing.
use Rattle.std.specs.Prelude.{ℕ, ◌<◌, ◌≡◌, ◌⊎◌, true, false, List, []}
use Rattle.image.specs.Header.{count}
use Rattle.image.specs.Slot.{slot_of, is_bad}
use Rattle.frames.specs.Layout.{counter_of}
use Rattle.device.specs.Calls.{Call, Work}
use Rattle.progress.specs.Spared.{Spared}
use Rattle.counters.specs.Reordering.{own_frames}
use Rattle.orders.specs.Ledger.{Doing, Ledger, opened}
use Rattle.orders.specs.Schedules.{frames_taken}

-- a byte that no frame of the order may change: for every counter it is not among the bytes in use of its slot, or that slot is bad, or
-- the order takes no frame of that counter
abbrev pub Untouched : List ℕ → List Call → ℕ → Type 0
Untouched image calls i =
    (c : ℕ) → c < count image →
    Spared image c i ⊎ (is_bad (slot_of image c) ≡ true) ⊎ (own_frames c (frames_taken calls (opened image)) ≡ [])

-- what holds if a call changes a byte: it is work on the frame under way, and the byte is one in use of the slot of that frame's counter,
-- which is below the count and not bad
pub record Touches (l : Ledger) (call : Call) (image : List ℕ) (i : ℕ) : Type 0 where
  pub frame : List ℕ
  pub done : ℕ
  pub quota : ℕ
  pub worked : call ≡ Work quota
  pub under-way : l.pending ≡ Doing frame done
  pub below : counter_of frame < count image
  pub sound : is_bad (slot_of l.as_if.image (counter_of frame)) ≡ false
  pub in_use : Spared image (counter_of frame) i → ⊥
