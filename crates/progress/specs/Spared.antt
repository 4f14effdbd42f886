-- Document 01, "The counter image": the bytes that no job of a counter writes. Assumes nothing.
use Rattle.std.specs.Prelude.{ℕ, ◌+◌, ◌≤◌, ◌<◌, ◌⊎◌, List}
use Rattle.image.specs.Header.{slot_size, slot_at}

-- all before the counter's slot and all behind it, and bytes 12-15 of the slot
abbrev pub Spared : List ℕ → ℕ → ℕ → Type 0
Spared image counter i =
    (i < slot_at image counter) ⊎ (slot_at image counter + slot_size image ≤ i)
    ⊎ ((slot_at image counter + 12 ≤ i) × (i < slot_at image counter + 16))
