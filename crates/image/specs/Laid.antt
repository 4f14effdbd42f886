-- What refusals 1 to 3 leave of an image: slots of a size that there is, at most four, all behind the header and inside. Assumes nothing.
use Rattle.std.specs.Prelude.{ℕ, ◌+◌, ◌*◌, ◌≤◌, ◌≡◌, true, List, length}
use Rattle.image.specs.Header.{count, offset, slot_size}
use Rattle.image.specs.Refusal.{is_size}

pub record Laid (image : List ℕ) : Type 0 where
  pub each : is_size (slot_size image) ≡ true
  pub first : 16 ≤ offset image
  pub fits : offset image + slot_size image * count image ≤ length image
  pub few : count image ≤ 4
