-- What is asked of an outcome that frames start from: that its image could be accepted, and that it has the session keys that every
-- state of the type has. Assumes nothing.
use Rattle.std.specs.Prelude.{ℕ, ◌≡◌, List, length, get_or}
use Rattle.image.specs.Laid.{Laid}
use Rattle.state.specs.declared.Key.{Key}
use Rattle.state.specs.Parts.{no_key}

-- an accepted image, and four session keys of 32 bytes
pub record Formed (image : List ℕ) (keys : List Key) : Type 0 where
  pub laid : Laid image
  pub four : length keys ≡ 4
  pub long : (k : ℕ) → length (get_or keys k no_key).bytes ≡ 32
