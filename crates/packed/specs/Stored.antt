-- What a part of `pack` does to the buffer. Assumes nothing.
use Rattle.std.specs.Prelude.{ℕ, ◌≡◌, List, length}
use Rattle.std.proofs.lemmas.List.Edits.{sets}

-- some bytes, n of them, are stored from a place on, and nothing else changes. The number is said beside them, because a caller
-- that hands in a struct does not see how long the arrays in it are
pub record Stored (before : List ℕ) (at : ℕ) (bytes : List ℕ) (n : ℕ) (after : List ℕ) : Type 0 where
  pub stores : after ≡ sets before at bytes
  pub count : length bytes ≡ n
