-- The cases of `readable`: a text too long for the room, of an odd number of characters, with another character than a digit's, and
-- a text of digits. Assumes nothing.
use mathlib.Core.Path.{◌≡◌}
use mathlib.Core.Bool.{true, false}
use mathlib.Core.List.{List, []}
use Prim.Native.Nat.{ℕ, ◌/◌, ◌%◌, ◌≤◌, ◌<◌}
use borrow.Author.Tests.{lt-ltb, le-ltb, eq-eqb, ne_eqb}
use lib.ListN.{length}
use Rattle.words.specs.Choice.{pick}
use Rattle.words.specs.Table.{table}
use Rattle.hexadecimal.specs.Hex.{all_digits, byte_at, bytes_in, readable}

module _ (room : ℕ) (text : List ℕ) where
  pub too_many : room < length text / 2 → readable room text ≡ []
  unfolding readable pick
  too_many h = rw (lt-ltb room (length text / 2) h)

  module _ (fits : length text / 2 ≤ room) where
    pub odd : (length text % 2 ≡ 0 → ⊥) → readable room text ≡ []
    unfolding readable bytes_in pick
    odd h = rw (le-ltb room (length text / 2) fits, ne_eqb (length text % 2) 0 h)

    module _ (even : length text % 2 ≡ 0) where
      pub other : all_digits text ≡ false → readable room text ≡ []
      unfolding readable bytes_in pick
      other h = rw (le-ltb room (length text / 2) fits, eq-eqb (length text % 2) 0 even, h)

      pub digits : all_digits text ≡ true → readable room text ≡ table (byte_at text) (length text / 2)
      unfolding readable bytes_in pick
      digits h = rw (le-ltb room (length text / 2) fits, eq-eqb (length text % 2) 0 even, h)
