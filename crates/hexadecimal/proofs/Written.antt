-- What is written of bytes: how many digits there are, and that they stand at the front of a buffer with room for them. Assumes
-- nothing.
use mathlib.Core.Path.{◌≡◌, refl}
use mathlib.Core.List.{List}
use Prim.Native.Nat.{ℕ, ◌*◌, ◌≤◌}
use borrow.Author.Tests.{le-leb}
use lib.ListN.{length, take, drop}
use lib.Seq.{take_at}
use Rattle.words.specs.Choice.{pick}
use Rattle.words.proofs.Spread.{length-spread}
use Rattle.hexadecimal.specs.Hex.{digits_of, digits_of_all, with_digits}

module _ (bytes : List ℕ) where
  pub digits_fit : length (digits_of_all bytes) ≡ 2 * length bytes
  digits_fit = length-spread digits_of 2 (λ b. refl) bytes

  pub digits_front : (out : List ℕ) → 2 * length bytes ≤ length out → take (2 * length bytes) (with_digits bytes out) ≡ digits_of_all bytes
  unfolding with_digits pick
  digits_front out h =
      rw (le-leb (2 * length bytes) (length out) h)
      (take_at (digits_of_all bytes) (drop (2 * length bytes) out) (2 * length bytes) digits_fit)
