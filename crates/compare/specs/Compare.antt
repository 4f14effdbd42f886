-- Two lists of bytes are the same. Assumes nothing.
use Rattle.std.specs.Prelude.{ℕ, zero, suc, Bool, true, false, List, [], ◌∷◌, eqb, get_or}
use Rattle.std.specs.Int.Bits.{bit_or, bit_xor}
use Rattle.words.specs.Choice.{pick}

-- as long, and the same byte at each place
unfoldable pub same_bytes : List ℕ → List ℕ → Bool
same_bytes [] [] = true
same_bytes [] (y ∷ ys) = false
same_bytes (x ∷ xs) [] = false
same_bytes (x ∷ xs) (y ∷ ys) = pick (eqb x y) (same_bytes xs ys) false

-- the bits in which the first n bytes differ, all of them together
unfoldable pub differences : ℕ → List ℕ → List ℕ → ℕ
differences zero a b = 0
differences (suc n) a b = bit_or (differences n a b) (bit_xor (get_or a n 0) (get_or b n 0))
