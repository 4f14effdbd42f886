-- Document 01, the program `rpmcrun`: it starts with a 208-byte image, 4 counters at offset 16, all slots FFh.
-- Assumes nothing.
use Rattle.std.specs.Prelude.{ℕ, List, [], ◌∷◌, ◌++◌, replicate}
use Rattle.words.specs.Words.{bytes_of_all}

-- the header: counters, offset, bytes per slot, length; then the slots
unfoldable pub first_image : List ℕ
first_image = bytes_of_all (4 ∷ 16 ∷ 48 ∷ 208 ∷ []) ++ replicate 192 0xFF
