-- FIPS 180-4, section 5.1.1: padding the message, in whole bytes. Assumes nothing.
use Rattle.std.specs.Prelude.{ℕ, ◌+◌, ◌-◌, ◌*◌, ◌/◌, ◌%◌, ◌^◌, List, ◌∷◌, ◌++◌, length, replicate}
use Rattle.words.specs.Words.{bytes_of}

-- the 64-bit block that is the length in bits of a message of n bytes
abbrev pub length_block : ℕ → List ℕ
length_block n = bytes_of (8 * n / 2 ^ 32) ++ bytes_of (8 * n % 2 ^ 32)

-- the bit 1 and the k zero bits with l + 1 + k = 448 modulo 512: the byte 80h, and zero bytes up to 56 modulo 64
unfoldable pub pad : List ℕ → List ℕ
pad m = m ++ (0x80 ∷ replicate ((119 - length m % 64) % 64) 0) ++ length_block (length m)

-- the last block alone, of a message whose bytes before it, as many as given, filled earlier blocks
unfoldable pub last_block : ℕ → List ℕ → List ℕ
last_block before m = m ++ (0x80 ∷ replicate (55 - length m) 0) ++ length_block (before + length m)
