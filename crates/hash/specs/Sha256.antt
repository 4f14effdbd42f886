-- FIPS 180-4, sections 5.2.1 and 6.2: SHA-256 of a message of any length. Assumes nothing.
use Rattle.std.specs.Prelude.{ℕ, zero, suc, ◌/◌, List, length, drop}
use Rattle.words.specs.Words.{words_of, bytes_of_all}
use Rattle.sha256.specs.Constants.{H⁰}
use Rattle.sha256.specs.Block.{block}
use Rattle.hash.specs.Padding.{pad}

-- the hash value after n blocks of 64 bytes, each parsed into 16 words, from the hash value H
unfoldable pub blocks : ℕ → List ℕ → List ℕ → List ℕ
blocks zero H s = H
blocks (suc n) H s = blocks n (block H (words_of 16 s)) (drop 64 s)

-- the message digest, H₀ ∥ H₁ ∥ .. ∥ H₇ after the last block
unfoldable pub sha256 : List ℕ → List ℕ
sha256 m = bytes_of_all (blocks (length (pad m) / 64) H⁰ (pad m))
