-- A digest has 32 bytes, whatever is hashed. Assumes nothing.
use Prim.Native.Nat.{ℕ, zero, suc, ◌/◌}
use mathlib.Core.Path.{◌≡◌, refl}
use mathlib.Core.List.{List}
use native.Mathlib.Omega.{arith}
use lib.ListN.{length, drop}
use Rattle.words.specs.Words.{bytes_of, bytes_of_all, words_of}
use Rattle.words.proofs.Spread.{length-spread}
use Rattle.sha256.specs.Constants.{H⁰}
use Rattle.sha256.specs.Block.{block}
use Rattle.sha256.proofs.Lengths.{length-block}
use Rattle.hash.specs.Padding.{pad}
use Rattle.hash.specs.Sha256.{blocks, sha256}

-- eight words are 32 bytes
pub length-digest : (H : List ℕ) → length H ≡ 8 → length (bytes_of_all H) ≡ 32
length-digest H e = omega (arith, length-spread bytes_of 4 (λ w. refl) H, e)

length-blocks : (n : ℕ) (H s : List ℕ) → length H ≡ 8 → length (blocks n H s) ≡ 8
unfolding blocks
length-blocks zero H s e = e
length-blocks (suc n) H s e = length-blocks n (block H (words_of 16 s)) (drop 64 s) (length-block H (words_of 16 s))

pub length-sha256 : (m : List ℕ) → length (sha256 m) ≡ 32
unfolding sha256 H⁰
length-sha256 m =
    length-digest (blocks (length (pad m) / 64) H⁰ (pad m)) (length-blocks (length (pad m) / 64) H⁰ (pad m) refl)
