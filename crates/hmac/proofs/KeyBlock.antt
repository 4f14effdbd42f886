-- A key xored with a pad, byte by byte: the block that the code fills is the standard's. Assumes nothing.
use mathlib.Core.Path.{◌≡◌, refl, sym, ◌∙◌}
use mathlib.Core.List.{List, [], ◌∷◌, ◌++◌, map-append}
use Prim.Native.Nat.{ℕ, zero, suc, ◌+◌, ◌<◌}
use native.Mathlib.Numerals.{add-one}
use native.Mathlib.Omega.{arith}
use lib.Bits.{bit_xor, xor_zero_l}
use lib.ListN.{length, get_or, take, drop, set, replicate, length-append, length-map}
use lib.Seq.{take-suc, length-take-le}
use Rattle.words.proofs.Filling.{fill_more}
use Rattle.hmac.specs.Hmac.{K₀, xor_each}

-- the next byte of the key
pub xor_more :
    (pad : ℕ) (key z : List ℕ) (i : ℕ) → i < length key → i < length z →
    set (xor_each pad (take i key) ++ drop i z) i (bit_xor (get_or key i 0) pad) ≡ xor_each pad (take (i + 1) key) ++ drop (i + 1) z
xor_more pad key z i hk hz =
    let filled : length (xor_each pad (take i key)) ≡ i = length-map (take i key) _ ∙ length-take-le i key (omega arith) in
    rw (
      add-one i,
      take-suc key i 0 hk,
      map-append (λ b. bit_xor b pad) (take i key) (get_or key i 0 ∷ []),
    )
    (fill_more (xor_each pad (take i key)) z i (suc i) (bit_xor (get_or key i 0) pad) filled (sym (add-one i)) hz)

pub length_xored : (pad : ℕ) (key : List ℕ) → length key ≡ 32 → length (xor_each pad (K₀ key)) ≡ 64
length_xored pad key e = length-map (K₀ key) _ ∙ length-append key _ ∙ rw (e)

-- the zeros after the key are the pad itself
xor-zeros : (pad n : ℕ) → xor_each pad (replicate n 0) ≡ replicate n pad
xor-zeros pad zero = refl
xor-zeros pad (suc n) = rw (xor_zero_l pad, xor-zeros pad n)

pub key_xored : (pad : ℕ) (key : List ℕ) → length key ≡ 32 → xor_each pad key ++ replicate 32 pad ≡ xor_each pad (K₀ key)
key_xored pad key e = rw (e, map-append (λ b. bit_xor b pad) key (replicate 32 0), xor-zeros pad 32)
