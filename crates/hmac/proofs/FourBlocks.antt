-- HMAC is a theorem about the four quarters: the inner hash is the first two, the outer hash the last two. What a quarter does
-- not look at may be anything. Assumes nothing.
use mathlib.Core.Path.{◌≡◌, sym}
use mathlib.Core.List.{List, ◌++◌}
use Prim.Native.Nat.{ℕ, ◌≤◌}
use native.Mathlib.Omega.{arith}
use lib.ListN.{length}
use lib.Seq.{take_all}
use Rattle.words.specs.Words.{bytes_of_all}
use Rattle.sha256.specs.Constants.{H⁰}
use Rattle.sha256.specs.Block.{block}
use Rattle.sha256.proofs.Lengths.{length-block}
use Rattle.hash.specs.Sha256.{sha256}
use Rattle.hash.proofs.OneBlock.{sha256-after}
use Rattle.hash.proofs.Lengths.{length-digest}
use Rattle.hmac.specs.declared.Quarter.TheVariants.{KeyIpad, Message, KeyOpad, InnerDigest}
use Rattle.hmac.specs.Hmac.{K₀, xor_each, HMAC, ipad, opad}
use Rattle.hmac.specs.Quarters.{key_block, text_block, chain_after}
use Rattle.hmac.proofs.KeyBlock.{length_xored}

-- the hash of a key's block and a text is two blocks
two_blocks :
    (pad : ℕ) (key text : List ℕ) → length key ≡ 32 → length text ≤ 55 →
    sha256 (xor_each pad (K₀ key) ++ text) ≡ bytes_of_all (block (block H⁰ (key_block pad key)) (text_block text))
two_blocks pad key text k t = rw (take_all 55 text t) (sha256-after (xor_each pad (K₀ key)) text (length_xored pad key k) t)

digest_fits : (H M : List ℕ) → length (bytes_of_all (block H M)) ≤ 55
digest_fits H M = omega (arith, length-digest (block H M) (length-block H M))

pub four_blocks :
    (key message a b c d e : List ℕ) → length key ≡ 32 → length message ≤ 55 →
    HMAC key message ≡
    bytes_of_all (chain_after InnerDigest key message (chain_after KeyOpad key message a b) (chain_after Message key message (chain_after KeyIpad key message c d) e))
unfolding HMAC chain_after
four_blocks key message a b c d e k m = rw (two_blocks ipad key message k m) (two_blocks opad key _ k (digest_fits _ _))

-- the chaining words of an HMAC's second and fourth block
unfoldable pub second : List ℕ → List ℕ → List ℕ → List ℕ → List ℕ
second key message chain inner = chain_after Message key message (chain_after KeyIpad key message chain inner) inner

unfoldable pub fourth : List ℕ → List ℕ → List ℕ → List ℕ → List ℕ
fourth key message chain inner =
    chain_after InnerDigest key message (chain_after KeyOpad key message (second key message chain inner) (second key message chain inner))
    (second key message chain inner)

-- after the fourth block they are the HMAC
pub fourth_hmac :
    (key message chain inner : List ℕ) → length key ≡ 32 → length message ≤ 55 → bytes_of_all (fourth key message chain inner) ≡ HMAC key message
unfolding second fourth
fourth_hmac key message chain inner k m = sym (four_blocks key message _ _ _ _ _ k m)
