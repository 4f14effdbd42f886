-- The four blocks of an HMAC, one a step: the key with ipad, the message, the key with opad, the inner digest. Both the whole
-- call and the device's steps use these, and no other text says how an HMAC is made of blocks. Assumes nothing.
use Rattle.std.specs.Prelude.{ℕ, List, take}
use Rattle.words.specs.Words.{words_of, bytes_of_all}
use Rattle.sha256.specs.Constants.{H⁰}
use Rattle.sha256.specs.Block.{block}
use Rattle.hash.specs.Padding.{last_block}
use Rattle.hmac.specs.declared.Quarter.{Quarter}
use Rattle.hmac.specs.declared.Quarter.TheVariants.{KeyIpad, Message, KeyOpad, InnerDigest}
use Rattle.hmac.specs.Hmac.{K₀, xor_each, ipad, opad}

-- the block of a key
abbrev pub key_block : ℕ → List ℕ → List ℕ
key_block pad key = words_of 16 (xor_each pad (K₀ key))

-- the block of a text after a key's; at most 55 bytes of it fit
abbrev pub text_block : List ℕ → List ℕ
text_block text = words_of 16 (last_block 64 (take 55 text))

-- the sixteen words that a quarter hashes, of the key, the message and the chaining words of the inner digest
abbrev pub block_of : Quarter → List ℕ → List ℕ → List ℕ → List ℕ
block_of KeyIpad key message inner = key_block ipad key
block_of Message key message inner = text_block message
block_of KeyOpad key message inner = key_block opad key
block_of InnerDigest key message inner = text_block (bytes_of_all inner)

-- the chaining words that a quarter starts from: a key's block starts anew
abbrev pub start_of : Quarter → List ℕ → List ℕ
start_of KeyIpad chain = H⁰
start_of Message chain = chain
start_of KeyOpad chain = H⁰
start_of InnerDigest chain = chain

-- the chaining words after a quarter
unfoldable pub chain_after : Quarter → List ℕ → List ℕ → List ℕ → List ℕ → List ℕ
chain_after q key message chain inner = block (start_of q chain) (block_of q key message inner)
