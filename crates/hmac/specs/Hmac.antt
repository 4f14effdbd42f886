-- FIPS 198-1, section 4: the HMAC of a text under a key of at most B = 64 bytes, with H = SHA-256. Assumes nothing.
use Rattle.std.specs.Prelude.{ℕ, ◌-◌, List, ◌++◌, map, length, replicate}
use Rattle.std.specs.Int.Bits.{bit_xor}
use Rattle.hash.specs.Sha256.{sha256}

-- step 3: the key with zeros appended to it, up to 64 bytes
abbrev pub K₀ : List ℕ → List ℕ
K₀ K = K ++ replicate (64 - length K) 0

-- steps 4 and 7: each byte xored with the byte of ipad or opad
abbrev pub xor_each : ℕ → List ℕ → List ℕ
xor_each pad s = map (λ b. bit_xor b pad) s

-- section 2.3: the bytes of which ipad and opad are made
abbrev pub ipad : ℕ
ipad = 0x36

abbrev pub opad : ℕ
opad = 0x5c

-- steps 4 to 9: H((K₀ ⊕ opad) ∥ H((K₀ ⊕ ipad) ∥ text))
unfoldable pub HMAC : List ℕ → List ℕ → List ℕ
HMAC K text = sha256 (xor_each opad (K₀ K) ++ sha256 (xor_each ipad (K₀ K) ++ text))
