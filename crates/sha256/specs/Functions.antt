-- FIPS 180-4, sections 2.2.2, 3.2 and 4.1.2: the operations on words of 32 bits and the six functions of SHA-256. Assumes nothing.
use Rattle.std.specs.Prelude.{ℕ, ◌-◌, ◌*◌, ◌/◌, ◌%◌, ◌^◌, bit_and, bit_or, bit_xor}

-- 2.2.2: the complement of a word
abbrev pub not : ℕ → ℕ
not x = 2 ^ 32 - 1 - x

-- 3.2: the right shift operation SHR ⁿ(x) = x >> n
abbrev pub SHR : ℕ → ℕ → ℕ
SHR n x = x / 2 ^ n

-- 3.2: the left shift x << n drops the n high bits
abbrev pub SHL : ℕ → ℕ → ℕ
SHL n x = x * 2 ^ n % 2 ^ 32

-- 3.2: the rotate right operation ROTR ⁿ(x) = (x >> n) ∨ (x << w - n)
abbrev pub ROTR : ℕ → ℕ → ℕ
ROTR n x = bit_or (SHR n x) (SHL (32 - n) x)

-- (4.2)
abbrev pub Ch : ℕ → ℕ → ℕ → ℕ
Ch x y z = bit_xor (bit_and x y) (bit_and (not x) z)

-- (4.3)
abbrev pub Maj : ℕ → ℕ → ℕ → ℕ
Maj x y z = bit_xor (bit_xor (bit_and x y) (bit_and x z)) (bit_and y z)

-- (4.4)
abbrev pub Σ0 : ℕ → ℕ
Σ0 x = bit_xor (bit_xor (ROTR 2 x) (ROTR 13 x)) (ROTR 22 x)

-- (4.5)
abbrev pub Σ1 : ℕ → ℕ
Σ1 x = bit_xor (bit_xor (ROTR 6 x) (ROTR 11 x)) (ROTR 25 x)

-- (4.6)
abbrev pub σ0 : ℕ → ℕ
σ0 x = bit_xor (bit_xor (ROTR 7 x) (ROTR 18 x)) (SHR 3 x)

-- (4.7)
abbrev pub σ1 : ℕ → ℕ
σ1 x = bit_xor (bit_xor (ROTR 17 x) (ROTR 19 x)) (SHR 10 x)
