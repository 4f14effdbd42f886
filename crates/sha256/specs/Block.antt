-- FIPS 180-4, section 6.2.2: the SHA-256 hash computation of one message block. Assumes nothing.
use Rattle.std.specs.Prelude.{ℕ, zero, suc, ◌+◌, ◌-◌, ◌%◌, ◌^◌, List, [], ◌∷◌, ◌++◌, replicate, slice_index, slice_set}
use Rattle.words.specs.Table.{table}
use Rattle.sha256.specs.Functions.{Ch, Maj, Σ0, Σ1, σ0, σ1}
use Rattle.sha256.specs.Constants.{K}

-- Step 1: Wₜ for t from 16, of the words before it
abbrev pub next_w : List ℕ → ℕ → ℕ
next_w W t = (σ1 (slice_index W (t - 2)) + slice_index W (t - 7) + σ0 (slice_index W (t - 15)) + slice_index W (t - 16)) % 2 ^ 32

-- Step 1: Wₜ put in its place
unfoldable pub with_next : List ℕ → ℕ → List ℕ
with_next W t = slice_set W t (next_w W t)

-- Step 1: the words t, t + 1, and so on, n of them, each made of the words before it
unfoldable pub extended : List ℕ → ℕ → ℕ → List ℕ
extended W t zero = W
extended W t (suc n) = with_next (extended W t n) (t + n)

-- Step 1: the message schedule, Wₜ = Mₜ for t up to 15, and the 48 words after them
unfoldable pub schedule : List ℕ → List ℕ
schedule M = extended (M ++ replicate 48 0) 16 48

-- Step 3: T₁ = h + Σ1(e) + Ch(e, f, g) + Kₜ + Wₜ, of the working variables v = a, b, .., h
abbrev pub T₁ : List ℕ → ℕ → ℕ → ℕ
T₁ v k w = (slice_index v 7 + Σ1 (slice_index v 4) + Ch (slice_index v 4) (slice_index v 5) (slice_index v 6) + k + w) % 2 ^ 32

-- Step 3: T₂ = Σ0(a) + Maj(a, b, c)
abbrev pub T₂ : List ℕ → ℕ
T₂ v = (Σ0 (slice_index v 0) + Maj (slice_index v 0) (slice_index v 1) (slice_index v 2)) % 2 ^ 32

-- Step 3: one round, with the constant k = Kₜ and the schedule word w = Wₜ
unfoldable pub round : ℕ → ℕ → List ℕ → List ℕ
round k w v =
    (T₁ v k w + T₂ v) % 2 ^ 32 ∷ slice_index v 0 ∷ slice_index v 1 ∷ slice_index v 2 ∷ (slice_index v 3 + T₁ v k w) % 2 ^ 32 ∷ slice_index v 4 ∷ slice_index v 5 ∷ slice_index v 6 ∷ []

-- Step 3: the rounds t, t + 1, and so on, n of them
unfoldable pub rounds : List ℕ → ℕ → ℕ → List ℕ → List ℕ
rounds W t zero v = v
rounds W t (suc n) v = round (slice_index K (t + n)) (slice_index W (t + n)) (rounds W t n v)

-- Step 4: the next hash value, a + H₀, b + H₁, .., h + H₇
unfoldable pub sums : List ℕ → List ℕ → List ℕ
sums v H = table (λ i. (slice_index v i + slice_index H i) % 2 ^ 32) 8

-- Steps 1 to 4: the hash value after the block M, from the hash value H before it
unfoldable pub block : List ℕ → List ℕ → List ℕ
block H M = sums (rounds (schedule M) 0 64 H) H
