-- The message schedule by the two equations of FIPS 180-4, 6.2.2, step 1: Wₜ = Mₜ for t up to 15, and from 16 on Wₜ is made of
-- four words before it. A word that is put in its place stays. Assumes nothing.
use Rattle.std.proofs.Common.{◌≡◌, ℕ, zero, suc, ◌+◌, ◌-◌, ◌<◌, ◌≤◌, List, ◌++◌, length, get_or, replicate, refl, ◌∙◌, add-zero, add-suc, arith, length-append, length-set, get_or-set_other, get_or-set_same}
use lib.ListN.{get_or-append}
use Rattle.sha256.specs.Block.{next_w, with_next, extended, schedule}

length-extended : (W : List ℕ) (t n : ℕ) → length (extended W t n) ≡ length W
unfolding extended with_next
length-extended W t zero = refl
length-extended W t (suc n) = simp length-set (length-extended W t n)

-- a word below t + m is the same after k words more
stays : (W : List ℕ) (t m k i : ℕ) → i < t + m → get_or (extended W t (m + k)) i 0 ≡ get_or (extended W t m) i 0
unfolding extended with_next
stays W t m zero i h = rw (add-zero m)
stays W t m (suc k) i h =
    rw (add-suc m k)
    (get_or-set_other (extended W t (m + k)) (t + (m + k)) i (next_w (extended W t (m + k)) (t + (m + k))) 0 (λ e. omega arith) ∙ stays W t m k i h)

module _ (M : List ℕ) (words : length M ≡ 16) (t : ℕ) where
  pub schedule-first : t < 16 → get_or (schedule M) t 0 ≡ get_or M t 0
  unfolding schedule extended
  schedule-first h = stays (M ++ replicate 48 0) 16 0 48 t (omega arith) ∙ get_or-append M (replicate 48 0) 0 t (omega arith)

  -- the words before word t, in the whole schedule as when word t is made of them
  before : 16 ≤ t → t < 64 → (i : ℕ) → i < t → get_or (schedule M) i 0 ≡ get_or (extended (M ++ replicate 48 0) 16 (t - 16)) i 0
  unfolding schedule
  before low high i h =
      let whole : t - 16 + (64 - t) ≡ 48 = omega arith in
      rw whole at (stays (M ++ replicate 48 0) 16 (t - 16) (64 - t) i (omega arith))

  placed : 16 ≤ t → t < 64 → get_or (schedule M) t 0 ≡ next_w (extended (M ++ replicate 48 0) 16 (t - 16)) t
  unfolding schedule extended with_next
  placed low high =
      let W = M ++ replicate 48 0 in
      let whole : suc (t - 16) + (63 - t) ≡ 48 = omega arith in
      let place : 16 + (t - 16) ≡ t = omega arith in
      let room : length W ≡ 64 = length-append M (replicate 48 0) ∙ omega arith in
      rw whole at (stays W 16 (suc (t - 16)) (63 - t) t (omega arith))
      ∙ rw place (get_or-set_same (extended W 16 (t - 16)) t (next_w (extended W 16 (t - 16)) t) 0 (omega (arith, length-extended W 16 (t - 16))))

  pub schedule-later : 16 ≤ t → t < 64 → get_or (schedule M) t 0 ≡ next_w (schedule M) t
  schedule-later low high =
      let b = before low high in
      placed low high ∙ rw (b (t - 2) (omega arith), b (t - 7) (omega arith), b (t - 15) (omega arith), b (t - 16) (omega arith))
