-- Words and rounds in groups: those after the first m, on what those leave, are those from m on. Assumes nothing.
use Rattle.std.proofs.Common.{◌≡◌, ℕ, zero, suc, ◌+◌, ◌-◌, ◌≤◌, List, add-zero, add_assoc, add-suc, zero-add, arith}
use Rattle.sha256.specs.Block.{extended, rounds}

words_more : (W : List ℕ) (t m n : ℕ) → extended (extended W t m) (t + m) n ≡ extended W t (m + n)
unfolding extended
words_more W t m zero = rw (add-zero m)
words_more W t m (suc n) = rw (add-suc m n, words_more W t m n, add_assoc t m n)

pub words_on : (W : List ℕ) (t n : ℕ) → 16 ≤ t → extended (extended W 16 (t - 16)) t n ≡ extended W 16 (t + n - 16)
words_on W t n h =
    let place : 16 + (t - 16) ≡ t = omega arith in
    let count : t - 16 + n ≡ t + n - 16 = omega arith in
    rw (place, count) at (words_more W 16 (t - 16) n)

rounds_more : (W : List ℕ) (t m n : ℕ) (v : List ℕ) → rounds W (t + m) n (rounds W t m v) ≡ rounds W t (m + n) v
unfolding rounds
rounds_more W t m zero v = rw (add-zero m)
rounds_more W t m (suc n) v = rw (add-suc m n, rounds_more W t m n v, add_assoc t m n)

pub rounds_on : (W : List ℕ) (t n : ℕ) (v : List ℕ) → rounds W t n (rounds W 0 t v) ≡ rounds W 0 (t + n) v
rounds_on W t n v = rw (zero-add t) at (rounds_more W 0 t n v)
