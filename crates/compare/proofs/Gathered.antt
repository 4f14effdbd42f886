-- The differences of two lists, gathered pair by pair from the front. Assumes nothing.
use Rattle.std.proofs.Common.{◌≡◌, ℕ, zero, suc, ◌≤◌, List, length, take, bit_or, bit_xor, refl, add-one, arith, take_all}
use Rattle.std.proofs.lemmas.List.Sums.{fold_more}
use Rattle.std.proofs.lemmas.Slice.Zip.{length-zip, get_or-zip}
use Rattle.std.specs.List.{fold, zip}
use Rattle.compare.specs.Compare.{differences}

-- one more pair
abbrev pub more : ℕ → ℕ × ℕ → ℕ
more d p = bit_or d (bit_xor p.0 p.1)

-- the first n pairs
gathered_first : (n : ℕ) (a b : List ℕ) → n ≤ length a → length a ≡ length b → fold more 0 (take n (zip a b)) ≡ differences n a b
unfolding differences
gathered_first zero a b h e = refl
gathered_first (suc n) a b h e =
    rw (← add-one n, fold_more more 0 (zip a b) n (0, 0) (omega (arith, length-zip a b)), get_or-zip a b n (0, 0) (omega arith) (omega arith), gathered_first n a b (omega arith) e)

pub gathered : (a b : List ℕ) → length a ≡ length b → fold more 0 (zip a b) ≡ differences (length a) a b
gathered a b e = rw (take_all (length a) (zip a b) (omega (arith, length-zip a b))) at (gathered_first (length a) a b (omega arith) e)
