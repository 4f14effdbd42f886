-- Bytes that are all inside are stored; stored one run behind the other they are stored as one run; a run that is as long as the
-- buffer is what the buffer becomes. Assumes nothing.
use Prim.Native.Nat.{ℕ, ◌+◌, ◌≤◌}
use mathlib.Core.Path.{◌≡◌, ◌∙◌}
use mathlib.Core.List.{List, ◌∷◌, ◌++◌}
use native.Mathlib.Numerals.{add-one}
use native.Mathlib.Omega.{arith}
use lib.ListN.{length, set, length-append}
use Rattle.words.specs.Words.{with_bytes}
use Rattle.words.proofs.Inside.{place_inside}
use Rattle.words.proofs.Runs.{sets-append, sets-all}
use Rattle.packed.specs.Stored.{Stored}

-- bytes that are all inside, stored
pub stored_inside :
    (l : List ℕ) (at : ℕ) (bytes : List ℕ) (n : ℕ) → length bytes ≡ n → at + n ≤ length l →
    Stored l at bytes n (with_bytes l at bytes)
stored_inside l at bytes n e h = record { stores = place_inside l at bytes (omega arith); count = e }

-- a run, then the next
pub and_then :
    {l m k v w : List ℕ} {i n j p : ℕ} → Stored l i v n m → Stored m j w p k → j ≡ i + n → Stored l i (v ++ w) (n + p) k
and_then {l} {m} {k} {v} {w} {i} {n} {j} {p} a b e =
    record {
      stores = b.stores ∙ rw (a.stores, e) (sets-append l i n v w a.count);
      count = length-append v w ∙ omega (arith, a.count, b.count);
    }

-- a run of the whole buffer
pub stored-all : {l k v : List ℕ} {n : ℕ} → Stored l 0 v n k → length l ≡ n → k ≡ v
stored-all {l} {k} {v} {n} a e = a.stores ∙ sets-all l v (omega (arith, a.count, e))

-- a byte, then a run
pub byte_first : {l k v : List ℕ} {at a n : ℕ} → Stored (set l at a) (at + 1) v n k → Stored l at (a ∷ v) (n + 1) k
byte_first {at = at} r = record { stores = rw (add-one at) at r.stores; count = omega (arith, r.count) }
