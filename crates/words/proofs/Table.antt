-- The laws of `table`: its length, that a buffer filled place by place from the front becomes the table, that of one element at every
-- place, and that a list is the table of its elements. Assumes nothing.
use mathlib.Core.Path.{◌≡◌, refl, ap, sym, ◌∙◌}
use mathlib.Core.List.{List, [], ◌∷◌, ◌++◌, append-nil}
use Prim.Native.Nat.{ℕ, zero, suc, ◌+◌, ◌≤◌, ◌<◌}
use mathlib.Core.Logic.{⊎_elim}
use native.Mathlib.Nat.{not-suc-le-zero, le_of_suc-le-suc, eq-or-lt_of_le}
use native.Mathlib.Numerals.{add-one}
use native.Mathlib.Omega.{arith}
use lib.ListN.{length, get_or, take, drop, set, replicate, length-append, drop_of_length-le, get_or-append}
use lib.Seq.{take-suc, get_or_at}
use Rattle.words.specs.Table.{table}
use Rattle.words.proofs.Filling.{fill_more}

pub length-table : (f : ℕ → ℕ) (n : ℕ) → length (table f n) ≡ n
unfolding table
length-table f zero = refl
length-table f (suc n) = length-append (table f n) (f n ∷ []) ∙ ap (λ (k : ℕ). k + 1) (length-table f n) ∙ add-one n

-- the next place filled
pub table_more : (f : ℕ → ℕ) (i : ℕ) (x : List ℕ) → i < length x → set (table f i ++ drop i x) i (f i) ≡ table f (i + 1) ++ drop (i + 1) x
unfolding table
table_more f i x h = rw (add-one i) (fill_more (table f i) x i (suc i) (f i) (length-table f i) (sym (add-one i)) h)

-- every place filled
pub table-all : (f : ℕ → ℕ) (n : ℕ) (x : List ℕ) → length x ≡ n → table f n ++ drop n x ≡ table f n
table-all f n x e = rw (drop_of_length-le x {i = n} (omega arith)) (append-nil (table f n))

-- the same rule below n
pub table_same : (f g : ℕ → ℕ) (n : ℕ) → ((i : ℕ) → i < n → f i ≡ g i) → table f n ≡ table g n
unfolding table
table_same f g zero e = refl
table_same f g (suc n) e = rw (table_same f g n (λ i h. e i (omega arith)), e n (omega arith))

-- the same element at every place
replicate_more : (a n : ℕ) → replicate n a ++ (a ∷ []) ≡ a ∷ replicate n a
replicate_more a zero = refl
replicate_more a (suc n) = ap (λ (s : List ℕ). a ∷ s) (replicate_more a n)

pub table-replicate : (a n : ℕ) → table (λ i. a) n ≡ replicate n a
unfolding table
table-replicate a zero = refl
table-replicate a (suc n) = ap (λ (s : List ℕ). s ++ (a ∷ [])) (table-replicate a n) ∙ replicate_more a n

-- a list's own elements
pub table-take : (s : List ℕ) (n : ℕ) → n ≤ length s → table (λ i. get_or s i 0) n ≡ take n s
unfolding table
table-take s zero h = refl
table-take s (suc n) h = rw (table-take s n (omega arith), take-suc s n 0 h)

-- the element at a place
pub get_or-table : (f : ℕ → ℕ) (n i d : ℕ) → i < n → get_or (table f n) i d ≡ f i
unfolding table
get_or-table f zero i d h = absurd (not-suc-le-zero h)
get_or-table f (suc n) i d h =
    ⊎_elim (λ e. rw e (get_or_at (table f n) (f n) [] d n (length-table f n)))
    (λ l. get_or-append (table f n) (f n ∷ []) d i (rw (length-table f n) l) ∙ get_or-table f n i d l)
    (eq-or-lt_of_le (le_of_suc-le-suc h))
