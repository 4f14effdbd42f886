-- The key words come first, in order, whatever follows them. Assumes nothing.
use Prim.Native.Nat.{ℕ, zero, suc, ◌+◌, ◌-◌, ◌<◌, ◌≤◌}
use mathlib.Core.Path.{◌≡◌, refl, ap, ◌∙◌}
use mathlib.Core.List.{List, [], ◌∷◌, ◌++◌, append_assoc}
use mathlib.Core.Logic.{⊎_elim}
use native.Mathlib.Nat.{not-suc-le-zero, le_of_suc-le-suc, eq-or-lt_of_le}
use native.Mathlib.Numerals.{add-one}
use native.Mathlib.Omega.{arith}
use lib.ListN.{length, get_or, length-append}
use lib.Seq.{get_or-append-add, get_or_at}
use Rattle.plan.specs.declared.Store.{Store}
use Rattle.plan.specs.Stores.{key_store, key_stores}

pub length-key_stores : (frame : List ℕ) (n : ℕ) → length (key_stores frame n) ≡ n
unfolding key_stores
length-key_stores frame zero = refl
length-key_stores frame (suc n) =
    length-append (key_stores frame n) (key_store frame n ∷ []) ∙ ap (λ (k : ℕ). k + 1) (length-key_stores frame n) ∙ add-one n

pub key_store_at :
    (frame : List ℕ) (n : ℕ) (after : List Store) (i : ℕ) (d : Store) → i < n → get_or (key_stores frame n ++ after) i d ≡ key_store frame i
unfolding key_stores
key_store_at frame zero after i d h = absurd (not-suc-le-zero h)
key_store_at frame (suc n) after i d h =
    rw (append_assoc (key_stores frame n) (key_store frame n ∷ []) after)
    (⊎_elim (λ e. rw e (get_or_at (key_stores frame n) (key_store frame n) after d n (length-key_stores frame n)))
    (λ l. key_store_at frame n (key_store frame n ∷ after) i d l)
    (eq-or-lt_of_le (le_of_suc-le-suc h)))

pub store_after_key :
    (frame : List ℕ) (n : ℕ) (after : List Store) (i : ℕ) (d : Store) → n ≤ i → get_or (key_stores frame n ++ after) i d ≡ get_or after (i - n) d
store_after_key frame n after i d h =
    let e : i ≡ length (key_stores frame n) + (i - n) = omega (arith, length-key_stores frame n) in
    ap (λ (k : ℕ). get_or (key_stores frame n ++ after) k d) e ∙ get_or-append-add (key_stores frame n) after (i - n) d

-- the last store is what is read past it, too
pub last_at : (x : Store) (i : ℕ) → get_or (x ∷ []) i x ≡ x
last_at x zero = refl
last_at x (suc i) = refl
