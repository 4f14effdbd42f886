-- The laws of `spread`: of lists in a row, of one element more, and of its length. Assumes nothing.
use mathlib.Core.Path.{◌≡◌, refl, ap, ◌∙◌}
use mathlib.Core.List.{List, [], ◌∷◌, ◌++◌, append_assoc, append-nil}
use Prim.Native.Nat.{ℕ, ◌+◌, ◌*◌, ◌≤◌, ◌<◌}
use native.Mathlib.Nat.{mul-suc, mul-zero, add_comm}
use native.Mathlib.Numerals.{add-one}
use lib.ListN.{length, get_or, take, length-append}
use lib.Seq.{take-suc, length-take-le}
use Rattle.words.specs.Table.{spread}

pub spread-append : (f : ℕ → List ℕ) (v w : List ℕ) → spread f (v ++ w) ≡ spread f v ++ spread f w
unfolding spread
spread-append f [] w = refl
spread-append f (a ∷ v) w = rw (spread-append f v w, append_assoc (f a) (spread f v) (spread f w))

-- one element more
pub spread_more : (f : ℕ → List ℕ) (s : List ℕ) (i : ℕ) → i < length s → spread f (take (i + 1) s) ≡ spread f (take i s) ++ f (get_or s i 0)
unfolding spread
spread_more f s i h = rw (add-one i, take-suc s i 0 h, spread-append f (take i s) (get_or s i 0 ∷ []), append-nil (f (get_or s i 0)))

module _ (f : ℕ → List ℕ) (k : ℕ) (each : (x : ℕ) → length (f x) ≡ k) where
  pub length-spread : (s : List ℕ) → length (spread f s) ≡ k * length s
  unfolding spread
  length-spread [] = rw (mul-zero k)
  length-spread (x ∷ s) = rw (length-append (f x) (spread f s), each x, length-spread s, mul-suc k (length s), add_comm k (k * length s))

  pub length_spread_take : (s : List ℕ) (i : ℕ) → i ≤ length s → length (spread f (take i s)) ≡ k * i
  length_spread_take s i h = length-spread (take i s) ∙ ap (λ (n : ℕ). k * n) (length-take-le i s h)
