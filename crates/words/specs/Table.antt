-- Lists given by a rule for each place or for each element of another list, and fields of lists. Assumes nothing.
use Rattle.std.specs.Prelude.{ℕ, zero, suc, ◌+◌, List, [], ◌∷◌, ◌++◌, get_or}

-- f 0, f 1, and so on: the first n of them
unfoldable pub table : (ℕ → ℕ) → ℕ → List ℕ
table f zero = []
table f (suc n) = table f n ++ (f n ∷ [])

-- what f makes of each element, one after the other
unfoldable pub spread : (ℕ → List ℕ) → List ℕ → List ℕ
spread f [] = []
spread f (x ∷ xs) = f x ++ spread f xs

-- a field: the n elements that start at a place, 0 where there are none
abbrev pub field : ℕ → ℕ → List ℕ → List ℕ
field at n s = table (λ i. get_or s (at + i) 0) n
