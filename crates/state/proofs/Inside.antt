-- An element inside a list does not go by what is read past its end, and at power-on no counter has a session key. Assumes nothing.
use Prim.Native.Nat.{ℕ, zero, suc, ◌<◌}
use mathlib.Core.Path.{◌≡◌, refl}
use mathlib.Core.List.{List, [], ◌∷◌}
use lib.ListN.{length, get_or, replicate}
use native.Mathlib.Omega.{arith}
use Rattle.state.specs.Parts.{no_key}

pub get_or-inside : {A : Type 0} (l : List A) (n : ℕ) (d e : A) → n < length l → get_or l n d ≡ get_or l n e
get_or-inside [] n d e p = absurd (omega (arith, p))
get_or-inside (x ∷ xs) zero d e p = refl
get_or-inside (x ∷ xs) (suc n) d e p = get_or-inside xs n d e (omega (arith, p))

pub no_key_lem : (n k : ℕ) → get_or (replicate n no_key) k no_key ≡ no_key
no_key_lem zero k = refl
no_key_lem (suc n) zero = refl
no_key_lem (suc n) (suc k) = no_key_lem n k
