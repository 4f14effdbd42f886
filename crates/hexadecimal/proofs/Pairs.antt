-- A text cut into pairs: the byte of a pair is that at its place in the text. Assumes nothing.
use mathlib.Core.Path.{◌≡◌, ap, ◌∙◌}
use mathlib.Core.List.{List, []}
use Prim.Native.Nat.{ℕ, zero, suc, ◌+◌, ◌*◌, ◌<◌}
use native.Mathlib.Omega.{arith}
use lib.ListN.{get_or, drop}
use Rattle.std.proofs.lemmas.List.{get_or-take, get_or-drop}
use Rattle.std.specs.Simd.{first_chunks}
use Rattle.hexadecimal.specs.Hex.{byte_of, byte_at}

-- a character of a pair
character_of :
    (n : ℕ) (text : List ℕ) (i j k : ℕ) → i < n → j < 2 → k ≡ 2 * i + j →
    get_or (get_or (first_chunks 2 n text) i []) j 0 ≡ get_or text k 0
character_of zero text i j k h l e = absurd (omega arith)
character_of (suc n) text zero j k h l e = get_or-take 2 text j 0 l ∙ ap (λ (m : ℕ). get_or text m 0) (omega arith)
character_of (suc n) text (suc i) j k h l e =
    let place : 2 + (2 * i + j) ≡ k = omega arith in
    character_of n (drop 2 text) i j (2 * i + j) (omega arith) l (omega arith) ∙ get_or-drop 2 text (2 * i + j) 0 ∙ rw place

pub pair_byte :
    (n : ℕ) (text : List ℕ) (i : ℕ) → i < n →
    byte_of (get_or (get_or (first_chunks 2 n text) i []) 0 0) (get_or (get_or (first_chunks 2 n text) i []) 1 0) ≡ byte_at text i
pair_byte n text i h = rw (character_of n text i 0 (2 * i) h (omega arith) (omega arith), character_of n text i 1 (2 * i + 1) h (omega arith) (omega arith))
