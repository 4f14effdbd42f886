-- Words spread into their bytes and read back, and bytes read as words and spread back. Assumes nothing.
use mathlib.Core.Path.{◌≡◌, refl, ◌∙◌}
use mathlib.Core.List.{List, [], ◌∷◌}
use Prim.Native.Nat.{ℕ, zero, suc, ◌+◌, ◌*◌, ◌/◌, ◌%◌, ◌^◌, ◌≤◌, ◌<◌}
use native.Mathlib.Nat.{mul-suc, add-zero}
use native.Mathlib.Numerals.{unary_clauses}
use native.Mathlib.Omega.{arith}
use lib.ListN.{length, get_or, take, drop, length-drop}
use lib.Seq.{take-length, take_all, take-add, get_or-drop}
use Rattle.words.specs.Table.{table, spread}
use Rattle.words.specs.Words.{Bytes, word_of, bytes_of, bytes_of_all, word_at, word_or0, words_of, inside}
use Rattle.words.proofs.Choice.{either}
use Rattle.words.proofs.Spread.{spread-append}
use Rattle.words.proofs.Table.{length-table, table_same, table-take}

pub length_words : (n : ℕ) (s : List ℕ) → length (words_of n s) ≡ n
unfolding words_of
length_words n s = length-table _ n

word_back : (h : List ℕ) (i : ℕ) → word_at (bytes_of_all h) (4 * i) ≡ get_or h i 0
unfolding spread
word_back [] i = refl
word_back (w ∷ h) zero = omega arith
word_back (w ∷ h) (suc i) = simp unary_clauses (simp unary_clauses at (word_back h i))

-- words, spread and read again
pub words_back : (h : List ℕ) → words_of (length h) (bytes_of_all h) ≡ h
unfolding words_of
words_back h = table_same _ _ (length h) (λ i below. word_back h i) ∙ table-take h (length h) (omega arith) ∙ take-length h

-- the bytes of the word of four bytes
word_bytes : (a b c d : ℕ) → a < 256 → b < 256 → c < 256 → d < 256 → bytes_of (word_of a b c d) ≡ a ∷ b ∷ c ∷ d ∷ []
word_bytes a b c d ha hb hc hd =
    let first : word_of a b c d / 16777216 ≡ a = omega arith in
    let second : word_of a b c d / 65536 % 256 ≡ b = omega arith in
    let third : word_of a b c d / 256 % 256 ≡ c = omega arith in
    let fourth : word_of a b c d % 256 ≡ d = omega arith in
    rw (first, second, third, fourth)

bytes_front : (s : List ℕ) → Bytes s → (n : ℕ) → 4 * n ≤ length s → bytes_of_all (words_of n s) ≡ take (4 * n) s
unfolding words_of table spread
bytes_front s below zero h = refl
bytes_front s below (suc n) h =
    let at = 4 * n in
    rw (
      mul-suc 4 n,
      take-add at 4 s,
      ← table-take (drop at s) 4 (rw (length-drop at s) (omega arith)),
      spread-append bytes_of (words_of n s) (word_at s at ∷ []),
      bytes_front s below n (omega arith),
      word_bytes _ _ _ _ (below at (omega arith)) (below (at + 1) (omega arith)) (below (at + 2) (omega arith)) (below (at + 3) (omega arith)),
    )
    (simp (get_or-drop, add-zero))

-- whole words of bytes, read and spread again
pub bytes_back : (s : List ℕ) → Bytes s → (n : ℕ) → length s ≡ 4 * n → bytes_of_all (words_of n s) ≡ s
bytes_back s below n e = bytes_front s below n (omega arith) ∙ take_all (4 * n) s (omega arith)

-- a word of bytes fits in 32 bits
word_below : (a b c d : ℕ) → a < 256 → b < 256 → c < 256 → d < 256 → word_of a b c d < 2 ^ 32
word_below a b c d ha hb hc hd = omega arith

-- past the end too
byte_below : (s : List ℕ) → Bytes s → (i : ℕ) → get_or s i 0 < 256
byte_below [] below i = omega arith
byte_below (x ∷ s) below zero = below 0 (omega arith)
byte_below (x ∷ s) below (suc i) = byte_below s (λ j inside. below (suc j) (omega (arith, inside))) i

pub word_small : (s : List ℕ) → Bytes s → (at : ℕ) → word_or0 s at < 2 ^ 32
word_small s below at =
    either (λ (w : ℕ). w < 2 ^ 32) (inside s at) (word_at s at) 0
    (λ _. word_below _ _ _ _ (byte at) (byte (at + 1)) (byte (at + 2)) (byte (at + 3))) (λ _. omega arith)
  where
    byte : (i : ℕ) → get_or s i 0 < 256
    byte i = byte_below s below i
