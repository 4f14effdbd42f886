-- Words: all words are 4 bytes, high byte first; and bytes stored in a row. Assumes nothing.
use Rattle.std.specs.Prelude.{ℕ, ◌+◌, ◌*◌, ◌/◌, ◌%◌, ◌<◌, Bool, List, [], ◌∷◌, ◌++◌, leb, length, get_or, set, drop}
use Rattle.std.proofs.lemmas.List.Edits.{sets}
use Rattle.words.specs.Choice.{pick}
use Rattle.words.specs.Table.{table, spread}

-- each element of a list is a byte
abbrev pub Bytes : List ℕ → Type 0
Bytes s = (i : ℕ) → i < length s → get_or s i 0 < 256

-- the word of four bytes
abbrev pub word_of : ℕ → ℕ → ℕ → ℕ → ℕ
word_of a b c d = a * 16777216 + b * 65536 + c * 256 + d

-- the four bytes of a word
abbrev pub bytes_of : ℕ → List ℕ
bytes_of w = w / 16777216 ∷ w / 65536 % 256 ∷ w / 256 % 256 ∷ w % 256 ∷ []

-- the bytes of several words, one word after the other
abbrev pub bytes_of_all : List ℕ → List ℕ
bytes_of_all ws = spread bytes_of ws

-- all four bytes of the word at a place are inside
abbrev pub inside : List ℕ → ℕ → Bool
inside s at = leb (at + 4) (length s)

-- the word that starts at a place of a list of bytes
abbrev pub word_at : List ℕ → ℕ → ℕ
word_at s at = word_of (get_or s at 0) (get_or s (at + 1) 0) (get_or s (at + 2) 0) (get_or s (at + 3) 0)

-- the list with a word stored at a place: these four bytes, and no other
unfoldable pub put_word : List ℕ → ℕ → ℕ → List ℕ
put_word s at w = set (set (set (set s at (w / 16777216)) (at + 1) (w / 65536 % 256)) (at + 2) (w / 256 % 256)) (at + 3) (w % 256)

-- the first n words of a list of bytes
unfoldable pub words_of : ℕ → List ℕ → List ℕ
words_of n s = table (λ i. word_at s (4 * i)) n

-- reading: the word at a place, or 0 where it is not all inside
abbrev pub word_or0 : List ℕ → ℕ → ℕ
word_or0 s at = pick (inside s at) (word_at s at) 0

-- reading: the n words that start at a place
abbrev pub words_at : ℕ → ℕ → List ℕ → List ℕ
words_at at n s = table (λ i. word_or0 s (at + 4 * i)) n

-- storing: the list with the word at a place, or as it was where the word is not all inside
abbrev pub with_word : List ℕ → ℕ → ℕ → List ℕ
with_word s at w = pick (inside s at) (put_word s at w) s

-- storing: the list with bytes from a place on, or as it was where they are not all inside
abbrev pub with_bytes : List ℕ → ℕ → List ℕ → List ℕ
with_bytes s at bytes = pick (leb (at + length bytes) (length s)) (sets s at bytes) s

-- storing: the list with bytes at its front, and the rest as it was
unfoldable pub with_front : List ℕ → List ℕ → List ℕ
with_front bytes s = bytes ++ drop (length bytes) s
