-- Bytes as hexadecimal digits, upper case, the high digit first, and back. Assumes nothing.
use Rattle.std.specs.Prelude.{ℕ, ◌+◌, ◌-◌, ◌*◌, ◌/◌, ◌%◌, Bool, Option, Some, None, List, [], ◌∷◌, ◌++◌, ltb, leb, eqb, length, get_or, drop, is_some, unwrap_or}
use Rattle.std.specs.List.{list_all}
use Rattle.words.specs.Choice.{pick}
use Rattle.words.specs.Table.{table, spread}

-- the character of a digit: 0 to 9, then A to F
abbrev pub digit_of : ℕ → ℕ
digit_of n = pick (ltb n 10) (48 + n) (55 + n)

-- the two digits of a byte
abbrev pub digits_of : ℕ → List ℕ
digits_of b = digit_of (b / 16) ∷ digit_of (b % 16) ∷ []

-- the digits of several bytes, one byte after the other
abbrev pub digits_of_all : List ℕ → List ℕ
digits_of_all bytes = spread digits_of bytes

-- a buffer with the digits at its front, if it has room for them
unfoldable pub with_digits : List ℕ → List ℕ → List ℕ
with_digits bytes out = pick (leb (2 * length bytes) (length out)) (digits_of_all bytes ++ drop (2 * length bytes) out) out

-- the value of a digit's character; none of any other character
unfoldable pub value_of : ℕ → Option ℕ
value_of character =
    pick (ltb character 48) None
    (pick (ltb character 58) (Some (character - 48))
    (pick (ltb character 65) None
    (pick (ltb character 71) (Some (character - 55))
    None)))

-- every character is a digit's
unfoldable pub all_digits : List ℕ → Bool
all_digits text = list_all (λ character. is_some (value_of character)) text

-- the byte of two digits' characters; any other character counts as 0
abbrev pub byte_of : ℕ → ℕ → ℕ
byte_of high low = 16 * unwrap_or (value_of high) 0 + unwrap_or (value_of low) 0

-- the byte of the two digits at a place
abbrev pub byte_at : List ℕ → ℕ → ℕ
byte_at text i = byte_of (get_or text (2 * i) 0) (get_or text (2 * i + 1) 0)

-- the bytes that a text of digits stands for; none for any other text
unfoldable pub bytes_in : List ℕ → List ℕ
bytes_in text = pick (eqb (length text % 2) 0) (pick (all_digits text) (table (byte_at text) (length text / 2)) []) []

-- those bytes where there is room for them; none where there is not
unfoldable pub readable : ℕ → List ℕ → List ℕ
readable room text = pick (ltb room (length text / 2)) [] (bytes_in text)
