-- Document 01, the program `rpmcrun`: each output line repeats the letter, then the answer number, then for `R` the bytes, for `S`
-- the steps done; the first line is the count. Assumes nothing.
use Rattle.std.specs.Prelude.{ℕ, ◌+◌, ◌/◌, ◌%◌, List, [], ◌∷◌, ◌++◌, ltb, length}
use Rattle.words.specs.Choice.{pick}
use Rattle.hexadecimal.specs.Hex.{digits_of_all}

abbrev pub blank : ℕ
blank = 32

abbrev pub newline : ℕ
newline = 10

-- a number below 100 in decimal digits: an answer number is below 10, and no job has more than 15 steps
unfoldable pub decimal : ℕ → List ℕ
decimal n = pick (ltb n 10) ((48 + n % 10) ∷ []) ((48 + n / 10 % 10) ∷ (48 + n % 10) ∷ [])

-- the letter and the answer number
abbrev pub opening : ℕ → ℕ → List ℕ
opening letter number = letter ∷ blank ∷ (48 + number % 10) ∷ []

-- `P 0`, `F 0`
unfoldable pub number_line : ℕ → ℕ → List ℕ
number_line letter number = opening letter number ++ (newline ∷ [])

-- `S 0 4`
unfoldable pub work_line : ℕ → ℕ → List ℕ
work_line number steps = opening 83 number ++ (blank ∷ []) ++ decimal steps ++ (newline ∷ [])

-- `R 0 00FF`
unfoldable pub read_line : ℕ → List ℕ → List ℕ
read_line number bytes = opening 82 number ++ (blank ∷ []) ++ digits_of_all bytes ++ (newline ∷ [])

-- any other line prints `?`
abbrev pub unknown_line : List ℕ
unknown_line = 63 ∷ newline ∷ []

-- the first line: `counters 4`
unfoldable pub count_line : ℕ → List ℕ
count_line count = (99 ∷ 111 ∷ 117 ∷ 110 ∷ 116 ∷ 101 ∷ 114 ∷ 115 ∷ 32 ∷ []) ++ decimal count ++ (newline ∷ [])

-- the line of a read, or `?` where it would be longer than a line is: no line asks for more than 256 bytes
unfoldable pub fitting_read_line : ℕ → List ℕ → List ℕ
fitting_read_line number bytes = pick (ltb 256 (length bytes)) unknown_line (read_line number bytes)
