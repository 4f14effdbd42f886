-- Document 01, the program `rpmcrun`: numbers are decimal. Assumes nothing.
use Rattle.std.specs.Prelude.{ℕ, ◌+◌, ◌-◌, ◌*◌, Option, Some, None, List, [], ◌∷◌, ltb, eqb, option_and_then}
use Rattle.words.specs.Choice.{pick}

-- the value of a digit's character; none of any other character
unfoldable pub value_of : ℕ → Option ℕ
value_of character = pick (ltb character 48) None (pick (ltb 57 character) None (Some (character - 48)))

-- a number with one more digit behind it: no number begins with a zero and goes on, and none has more than three digits
unfoldable pub with_digit : ℕ → ℕ → Option ℕ
with_digit number digit = pick (eqb number 0) None (pick (ltb number 100) (Some (10 * number + digit)) None)

-- a number with the digits of a text behind it, or none
unfoldable pub number_with : ℕ → List ℕ → Option ℕ
number_with number [] = Some number
number_with number (character ∷ text) =
    option_and_then (λ more. number_with more text) (option_and_then (with_digit number) (value_of character))

-- the number that a text is, or none
unfoldable pub number_in : List ℕ → Option ℕ
number_in [] = None
number_in (character ∷ text) = option_and_then (λ number. number_with number text) (value_of character)
