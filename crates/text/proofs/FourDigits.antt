-- Four digits or more are no number: each digit more takes a number past ten, then past a hundred, and then there is none. Assumes
-- nothing.
use Prim.Native.Nat.{ℕ, ◌*◌, ◌≤◌, ◌<◌}
use mathlib.Core.Path.{◌≡◌, refl}
use mathlib.Core.List.{List, ◌∷◌}
use native.Mathlib.Omega.{arith}
use lib.ListN.{length}
use Rattle.std.specs.Prelude.{Option, Some, None, option_and_then}
use Rattle.std.proofs.lemmas.Grind.{common_steps}
use Rattle.words.specs.Choice.{pick}
use Rattle.text.specs.Numbers.{value_of, with_digit, number_with, number_in}

-- none behind each value is none
nothing : (f : ℕ → Option ℕ) (o : Option ℕ) → ((n : ℕ) → o ≡ Some n → f n ≡ None) → option_and_then f o ≡ None
nothing f None h = refl
nothing f (Some n) h = h n refl

-- what a digit more makes of a number, where there is a number
record Goes (number more : ℕ) : Type 0 where
  some : 1 ≤ number
  short : number < 100
  longer : 10 * number ≤ more

goes_on : (number digit more : ℕ) → with_digit number digit ≡ Some more → Goes number more
unfolding with_digit pick
goes_on number digit more e = grind (arith, common_steps)

-- no number behind each digit is no number
no_more :
    (number character : ℕ) (text : List ℕ) → ((more : ℕ) → Goes number more → number_with more text ≡ None) →
    number_with number (character ∷ text) ≡ None
unfolding number_with
no_more number character text h = by_digit (value_of character)
  where
    by_digit : (o : Option ℕ) → option_and_then (λ more. number_with more text) (option_and_then (with_digit number) o) ≡ None
    by_digit None = refl
    by_digit (Some digit) = nothing (λ more. number_with more text) (with_digit number digit) (λ more e. h more (goes_on number digit more e))

three_more : (number : ℕ) (b c d : ℕ) (text : List ℕ) → number_with number (b ∷ c ∷ d ∷ text) ≡ None
three_more number b c d text =
    no_more number b _
    (λ ten first. no_more ten c _ (λ hundred second. no_more hundred d text (λ more third. absurd (omega arith))))

-- four digits or more are no number
pub long_number : (text : List ℕ) → 3 < length text → number_in text ≡ None
unfolding number_in
long_number (a ∷ b ∷ c ∷ d ∷ text) h = nothing _ (value_of a) (λ number e. three_more number b c d text)
long_number _ h = absurd (omega arith)
