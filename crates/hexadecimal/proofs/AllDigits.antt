-- Each character of a text that is all digits is one: it has a value, below 16. Assumes nothing.
use mathlib.Core.Path.{◌≡◌, refl, sym, ◌∙◌}
use mathlib.Core.Bool.{Bool, true, false}
use mathlib.Core.List.{List}
use Prim.Native.Nat.{ℕ, ◌<◌}
use native.Mathlib.Omega.{arith}
use lib.ListN.{length, get_or}
use Rattle.std.specs.Prelude.{is_some, unwrap_or}
use Rattle.std.proofs.lemmas.Grind.{common_steps}
use Rattle.std.proofs.lemmas.List.Folds.{list_all_at}
use Rattle.words.specs.Choice.{pick}
use Rattle.words.proofs.Choice.{never}
use Rattle.hexadecimal.specs.Hex.{value_of, all_digits}

-- a digit's value; 16 stands for none
pub value_below : (character : ℕ) → is_some (value_of character) ≡ true → unwrap_or (value_of character) 16 < 16
unfolding value_of pick
value_below character h = grind (arith, common_steps)

pub each_digit : (text : List ℕ) (i : ℕ) → all_digits text ≡ true → i < length text → unwrap_or (value_of (get_or text i 0)) 16 < 16
unfolding all_digits
each_digit text i e h = by_value (is_some (value_of (get_or text i 0))) refl
  where
    by_value : (t : Bool) → is_some (value_of (get_or text i 0)) ≡ t → unwrap_or (value_of (get_or text i 0)) 16 < 16
    by_value true s = value_below (get_or text i 0) s
    by_value false s = absurd (never (sym (list_all_at (λ character. is_some (value_of character)) text i 0 h s) ∙ e))
