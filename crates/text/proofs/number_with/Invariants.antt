-- What the loop of `number_with` keeps: the number so far, with what is left of the text behind it. Assumes nothing.
use mathlib.Core.Path.{◌≡◌}
use lib.ListN.{drop}
use Rattle.text.specs.Numbers.{number_with}
use Rattle.text.proofs.number_with.Given as goal

abbrev pub invariant-loop-character : goal.invariant-loop-character
invariant-loop-character l = number_with l.initial.number l.text ≡ number_with l.number (drop l.character-index l.text)
