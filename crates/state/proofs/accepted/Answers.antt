-- `accepted` meets its contract: 1 to 3 come first. Assumes nothing.
use Prim.Native.Nat.{ℕ}
use mathlib.Core.Path.{◌≡◌, ap, sym, ◌∙◌}
use Rattle.std.proofs.lemmas.Result.{err_from_is_err_and}
use Rattle.words.proofs.Choice.{first_told, second_told}
use Rattle.refusals.specs.Numbers.{number_of}
use Rattle.refusals.proofs.Numbers.{numbered}
use Rattle.state.proofs.Refused.{device-refusal}
use Rattle.state.proofs.accepted.Goals as goal

pub returns-in_err-accepted : goal.returns-in_err-accepted
returns-in_err-accepted c =
    let told = err_from_is_err_and c.from_residual.result c.from_residual.ensures.1 in
    let first = sym c.accepted.ensures ∙ ap number_of c.in_err-accepted.was in
    rw (told.1, told.2, device-refusal c.args.image.now c.args.s, first) (first_told _ _ (numbered _))

pub returns : goal.returns
returns c =
    let none = sym c.accepted.ensures ∙ ap number_of c.in_ok-accepted.was in
    rw (c.job_accepted.ensures, c.count.ensures, device-refusal c.args.image.now c.args.s) (second_told _ _ none)
