-- `decision` meets its contract: the signature's check first, then those of the value. Assumes nothing.
use mathlib.Core.Path.{◌≡◌, ap, sym, ◌∙◌}
use Rattle.std.proofs.lemmas.Result.{err_from_is_err_and}
use Rattle.words.proofs.Choice.{first_told, second_told}
use Rattle.checks.specs.Failures.{status_of}
use Rattle.checks.proofs.Failures.{posts}
use Rattle.checks.proofs.LastChecks.{last_checks_lem}
use Rattle.decision.specs.Decision.{decision}
use Rattle.decision.proofs.decision.Goals as goal

pub returns-in_err-signature_status : goal.returns-in_err-signature_status
unfolding decision
returns-in_err-signature_status c =
    let told = err_from_is_err_and c.from_residual.result c.from_residual.ensures.1 in
    let first = sym c.signature_status.ensures ∙ ap status_of c.in_err-signature_status.was in
    rw (told.1, told.2, last_checks_lem, first) (first_told _ _ (posts _))

pub returns : goal.returns
unfolding decision
returns c =
    let none = sym c.signature_status.ensures ∙ ap status_of c.in_ok-signature_status.was in
    rw (c.value_status.ensures, last_checks_lem) (second_told _ _ none)
