-- Checks 8 to 10 are that of the signature, and where it does not fail those of the value: the table is the one behind the other.
-- Assumes nothing.
use Prim.Native.Nat.{ℕ}
use mathlib.Core.Path.{◌≡◌, refl}
use mathlib.Core.Bool.{Bool}
use Rattle.words.specs.Choice.{pick, or_else}
use Rattle.words.specs.Rows.{first_failing}
use Rattle.words.proofs.Rows.{first-append}
use Rattle.checks.specs.Checks.{signature_checks, value_checks, last_checks}

pub last_checks_lem :
    (type : ℕ) (holds : Bool) (sent value : ℕ) →
    first_failing (last_checks type holds sent value) ≡ or_else (first_failing (signature_checks type holds)) (first_failing (value_checks type sent value))
unfolding pick
last_checks_lem type holds sent value = first-append (signature_checks type holds) (value_checks type sent value) refl
