-- Document 01, "A taken OP1 frame": checks 8 to 10. The first failing check decides: its status, or 0 where none fails. Assumes
-- nothing.
use Rattle.std.specs.Prelude.{ℕ, List}
use Rattle.words.specs.Rows.{Row, first_failing}
use Rattle.words.specs.Words.{word_or0}
use Rattle.checks.specs.Checks.{last_checks}
use Rattle.jobs.specs.Jobs.{command_type}
use Rattle.jobs.specs.declared.Command.{Command}
use Rattle.decision.specs.Signature.{signature_holds}

-- checks 8 to 10 of a frame, with the digest that the signature has to be of, and the counter value; type 02 has its data at 4-7
abbrev pub last_checks_of : Command → List ℕ → List ℕ → ℕ → List (Row ℕ)
last_checks_of command frame digest value =
    last_checks (command_type command) (signature_holds command frame digest) (word_or0 frame 4) value

unfoldable pub decision : Command → List ℕ → List ℕ → ℕ → ℕ
decision command frame digest value = first_failing (last_checks_of command frame digest value)
