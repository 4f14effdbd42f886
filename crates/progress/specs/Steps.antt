-- Document 01, "Steps": how many steps a command frame that finds the device idle takes, until it is idle again. Assumes nothing.
use Rattle.std.specs.Prelude.{ℕ, List, eqb}
use Rattle.words.specs.Choice.{pick}
use Rattle.jobs.specs.Jobs.{length_of, command_of, signature_steps}
use Rattle.rules.specs.Whole.{Outcome, kind_in, status_on_arrival, last_status}

-- of a frame that checks 1 to 7 let through: 15, 13, 6, 4, 8, 5, 8 by its kind of job; if one of checks 8 to 10 fails, those of the
-- signature check, 4, or 8 for type 01
abbrev pub steps_of_job : Outcome → List ℕ → ℕ
steps_of_job o frame =
    pick (eqb (last_status (command_of (kind_in o frame)) o frame) 0) (length_of (kind_in o frame))
    (signature_steps (command_of (kind_in o frame)))

-- of any command frame: none if one of checks 1 to 7 fails
unfoldable pub steps_of : Outcome → List ℕ → ℕ
steps_of o frame = pick (eqb (status_on_arrival o.image o.keys frame) 0) (steps_of_job o frame) 0
