-- Document 01, the ten checks: the status that each failure posts. Assumes nothing.
use Rattle.std.specs.Prelude.{ℕ, Result, Ok, Err}
use Rattle.checks.specs.declared.Failure.{Failure}
use Rattle.checks.specs.declared.Failure.TheVariants.{WrongState, WrongFrame, NoCounter, NotReady, WrongData, Fatal}

-- 02h: checks 6 and, of type 00, 8. 04h: checks 1 to 3 and, of the other types, 4 and 8. 06h: check 4 of type 00. 08h: check 7. 10h: check
-- 9. 20h: checks 5 and 10
abbrev pub status : Failure → ℕ
status WrongState = 0x02
status WrongFrame = 0x04
status NoCounter = 0x06
status NotReady = 0x08
status WrongData = 0x10
status Fatal = 0x20

-- 0 where no check failed
abbrev pub status_of : {A : Type 0} → Result A Failure → ℕ
status_of (Ok a) = 0
status_of (Err failure) = status failure
