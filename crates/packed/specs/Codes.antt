-- A flag and a kind of job as one byte each. Assumes nothing.
use Rattle.std.specs.Prelude.{ℕ, Bool, eqb}
use Rattle.words.specs.Choice.{pick}
use Rattle.jobs.specs.declared.Kind.{Kind}
use Rattle.jobs.specs.declared.Kind.TheVariants.{RootKeyAndCounter, RootKey, SessionKey, Increment, Request, TemporaryKeyAndCounter, TemporaryKey}

-- 1 where the flag holds, else 0
abbrev pub flag_byte : Bool → ℕ
flag_byte flag = pick flag 1 0

-- a flag holds exactly when its byte is 1
abbrev pub flag_of : ℕ → Bool
flag_of byte = eqb byte 1

-- the kinds of job by number
abbrev pub kind_byte : Kind → ℕ
kind_byte RootKeyAndCounter = 0
kind_byte RootKey = 1
kind_byte TemporaryKeyAndCounter = 2
kind_byte TemporaryKey = 3
kind_byte SessionKey = 4
kind_byte Increment = 5
kind_byte Request = 6

-- the kind of a number; above 6 it is a request
unfoldable pub kind_of : ℕ → Kind
kind_of byte =
    pick (eqb byte 0) RootKeyAndCounter
    (pick (eqb byte 1) RootKey
    (pick (eqb byte 2) TemporaryKeyAndCounter
    (pick (eqb byte 3) TemporaryKey
    (pick (eqb byte 4) SessionKey
    (pick (eqb byte 5) Increment Request)))))
