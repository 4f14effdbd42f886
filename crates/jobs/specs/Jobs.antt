-- Document 01, "Steps": the seven kinds of job, their lengths, and the commands that they belong to. Assumes nothing.
use Rattle.std.specs.Prelude.{◌≡◌, ℕ, ◌<◌, max, Bool, List, [], ◌∷◌, eqb, Result, MatchResult}
use Rattle.words.specs.Choice.{pick}
use Rattle.image.specs.Slot.{is_set}
use Rattle.jobs.specs.declared.Command.{Command}
use Rattle.jobs.specs.declared.Command.TheVariants.{WriteRootKey, UpdateSessionKey, IncrementCounter, RequestCounter}
use Rattle.jobs.specs.declared.UnknownType.{UnknownType}
use Rattle.jobs.specs.declared.Kind.{Kind}
use Rattle.jobs.specs.declared.Kind.TheVariants.{RootKeyAndCounter, RootKey, SessionKey, Increment, Request, TemporaryKeyAndCounter, TemporaryKey}

-- how many steps a kind of job takes if no check fails
abbrev pub length_of : Kind → ℕ
length_of RootKeyAndCounter = 15
length_of RootKey = 13
length_of TemporaryKeyAndCounter = 6
length_of TemporaryKey = 4
length_of SessionKey = 8
length_of Increment = 5
length_of Request = 8

-- all kinds of job
abbrev pub kinds : List Kind
kinds = RootKeyAndCounter ∷ RootKey ∷ TemporaryKeyAndCounter ∷ TemporaryKey ∷ SessionKey ∷ Increment ∷ Request ∷ []

-- the largest of the lengths of some kinds
unfoldable pub longest_of : List Kind → ℕ
longest_of [] = 0
longest_of (kind ∷ more) = max (length_of kind) (longest_of more)

-- the length of the longest job
unfoldable pub longest : ℕ
longest = longest_of kinds

-- the command that a kind of job carries out: types 00, 01, 02, 03
abbrev pub command_of : Kind → Command
command_of RootKeyAndCounter = WriteRootKey
command_of RootKey = WriteRootKey
command_of TemporaryKeyAndCounter = WriteRootKey
command_of TemporaryKey = WriteRootKey
command_of SessionKey = UpdateSessionKey
command_of Increment = IncrementCounter
command_of Request = RequestCounter

-- the type of a command
abbrev pub command_type : Command → ℕ
command_type WriteRootKey = 0
command_type UpdateSessionKey = 1
command_type IncrementCounter = 2
command_type RequestCounter = 3

-- what the type of a frame says: the command of this type, or that no command has it
abbrev pub IsTyped : ℕ → Result Command UnknownType → Type 0
IsTyped type r = MatchResult r (λ command. command_type command ≡ type) (λ unknown. 3 < type)

-- a signature check takes 4 blocks; type 01 takes 8, key first. Checks 8 to 10 are made in the last of these steps
abbrev pub signature_steps : Command → ℕ
signature_steps WriteRootKey = 4
signature_steps UpdateSessionKey = 8
signature_steps IncrementCounter = 4
signature_steps RequestCounter = 4

-- the steps that are one block each: type 03 has 4 more, for the reply
abbrev pub hash_steps : Command → ℕ
hash_steps WriteRootKey = 4
hash_steps UpdateSessionKey = 8
hash_steps IncrementCounter = 4
hash_steps RequestCounter = 8

-- the kind of a root key frame: whether the key is all FFh, and the counter's state word
unfoldable pub root_kind : Bool → ℕ → Kind
root_kind temporary counter_state =
    pick temporary (pick (is_set counter_state) TemporaryKey TemporaryKeyAndCounter) (pick (is_set counter_state) RootKey RootKeyAndCounter)

-- the kind of job that a frame starts, by its type
unfoldable pub kind_of : ℕ → Bool → ℕ → Kind
kind_of type temporary counter_state =
    pick (eqb type 0) (root_kind temporary counter_state)
    (pick (eqb type 1) SessionKey
    (pick (eqb type 2) Increment Request))
