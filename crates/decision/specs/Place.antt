-- Where the code looks for a signature, for the contracts of its private functions alone: what a signature has to be stands in
-- `Signature`. Assumes nothing.
use Rattle.std.specs.Prelude.{ℕ, ◌+◌, ◌-◌}
use Rattle.frames.specs.Layout.{layout_of}
use Rattle.jobs.specs.declared.Command.{Command}
use Rattle.jobs.specs.declared.Command.TheVariants.{WriteRootKey, UpdateSessionKey, IncrementCounter, RequestCounter}

-- where 32 bytes would start of which the last ones are sent: of type 00 its first bytes are in the place of the key's end
abbrev pub start : ℕ → ℕ
start type = (layout_of type).at + (layout_of type).sent - 32

abbrev pub signature_at : Command → ℕ
signature_at WriteRootKey = start 0
signature_at UpdateSessionKey = start 1
signature_at IncrementCounter = start 2
signature_at RequestCounter = start 3
