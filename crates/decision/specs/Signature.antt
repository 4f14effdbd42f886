-- Document 01, "A taken OP1 frame": what the signature in a frame has to be. Assumes nothing.
use Rattle.std.specs.Prelude.{ℕ, ◌-◌, Bool, List}
use Rattle.words.specs.Table.{field}
use Rattle.compare.specs.Compare.{same_bytes}
use Rattle.frames.specs.Layout.{layout_of, signature_in}
use Rattle.jobs.specs.Jobs.{command_type}
use Rattle.jobs.specs.declared.Command.{Command}
use Rattle.jobs.specs.declared.Command.TheVariants.{WriteRootKey, UpdateSessionKey, IncrementCounter, RequestCounter}

-- type 00: the last bytes of the digest, as many as are sent; the others: all
abbrev pub signature_of : Command → List ℕ → List ℕ
signature_of WriteRootKey digest = field (32 - (layout_of 0).sent) (layout_of 0).sent digest
signature_of UpdateSessionKey digest = digest
signature_of IncrementCounter digest = digest
signature_of RequestCounter digest = digest

-- the signature in a frame is that of the digest
unfoldable pub signature_holds : Command → List ℕ → List ℕ → Bool
signature_holds command frame digest = same_bytes (signature_of command digest) (signature_in (command_type command) frame)
