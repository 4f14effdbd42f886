-- No kind of job is longer than the longest, which is as long as document 01 says; none is without steps, nor shorter than its
-- signature check, which has a step: each kind is looked at once. Assumes nothing.
use Prim.Native.Nat.{◌<◌, ◌≤◌}
use mathlib.Core.Path.{◌≡◌, refl}
use native.Mathlib.Omega.{arith}
use Rattle.jobs.specs.declared.Command.{Command}
use Rattle.jobs.specs.declared.Command.TheVariants.{WriteRootKey, UpdateSessionKey, IncrementCounter, RequestCounter}
use Rattle.jobs.specs.declared.Kind.{Kind}
use Rattle.jobs.specs.declared.Kind.TheVariants.{RootKeyAndCounter, RootKey, SessionKey, Increment, Request, TemporaryKeyAndCounter, TemporaryKey}
use Rattle.jobs.specs.Jobs.{length_of, longest_of, longest, command_of, signature_steps}

-- "busy clears after at most 15 steps"
pub longest_job : longest ≡ 15
unfolding longest longest_of
longest_job = refl

pub at_most : (kind : Kind) → length_of kind ≤ longest
at_most RootKeyAndCounter = omega (arith, longest_job)
at_most RootKey = omega (arith, longest_job)
at_most TemporaryKeyAndCounter = omega (arith, longest_job)
at_most TemporaryKey = omega (arith, longest_job)
at_most SessionKey = omega (arith, longest_job)
at_most Increment = omega (arith, longest_job)
at_most Request = omega (arith, longest_job)

pub some_steps : (kind : Kind) → 0 < length_of kind
some_steps RootKeyAndCounter = omega arith
some_steps RootKey = omega arith
some_steps TemporaryKeyAndCounter = omega arith
some_steps TemporaryKey = omega arith
some_steps SessionKey = omega arith
some_steps Increment = omega arith
some_steps Request = omega arith

-- the signature check
pub some-blocks : (command : Command) → 0 < signature_steps command
some-blocks WriteRootKey = omega arith
some-blocks UpdateSessionKey = omega arith
some-blocks IncrementCounter = omega arith
some-blocks RequestCounter = omega arith

pub checked-within : (kind : Kind) → signature_steps (command_of kind) ≤ length_of kind
checked-within RootKeyAndCounter = omega arith
checked-within RootKey = omega arith
checked-within TemporaryKeyAndCounter = omega arith
checked-within TemporaryKey = omega arith
checked-within SessionKey = omega arith
checked-within Increment = omega arith
checked-within Request = omega arith
