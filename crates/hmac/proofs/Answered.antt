-- The HMAC call of a key and a message of the right lengths is done, with the HMAC. Assumes nothing.
use Prim.Native.Nat.{ℕ, ◌≤◌}
use mathlib.Core.Path.{◌≡◌}
use mathlib.Core.List.{List}
use borrow.Author.Tests.{eq-eqb, le-ltb}
use lib.ListN.{length}
use Rattle.words.specs.Choice.{pick}
use Rattle.words.specs.Rows.{first_of}
use Rattle.hash.specs.Answer.{done}
use Rattle.hmac.specs.Hmac.{HMAC}
use Rattle.hmac.specs.Answer.{hmac_answer}

pub hmac_done : (key message : List ℕ) → length key ≡ 32 → length message ≤ 55 → hmac_answer key message ≡ done (HMAC key message)
unfolding hmac_answer first_of pick
hmac_done key message size short = rw (eq-eqb (length key) 32 size, le-ltb 55 (length message) short)
