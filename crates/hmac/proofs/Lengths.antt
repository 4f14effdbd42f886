-- An HMAC has 32 bytes, of whatever key and text. Assumes nothing.
use Prim.Native.Nat.{ℕ}
use mathlib.Core.Path.{◌≡◌}
use mathlib.Core.List.{List}
use lib.ListN.{length}
use Rattle.hash.proofs.Lengths.{length-sha256}
use Rattle.hmac.specs.Hmac.{HMAC}

pub length-HMAC : (key text : List ℕ) → length (HMAC key text) ≡ 32
unfolding HMAC
length-HMAC key text = length-sha256 _
