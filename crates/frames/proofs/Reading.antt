-- While busy, the read shows 01h and nothing else. Assumes nothing.
use Prim.Native.Nat.{ℕ}
use mathlib.Core.Path.{◌≡◌}
use mathlib.Core.Bool.{true}
use lib.ListN.{replicate}
use Rattle.words.specs.Choice.{pick}
use Rattle.words.proofs.Table.{table-replicate}
use Rattle.frames.specs.declared.Reply.{Reply}
use Rattle.frames.specs.Reading.{read_byte, read_output}

pub busy-read : (status : ℕ) (reply : Reply) (size : ℕ) → read_output true status reply size ≡ replicate size 0x01
unfolding read_output read_byte pick
busy-read status reply size = table-replicate 0x01 size
