-- What the loop of `key_block` keeps: the front of the buffer is the key, each byte xored with the pad. Assumes nothing.
use Rattle.std.proofs.Common.{◌≡◌, ◌++◌, take, drop}
use Rattle.hmac.specs.Hmac.{xor_each}
use Rattle.hmac.proofs.key_block.Given as goal

abbrev pub invariant-loop-i : goal.invariant-loop-i
invariant-loop-i l = l.b ≡ xor_each l.pad (take l.i l.fn.key) ++ drop l.i l.initial.b
