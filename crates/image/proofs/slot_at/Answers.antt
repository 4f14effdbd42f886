-- `slot_at` meets its contract: a word times a byte fits 64 bits. Assumes nothing.
use Prim.Native.Nat.{◌*◌, ◌≤◌}
use native.Mathlib.Nat.{mul-le-mul_left}
use native.Mathlib.Omega.{arith}
use Rattle.image.specs.Header.{slot_at}
use Rattle.image.proofs.slot_at.Goals as goal

-- the slot size times the counter number
product : (c : goal.After-get-2) → c.get-2.result * c.args.counter ≤ c.get-2.result * 255
product c = mul-le-mul_left c.get-2.result (omega arith)

pub overflow_mul-result : goal.overflow_mul-result
overflow_mul-result c = omega (arith, product c)

pub overflow_add-result : goal.overflow_add-result
overflow_add-result c = omega (arith, product c)

pub returns : goal.returns
unfolding slot_at
returns c = (rw (← c.get-2.ensures, ← c.get.ensures), omega (arith, product c))
