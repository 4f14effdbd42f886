-- What holds of every row of the frame table, row by row. Assumes nothing.
use Prim.Native.Nat.{ℕ, zero, suc, ◌≤◌}
use native.Mathlib.Omega.{arith}
use Rattle.frames.specs.Layout.{layout_of}

-- no command frame is shorter than 40 bytes
pub long_frames : (type : ℕ) → type ≤ 3 → 40 ≤ (layout_of type).size
long_frames zero h = omega arith
long_frames (suc zero) h = omega arith
long_frames (suc (suc zero)) h = omega arith
long_frames (suc (suc (suc zero))) h = omega arith
long_frames (suc (suc (suc (suc n)))) h = absurd (omega arith)
