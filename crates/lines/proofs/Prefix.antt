-- What stands at the front of a room, and the front of a room of zeros. Assumes nothing.
use Prim.Native.Nat.{ℕ, ◌≤◌}
use mathlib.Core.Path.{◌≡◌, refl}
use mathlib.Core.List.{List}
use native.Mathlib.Omega.{arith}
use lib.ListN.{length, take, drop, replicate, length-append}
use lib.Seq.{take_at}
use Rattle.std.proofs.lemmas.List.{take-replicate}
use Rattle.words.specs.Words.{with_front}

module _ (bytes room : List ℕ) where
  pub front_fits : length bytes ≤ length (with_front bytes room)
  unfolding with_front
  front_fits = rw (length-append bytes (drop (length bytes) room)) (omega arith)

  pub front_is : take (length bytes) (with_front bytes room) ≡ bytes
  unfolding with_front
  front_is = take_at bytes _ (length bytes) refl

pub zeros_front : (n : ℕ) → n ≤ 256 → take n (replicate {A = ℕ} 256 0) ≡ replicate n 0
zeros_front n h = take-replicate n 256 0 h
