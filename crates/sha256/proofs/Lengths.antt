-- The chaining words are eight. Assumes nothing.
use Rattle.std.proofs.Common.{◌≡◌, ℕ, List, length}
use Rattle.words.proofs.Table.{length-table}
use Rattle.sha256.specs.Block.{sums, block}

pub length-block : (H M : List ℕ) → length (block H M) ≡ 8
unfolding block sums
length-block H M = length-table _ 8
