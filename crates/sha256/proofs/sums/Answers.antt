-- `sums` meets its contract: the sum at each place. Assumes nothing.
use Rattle.std.proofs.Common.{◌+◌, ◌%◌, ◌^◌, slice_index, rules, tests}
use Rattle.sha256.specs.Block.{sums}
use Rattle.sha256.proofs.Made.{made}
use Rattle.sha256.proofs.sums.Goals as goal

pub returns : goal.returns
unfolding sums
returns c = made _ (λ i. (slice_index c.args.v i + slice_index c.args.h i) % 2 ^ 32) _ (λ i y q k. search (rules, tests)) _ 8 c.from_fn.ensures.items
