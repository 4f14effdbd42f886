-- One answer only, for each public function of this crate. Assumes nothing.
use Rattle.std.proofs.Common.{sym, ◌∙◌}
use Rattle.words.proofs.Unique.{OneResult}
use Rattle.sha256.proofs.initial.Reads as initial-reads
use Rattle.sha256.proofs.block.Reads as block-reads

initial_one : OneResult initial-reads.Post
initial_one κs a x y s t p q = p ∙ sym q

block_one : OneResult block-reads.Post
block_one κs a x y s t p q = p ∙ sym q
