-- One answer only, for each public function of this crate. Assumes nothing.
use mathlib.Core.Path.{sym, ◌∙◌}
use Rattle.words.proofs.Unique.{OneResult}
use Rattle.arrival.proofs.arrived.Reads as arrived-reads

arrived_one : OneResult arrived-reads.Post
arrived_one κs a x y s t p q = p ∙ sym q
