-- One answer only, for each public function of this crate. Assumes nothing.
use mathlib.Core.Path.{sym, ◌∙◌}
use Rattle.words.proofs.Unique.{OneResult}
use Rattle.compare.proofs.same.Reads as same-reads

same_one : OneResult same-reads.Post
same_one κs a x y s t p q = p ∙ sym q
