-- One answer only, for each public function of this crate. Assumes nothing.
use mathlib.Core.Path.{sym, ◌∙◌}
use Rattle.words.proofs.Unique.{OneResult, OneLent}
use Rattle.frames.proofs.class_of.Reads as class-of-reads
use Rattle.frames.proofs.fill_read.Reads as fill-read-reads

class_of_one : OneResult class-of-reads.Post
class_of_one κs a x y s t p q = p ∙ sym q

fill_read_one : OneLent fill-read-reads.Post (λ κs s. s.1.1.1.0.now)
fill_read_one κs a x y s t p q = p ∙ sym q
