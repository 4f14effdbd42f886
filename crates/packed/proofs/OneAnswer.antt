-- One answer only, for each public function of this crate. Assumes nothing.
use mathlib.Core.Path.{sym, ◌∙◌}
use Rattle.words.proofs.Unique.{OneResult, OneLent}
use Rattle.packed.proofs.unpack.Reads as unpack-reads
use Rattle.packed.proofs.pack.Reads as pack-reads

unpack_one : OneResult unpack-reads.Post
unpack_one κs a x y s t p q = p ∙ sym q

pack_one : OneLent pack-reads.Post (λ κs s. s.1.0.now)
pack_one κs a x y s t p q = p ∙ sym q
