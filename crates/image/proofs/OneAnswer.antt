-- One answer only, for each public function of this crate. Assumes nothing.
use mathlib.Core.Path.{sym, ◌∙◌}
use Rattle.words.proofs.Unique.{OneResult}
use Rattle.refusals.proofs.Numbers.{one_outcome}
use Rattle.image.proofs.count.Reads as count-reads
use Rattle.image.proofs.accepted.Reads as accepted-reads
use Rattle.image.proofs.slot_at.Reads as slot-at-reads
use Rattle.image.proofs.slot_of.Reads as slot-of-reads
use Rattle.image.proofs.is_bad.Reads as is-bad-reads
use Rattle.image.proofs.root_key.Reads as root-key-reads

count_one : OneResult count-reads.Post
count_one κs a x y s t p q = p ∙ sym q

accepted_one : OneResult accepted-reads.Post
accepted_one κs a x y s t p q = one_outcome x y (p ∙ sym q)

slot_at_one : OneResult slot-at-reads.Post
slot_at_one κs a x y s t p q = p.0 ∙ sym q.0

slot_of_one : OneResult slot-of-reads.Post
slot_of_one κs a x y s t p q = p ∙ sym q

is_bad_one : OneResult is-bad-reads.Post
is_bad_one κs a x y s t p q = p ∙ sym q

root_key_one : OneResult root-key-reads.Post
root_key_one κs a x y s t p q = p ∙ sym q
