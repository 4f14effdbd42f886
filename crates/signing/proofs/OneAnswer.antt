-- One answer only, for each public function of this crate. Assumes nothing.
use mathlib.Core.Path.{sym, ◌∙◌}
use Rattle.words.proofs.Unique.{OneResult}
use Rattle.signing.proofs.tag_and_value.Reads as tag-and-value-reads
use Rattle.signing.proofs.hashed.Reads as hashed-reads

tag_and_value_one : OneResult tag-and-value-reads.Post
tag_and_value_one κs a x y s t p q = p ∙ sym q

hashed_one : OneResult hashed-reads.Post
hashed_one κs a x y s t p q = p ∙ sym q
