-- One answer only, for each public function of this crate. Assumes nothing.
use mathlib.Core.Path.{sym, ◌∙◌}
use Rattle.words.proofs.Unique.{OneResult}
use Rattle.hash.proofs.Answer.{one_result}
use Rattle.hash.proofs.digest.Reads as digest-reads
use Rattle.hash.proofs.words_of.Reads as words-of-reads
use Rattle.hash.proofs.last_block.Reads as last-block-reads
use Rattle.hash.proofs.hash.Reads as hash-reads

digest_one : OneResult digest-reads.Post
digest_one κs a x y s t p q = p ∙ sym q

words_of_one : OneResult words-of-reads.Post
words_of_one κs a x y s t p q = p ∙ sym q

last_block_one : OneResult last-block-reads.Post
last_block_one κs a x y s t p q = p ∙ sym q

hash_one : OneResult hash-reads.Post
hash_one κs a x y s t p q = one_result x y (p ∙ sym q)
