-- One answer only, for each public function of this crate. Assumes nothing.
use mathlib.Core.Path.{sym, ◌∙◌}
use Rattle.words.proofs.Unique.{OneResult}
use Rattle.hash.proofs.Answer.{one_result}
use Rattle.hmac.proofs.chain_after.Reads as chain-after-reads
use Rattle.hmac.proofs.hmac.Reads as hmac-reads

chain_after_one : OneResult chain-after-reads.Post
chain_after_one κs a x y s t p q = p ∙ sym q

hmac_one : OneResult hmac-reads.Post
hmac_one κs a x y s t p q = one_result x y (p ∙ sym q)
