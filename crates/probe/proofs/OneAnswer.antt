-- One answer only, for each public function of this crate. Assumes nothing.
use mathlib.Core.Path.{sym, ◌∙◌}
use Rattle.words.proofs.Unique.{OneResult, OneLent}
use Rattle.probe.proofs.probe_block.Reads as probe-block-reads
use Rattle.probe.proofs.probe_hash.Reads as probe-hash-reads
use Rattle.probe.proofs.probe_hmac.Reads as probe-hmac-reads

probe_block_one : OneLent probe-block-reads.Post (λ κs s. s.0.now)
probe_block_one κs a x y s t p q = p ∙ sym q

probe_hash_one : OneResult probe-hash-reads.Post
probe_hash_one κs a x y s t p q = p.0 ∙ sym q.0

probe_hash_one_lent : OneLent probe-hash-reads.Post (λ κs s. s.1.0.now)
probe_hash_one_lent κs a x y s t p q = p.1 ∙ sym q.1

probe_hmac_one : OneResult probe-hmac-reads.Post
probe_hmac_one κs a x y s t p q = p.0 ∙ sym q.0

probe_hmac_one_lent : OneLent probe-hmac-reads.Post (λ κs s. s.1.1.0.now)
probe_hmac_one_lent κs a x y s t p q = p.1 ∙ sym q.1
