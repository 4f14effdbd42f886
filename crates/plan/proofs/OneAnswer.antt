-- One answer only, for each public function of this crate. Assumes nothing.
use mathlib.Core.Path.{sym, ◌∙◌}
use Rattle.words.proofs.Unique.{OneResult, OneLent}
use Rattle.plan.proofs.store_of.Reads as store-of-reads
use Rattle.plan.proofs.put_store.Reads as put-store-reads

store_of_one : OneResult store-of-reads.Post
store_of_one κs a x y s t p q = p ∙ sym q

put_store_one : OneLent put-store-reads.Post (λ κs s. s.0.now)
put_store_one κs a x y s t p q = p ∙ sym q
