-- One answer only, for each public function of this crate. Assumes nothing.
use mathlib.Core.Path.{sym, ◌∙◌}
use Rattle.words.proofs.Unique.{OneResult, OneLent}
use Rattle.hexadecimal.proofs.digits.Reads as digits-reads
use Rattle.hexadecimal.proofs.write.Reads as write-reads
use Rattle.hexadecimal.proofs.read.Reads as read-reads

digits_one : OneResult digits-reads.Post
digits_one κs a x y s t p q = p ∙ sym q

write_one : OneLent write-reads.Post (λ κs s. s.1.0.now)
write_one κs a x y s t p q = p ∙ sym q

read_one : OneResult read-reads.Post
read_one κs a x y s t p q = p.0 ∙ sym q.0

read_one_lent : OneLent read-reads.Post (λ κs s. s.1.0.now)
read_one_lent κs a x y s t p q = p.1 ∙ sym q.1
