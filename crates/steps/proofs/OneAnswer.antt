-- One answer only, for each public function of this crate. Assumes nothing.
use Rattle.std.proofs.Common.{sym, ◌∙◌}
use Rattle.words.proofs.Unique.{OneResult, OneLent}
use Rattle.steps.proofs.step.Reads as step-reads

step_one : OneResult step-reads.Post
step_one κs a x y s t p q = p.0 ∙ sym q.0

step_one_lent : OneLent step-reads.Post (λ κs s. s.0.now)
step_one_lent κs a x y s t p q = p.1 ∙ sym q.1
