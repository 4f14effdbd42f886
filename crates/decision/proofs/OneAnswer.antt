-- One answer only, for each public function of this crate. Assumes nothing.
use mathlib.Core.Path.{sym, ◌∙◌}
use Rattle.words.proofs.Unique.{OneResult}
use Rattle.checks.proofs.Failures.{one_outcome}
use Rattle.decision.proofs.decision.Reads as decision-reads

decision_one : OneResult decision-reads.Post
decision_one κs a x y s t p q = one_outcome x y (p ∙ sym q)
