-- One answer only, for each public function of this crate. Assumes nothing.
use mathlib.Core.Path.{sym, ◌∙◌}
use Rattle.words.proofs.Unique.{OneResult}
use Rattle.checks.proofs.U8FromFailure.from.Reads as from-reads
use Rattle.checks.proofs.Failures.{one_outcome}
use Rattle.checks.proofs.arrival_status.Reads as arrival-status-reads

arrival_status_one : OneResult arrival-status-reads.Post
arrival_status_one κs a x y s t p q = one_outcome x y (p ∙ sym q)

from_one : OneResult from-reads.Post
from_one κs a x y s t p q = p ∙ sym q
