-- One answer only, for each public function of this crate. Assumes nothing.
use mathlib.Core.Path.{sym, ◌∙◌}
use denote.RattleType.{RattleType}
use denote.Param.Laws.{IsCopy, Laws}
use mir.Syntax.{Dict}
use Rattle.std.specs.declared.clone.Clone.{Ghosts}
use Rattle.words.proofs.Unique.{OneResult}
use Rattle.refusals.proofs.U32FromRefusal.from.Reads as from-reads
use Rattle.refusals.proofs.number_of.Reads as number_of-reads

-- whatever a call that is done answers
number_of_one :
    (T : RattleType) (laws : Laws T) (copy : IsCopy T) (clone : Ghosts T.Denot) (dict : Dict) →
    OneResult (number_of-reads.Post T laws copy clone dict)
number_of_one T laws copy clone dict κs a x y s t p q = p ∙ sym q

from_one : OneResult from-reads.Post
from_one κs a x y s t p q = p ∙ sym q
