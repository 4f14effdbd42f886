-- `hear` meets its contract: what a call of `lines::hear` left is fed the rest. Assumes nothing.
use mathlib.Core.Path.{◌∙◌}
use Rattle.lines.proofs.Hearing.{hear_on}
use Rattle.rpmcrun.proofs.Talk.hear.Goals as goal

pub loop-rest-preserved : goal.loop-rest-preserved
loop-rest-preserved c =
    let h = c.hear-heard.ensures in
    hear_on _ _ _ _ _ _ _ _ _ h.gives_fed h.image_after h.line_after h.used_value ∙ c.loop-rest.invariant
