-- `part` meets its contract: a good reply is long enough. Assumes nothing.
use native.Mathlib.Omega.{arith}
use mathlib.Core.Path.{sym, ◌∙◌}
use Rattle.host.proofs.Verdicts.{good_only}
use Rattle.host.proofs.part.Goals as goal

pub slice_bounds-result-end : goal.slice_bounds-result-end
slice_bounds-result-end c =
    let a = c.args in
    let good = good_only a.key.now a.tag.now a.reply.now (sym c.read_reply.ensures ∙ c.in-Good.is) in
    omega (arith, good.reply-length)
