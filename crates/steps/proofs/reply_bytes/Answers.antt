-- `reply_bytes` meets its contract: two runs fill the reply. Assumes nothing.
use Rattle.std.proofs.Common.{ℕ, ◌++◌, replicate, ◌∙◌, arith, length-append}
use Rattle.words.proofs.Runs.{place-append, place-all}
use Rattle.steps.proofs.reply_bytes.Goals as goal

pub returns : goal.returns
returns c =
    let a = c.args in
    let zeros = replicate {A = ℕ} 48 0 in
    rw c.place.ensures
    at c.place-2.ensures
    ∙ place-append zeros 0 16 a.message a.signature (omega arith) (omega arith)
    ∙ place-all zeros (a.message ++ a.signature) (omega (arith, length-append a.message a.signature))
