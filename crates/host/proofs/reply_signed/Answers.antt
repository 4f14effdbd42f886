-- `reply_signed` meets its contract. Assumes nothing.
use native.Mathlib.Omega.{arith}
use Rattle.words.proofs.Fields.{field_part}
use Rattle.host.specs.Reading.{reply_signed}
use Rattle.host.proofs.reply_signed.Goals as goal

pub returns : goal.returns
unfolding reply_signed
returns c =
    let signature = c.signature-signed in
    let reply = c.args.reply.now in
    let size = c.told-reply in
    rw (
      ← field_part 17 32 reply (omega (arith, size)),
      ← field_part 1 16 reply (omega (arith, size)),
      ← signature.ensures,
    )
    c.same.ensures
