-- `signature` meets its contract: with these lengths, the HMAC is not refused. Assumes nothing.
use Rattle.std.proofs.Common.{rules}
use Rattle.host.proofs.Signed.{signed}
use Rattle.host.proofs.signature.Goals as goal

pub unwrap-requires : goal.unwrap-requires
unwrap-requires c =
    let a = c.args in
    rw (signed c.hmac.result a.key.now a.message.now c.told-key c.requires c.hmac.ensures) (search rules)

pub returns : goal.returns
returns c =
    let a = c.args in
    let done = signed c.hmac.result a.key.now a.message.now c.told-key c.requires c.hmac.ensures in
    let unwrapped = c.unwrap.ensures in
    cc
