-- `hmac` meets its contract: the refusals in their order, and the four blocks. Assumes nothing.
use native.Mathlib.Omega.{arith}
use Prim.Native.Nat.{◌≤◌}
use borrow.Author.Tests.{eq-eqb, le-ltb}
use mathlib.Core.Path.{◌≡◌, ap, sym}
use lib.ListN.{length}
use Rattle.hash.specs.Answer.{done}
use Rattle.words.specs.Choice.{pick}
use Rattle.words.proofs.Fields.{field-all}
use Rattle.words.specs.Rows.{first_of}
use Rattle.hmac.specs.Answer.{hmac_answer}
use Rattle.hmac.proofs.FourBlocks.{four_blocks}
use Rattle.hmac.proofs.hmac.Goals as goal

pub returns : goal.returns
unfolding hmac_answer first_of pick
returns c =
    let key = c.args.key.now in
    let message = c.args.message.now in
    let key-32 : length key ≡ 32 = omega arith in
    let any = c.initial-any.result in
    let short : length message ≤ 55 = omega arith in
    rw (
      eq-eqb (length key) 32 key-32,
      le-ltb 55 (length message) short,
      c.digest.ensures,
      c.chain_after-outer.ensures,
      c.chain_after-key_opad.ensures,
      c.chain_after-inner.ensures,
      c.chain_after-key_ipad.ensures,
      c.part-k.ensures,
      field-all 32 key key-32,
    )
    (ap done (sym (four_blocks key message any any any any any key-32 short)))
