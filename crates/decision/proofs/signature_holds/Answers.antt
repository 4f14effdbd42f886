-- `signature_holds` meets its contract, a command at a time: the words that differ tell the bytes that do. Assumes nothing.
use borrow.Author.Rules.{elem_Fits}
use mir.Syntax.{w8}
use Prim.Native.Nat.{ℕ, ◌<◌, ◌≤◌, ◌+◌}
use mathlib.Core.Path.{◌≡◌, ◌∙◌}
use native.Mathlib.Omega.{arith}
use lib.Bits.{bit_or, bit_xor}
use lib.Dec.{eqb}
use mathlib.Core.List.{List}
use lib.ListN.{get_or, length}
use Rattle.words.proofs.Inside.{get_inside}
use Rattle.words.specs.Table.{field}
use Rattle.words.specs.Words.{word_or0, words_of}
use Rattle.compare.specs.Compare.{differences, same_bytes}
use Rattle.decision.specs.Signature.{signature_holds}
use Rattle.decision.proofs.ByWords.{last_same, all_same}
use Rattle.decision.proofs.signature_holds.Goals as goal

-- all 32 bytes, from the place that the command gives
all_32 :
    (digest frame : List ℕ) (at first second last : ℕ) → ((i : ℕ) → get_or digest i 0 < 256) → ((i : ℕ) → get_or frame i 0 < 256) →
    length digest ≡ 32 → length frame ≡ 64 → at ≤ 32 → first ≡ word_or0 digest 0 → second ≡ word_or0 frame at →
    last ≡ differences 7 (words_of 7 (field 4 28 digest)) (words_of 7 (field (at + 4) 28 frame)) →
    eqb (bit_or (bit_xor first second) last) 0 ≡ same_bytes digest (field at 32 frame)
all_32 digest frame at first second last below-d below-f size room inside e f g =
    rw (g, f, e, get_inside digest 0 (omega arith), get_inside frame at (omega arith))
    (all_same digest frame below-d below-f at size)

pub returns-in-WriteRootKey : goal.returns-in-WriteRootKey
unfolding signature_holds
returns-in-WriteRootKey c =
    rw (c.last_difference-last.ensures, c.signature_at-at.ensures.0, c.in-WriteRootKey.is)
    (last_same c.args.digest c.args.frame (λ i. (elem_Fits w8 w8 c.args.digest _ i c.well_formed.1.1.0.1.1 tt).fits) (λ i. (elem_Fits w8 w8 c.args.frame _ i c.well_formed.1.0.1.1 tt).fits) 36)

pub returns-in-UpdateSessionKey : goal.returns-in-UpdateSessionKey
unfolding signature_holds
returns-in-UpdateSessionKey c =
    all_32 c.args.digest c.args.frame c.signature_at-at.result c.get.result c.get-2.result c.last_difference-last.result
    (λ i. (elem_Fits w8 w8 c.args.digest _ i c.well_formed.1.1.0.1.1 tt).fits) (λ i. (elem_Fits w8 w8 c.args.frame _ i c.well_formed.1.0.1.1 tt).fits) (omega arith) (omega arith) (omega arith) c.get.ensures c.get-2.ensures c.last_difference-last.ensures
    ∙ rw (c.signature_at-at.ensures.0, c.in-UpdateSessionKey.is)

pub returns-in-IncrementCounter : goal.returns-in-IncrementCounter
unfolding signature_holds
returns-in-IncrementCounter c =
    all_32 c.args.digest c.args.frame c.signature_at-at.result c.get.result c.get-2.result c.last_difference-last.result
    (λ i. (elem_Fits w8 w8 c.args.digest _ i c.well_formed.1.1.0.1.1 tt).fits) (λ i. (elem_Fits w8 w8 c.args.frame _ i c.well_formed.1.0.1.1 tt).fits) (omega arith) (omega arith) (omega arith) c.get.ensures c.get-2.ensures c.last_difference-last.ensures
    ∙ rw (c.signature_at-at.ensures.0, c.in-IncrementCounter.is)

pub returns-in-RequestCounter : goal.returns-in-RequestCounter
unfolding signature_holds
returns-in-RequestCounter c =
    all_32 c.args.digest c.args.frame c.signature_at-at.result c.get.result c.get-2.result c.last_difference-last.result
    (λ i. (elem_Fits w8 w8 c.args.digest _ i c.well_formed.1.1.0.1.1 tt).fits) (λ i. (elem_Fits w8 w8 c.args.frame _ i c.well_formed.1.0.1.1 tt).fits) (omega arith) (omega arith) (omega arith) c.get.ensures c.get-2.ensures c.last_difference-last.ensures
    ∙ rw (c.signature_at-at.ensures.0, c.in-RequestCounter.is)
