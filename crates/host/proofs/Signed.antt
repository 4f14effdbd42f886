-- A signature is never refused: its key and its message have the right lengths. Assumes nothing.
use Prim.Native.Nat.{ℕ, ◌≤◌}
use mathlib.Core.Path.{◌≡◌, ap, sym, ◌∙◌}
use mathlib.Core.List.{List}
use borrow.Author.Tests.{eq-eqb}
use lib.ListN.{length}
use Rattle.std.specs.Prelude.{Result, Ok, Err}
use Rattle.words.proofs.Choice.{never}
use Rattle.refusals.specs.declared.Refusal.{Refusal}
use Rattle.refusals.proofs.Numbers.{numbered}
use Rattle.hash.specs.Answer.{Answer, done, answer_of}
use Rattle.hmac.specs.Hmac.{HMAC}
use Rattle.hmac.specs.Answer.{hmac_answer}
use Rattle.hmac.proofs.Answered.{hmac_done}

is_done : (r : Result (List ℕ) Refusal) (d : List ℕ) → answer_of r ≡ done d → r ≡ Ok d
is_done (Ok x) d e = ap (λ (a : Answer). Ok a.digest) e
is_done (Err refusal) d e = absurd (never (sym (numbered refusal) ∙ eq-eqb _ 0 (ap (λ (a : Answer). a.number) e)))

pub signed :
    (r : Result (List ℕ) Refusal) (key message : List ℕ) → length key ≡ 32 → length message ≤ 55 →
    answer_of r ≡ hmac_answer key message → r ≡ Ok (HMAC key message)
signed r key message size short e = is_done r (HMAC key message) (e ∙ hmac_done key message size short)
