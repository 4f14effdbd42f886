-- No two results of the hash or the HMAC say the same answer. Assumes nothing.
use mathlib.Core.Path.{◌≡◌, ap, sym, ◌∙◌}
use Rattle.std.specs.Prelude.{ℕ, List, Result, Ok, Err}
use Rattle.refusals.specs.declared.Refusal.{Refusal}
use Rattle.refusals.proofs.Numbers.{outcome_of, outcome_done, outcome_refused}
use Rattle.hash.specs.Answer.{Answer, answer_of}

-- the result of an answer
result_of : Answer → Result (List ℕ) Refusal
result_of a = outcome_of a.digest a.number

result_back : (x : Result (List ℕ) Refusal) → result_of (answer_of x) ≡ x
unfolding result_of
result_back (Ok d) = outcome_done d
result_back (Err refusal) = outcome_refused _ refusal

pub one_result : (x y : Result (List ℕ) Refusal) → answer_of x ≡ answer_of y → x ≡ y
one_result x y e = sym (result_back x) ∙ ap result_of e ∙ result_back y
