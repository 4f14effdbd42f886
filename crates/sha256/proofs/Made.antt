-- An array that `from_fn` makes of a function of the place is the table of that function. Assumes nothing.
use Rattle.std.proofs.Common.{◌≡◌, ℕ, zero, suc, ◌+◌, ◌≤◌, ◌<◌, List, get_or, ◌∙◌, sym, subst, arith, take_all, inl, inr}
use Rattle.std.proofs.lemmas.Bool.{cases_lt}
use Rattle.std.specs.Array.{IsFromFnResult, IsFromFnResultFrom}
use Rattle.std.specs.Fn.{Called, Mut}
use Rattle.words.specs.Table.{table}
use Rattle.words.proofs.Table.{table_same, table-take}

module _ {F : Type 0} (g : Mut F (ℕ × Unit {0}) ℕ) (h : ℕ → ℕ) (f : F)
    (answers : (j y : ℕ) (q : F) → Called g f (j, tt) y q → (q ≡ f) × (y ≡ h j)) (ys : List ℕ) where
  each_made : (i n : ℕ) → IsFromFnResultFrom g f ys i n → (k : ℕ) → i ≤ k → k < i + n → get_or ys k 0 ≡ h k
  each_made i zero made k low high = absurd (omega arith)
  each_made i (suc n) (q, y, at, called, others) k low high =
      let answer = answers i y q called in
      elim (cases_lt i k) [
        | inl later ↦ each_made (i + 1) n (subst (λ p. IsFromFnResultFrom g p ys (i + 1) n) answer.0 others) k (omega arith) (omega arith)
        | inr here ↦
            let e : k ≡ i = omega arith in
            rw e (at.1 0 ∙ answer.1)
      ]

  pub made : (n : ℕ) → IsFromFnResult g f ys n → ys ≡ table h n
  made n all =
      sym (take_all n ys (omega (arith, all.long))) ∙ sym (table-take ys n (omega (arith, all.long)))
      ∙ table_same (λ i. get_or ys i 0) h n (λ k below. each_made 0 n all.each k (omega arith) (omega arith))
