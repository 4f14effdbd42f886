-- Stores that are not seen: nothing of what is compared of a counter goes by a key word while root is not set, by the value word while
-- the counter is not set, or by what stands behind the slot's front. So any number of them in a row changes nothing. Assumes nothing.
use Prim.Native.Nat.{ℕ, zero, suc, ◌≤◌}
use mathlib.Core.Path.{◌≡◌, refl, ap, ◌∙◌}
use mathlib.Core.Logic.{inl, inr}
use mathlib.Core.Bool.{Bool, true, false, not}
use mathlib.Core.List.{List, [], ◌∷◌}
use native.Mathlib.Omega.{arith}
use borrow.Author.Tests.{leb-true, eqb-true, not-true}
use lib.Dec.{leb, eqb}
use lib.ListN.{take}
use Rattle.words.specs.Choice.{pick}
use Rattle.words.specs.Words.{word_at, put_word}
use Rattle.words.proofs.Choice.{never, both}
use Rattle.words.proofs.Fields.{same_word}
use Rattle.words.proofs.Puts.{field_put_out}
use Rattle.image.specs.Slot.{is_set}
use Rattle.plan.specs.declared.Store.{Store}
use Rattle.plan.proofs.InSlot.{in_front, put_all}
use Rattle.counters.specs.Compared.{Counter}
use Rattle.counters.proofs.Counters.{read_counter}

-- a store is not seen, by whether root and the counter are set
abbrev is_unseen : Bool → Bool → Store → Bool
is_unseen root counter store =
    pick (in_front store) (pick (leb 16 store.at) (not root) (pick (eqb store.at 8) (not counter) false)) true

unfoldable pub all_unseen : Bool → Bool → List Store → Bool
all_unseen root counter [] = true
all_unseen root counter (store ∷ more) = pick (is_unseen root counter store) (all_unseen root counter more) false

-- a key word, and the value word
key_unseen : (b : List ℕ) (at w : ℕ) → 16 ≤ at → is_set (word_at b 0) ≡ false → read_counter (put_word b at w) ≡ read_counter b
unfolding read_counter pick
key_unseen b at w h unset =
    let same = same_word 16 b (put_word b at w) (field_put_out 0 16 at w b (inr (omega (arith, h)))) in
    rw (same 0 (omega arith), same 4 (omega arith), same 8 (omega arith), unset)

value_unseen : (b : List ℕ) (w : ℕ) → is_set (word_at b 4) ≡ false → read_counter (put_word b 8 w) ≡ read_counter b
unfolding read_counter pick
value_unseen b w unset =
    let same = same_word 8 b (put_word b 8 w) (field_put_out 0 8 8 w b (inr (omega arith))) in
    rw (same 0 (omega arith), same 4 (omega arith), field_put_out 16 32 8 w b (inl (omega arith)), unset)

-- one store, by the three tests
unseen_by :
    (b : List ℕ) (store : Store) (front key value : Bool) → leb 16 store.at ≡ key → eqb store.at 8 ≡ value →
    pick front (pick key (not (is_set (word_at b 0))) (pick value (not (is_set (word_at b 4))) false)) true ≡ true →
    read_counter (pick front (put_word b store.at store.word) b) ≡ read_counter b
unfolding pick
unseen_by b store true true value k v e =
    key_unseen b store.at store.word (leb-true 16 store.at k) (not-true (is_set (word_at b 0)) e)
unseen_by b store true false true k v e = rw (eqb-true store.at 8 v) (value_unseen b store.word (not-true (is_set (word_at b 4)) e))
unseen_by b store true false false k v e = absurd (never e)
unseen_by b store false key value k v e = refl

unseen_one :
    (b : List ℕ) (store : Store) → is_unseen (is_set (word_at b 0)) (is_set (word_at b 4)) store ≡ true →
    read_counter (pick (in_front store) (put_word b store.at store.word) b) ≡ read_counter b
unseen_one b store e = unseen_by b store (in_front store) _ _ refl refl e

-- the state words stand in what is compared
root_word : (b c : List ℕ) → read_counter c ≡ read_counter b → word_at c 0 ≡ word_at b 0
unfolding read_counter
root_word b c same = ap (λ (p : Counter). p.root_state) same

counter_word : (b c : List ℕ) → read_counter c ≡ read_counter b → word_at c 4 ≡ word_at b 4
unfolding read_counter
counter_word b c same = ap (λ (p : Counter). p.counter_state) same

as_before :
    (b c : List ℕ) (ss : List Store) → read_counter c ≡ read_counter b → all_unseen (is_set (word_at b 0)) (is_set (word_at b 4)) ss ≡ true →
    all_unseen (is_set (word_at c 0)) (is_set (word_at c 4)) ss ≡ true
as_before b c ss same e = rw (root_word b c same, counter_word b c same) e

-- all of them: each leaves the state words, so the next is not seen either
pub unseen :
    (ss : List Store) (b : List ℕ) → all_unseen (is_set (word_at b 0)) (is_set (word_at b 4)) ss ≡ true → read_counter (put_all ss b) ≡ read_counter b
unfolding put_all all_unseen
unseen [] b e = refl
unseen (store ∷ more) b e =
    let parts = both (is_unseen (is_set (word_at b 0)) (is_set (word_at b 4)) store) (all_unseen (is_set (word_at b 0)) (is_set (word_at b 4)) more) e in
    let one = unseen_one b store parts.0 in
    unseen more (pick (in_front store) (put_word b store.at store.word) b)
    (as_before b (pick (in_front store) (put_word b store.at store.word) b) more one parts.1)
    ∙ one

-- the first of them
pub some_unseen :
    (root counter : Bool) (ss : List Store) (n j : ℕ) → j ≤ n → all_unseen root counter (take n ss) ≡ true →
    all_unseen root counter (take j ss) ≡ true
unfolding all_unseen pick
some_unseen root counter ss n zero h e = refl
some_unseen root counter ss zero (suc j) h e = absurd (omega (arith, h))
some_unseen root counter [] (suc n) (suc j) h e = refl
some_unseen root counter (store ∷ more) (suc n) (suc j) h e =
    let parts = both (is_unseen root counter store) (all_unseen root counter (take n more)) e in
    rw parts.0 (some_unseen root counter more n j (omega (arith, h)) parts.1)
