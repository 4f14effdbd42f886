-- A field that is all inside is that part of the list, and its words are the list's; a field of lists in a row. Assumes nothing.
use Prim.Native.Nat.{ℕ, min, ◌+◌, ◌*◌, ◌≤◌}
use mathlib.Core.Path.{◌≡◌, ap, sym, ◌∙◌}
use mathlib.Core.List.{List, ◌++◌}
use mathlib.Core.Logic.{⊎_elim}
use native.Mathlib.Nat.{add_assoc, eq-or-lt_of_le}
use native.Mathlib.Omega.{arith}
use lib.ListN.{length, get_or, get_or-eq_default, take, drop, length-drop, length-append}
use lib.Seq.{take-length, take_all, take_at, drop_at, get_or-drop}
use Rattle.words.specs.Table.{field}
use Rattle.words.specs.Words.{word_at, word_or0, words_of, words_at}
use Rattle.words.proofs.Inside.{get_inside, get_outside}
use Rattle.words.proofs.Table.{length-table, table_same, table-take, get_or-table}

pub field_part : (at n : ℕ) (s : List ℕ) → at + n ≤ length s → take n (drop at s) ≡ field at n s
field_part at n s h =
    sym (table-take (drop at s) n (rw (length-drop at s) (omega arith))) ∙ table_same _ _ n (λ i below. get_or-drop at s i 0)

-- a field of all of it
pub field-all : (n : ℕ) (s : List ℕ) → length s ≡ n → field 0 n s ≡ s
field-all n s e = sym (field_part 0 n s (omega arith)) ∙ take_all n s (omega arith)

-- a word of a field
pub field_word : (at n : ℕ) (s : List ℕ) (i : ℕ) → i + 4 ≤ n → word_at (field at n s) i ≡ word_at s (at + i)
field_word at n s i h =
    rw (
      get_or-table _ n i 0 (omega arith),
      get_or-table _ n (i + 1) 0 (omega arith),
      get_or-table _ n (i + 2) 0 (omega arith),
      get_or-table _ n (i + 3) 0 (omega arith),
    )
    (simp add_assoc)

-- a field of a field
pub field-field : (p m at n : ℕ) (s : List ℕ) → at + n ≤ m → field at n (field p m s) ≡ field (p + at) n s
field-field p m at n s h =
    table_same _ _ n (λ i l. get_or-table (λ j. get_or s (p + j) 0) m (at + i) 0 (omega arith) ∙ ap (λ (j : ℕ). get_or s j 0) (omega arith))

-- the field behind x that is y
pub field_between :
    (at n : ℕ) (x y z : List ℕ) → length x ≡ at → length y ≡ n → field at n (x ++ (y ++ z)) ≡ y
field_between at n x y z ex ey =
    let whole : length (x ++ (y ++ z)) ≡ at + (n + length z) = omega (arith, length-append x (y ++ z), length-append y z) in
    sym (field_part at n (x ++ (y ++ z)) (omega (arith, whole)))
    ∙ ap (take n) (drop_at x (y ++ z) at ex) ∙ take_at y z n ey

pub field_behind : (at n : ℕ) (x y : List ℕ) → length x ≡ at → length y ≡ n → field at n (x ++ y) ≡ y
field_behind at n x y ex ey =
    let whole : length (x ++ y) ≡ at + n = omega (arith, length-append x y) in
    sym (field_part at n (x ++ y) (omega (arith, whole)))
    ∙ ap (take n) (drop_at x y at ex) ∙ rw (← ey) (take-length y)

-- a field is as long as is asked
pub field-within : (at n m : ℕ) (s : List ℕ) → n ≤ m → length (field at n s) ≤ m
field-within at n m s h = rw (length-table (λ i. get_or s (at + i) 0) n) h

-- the words of the same first bytes
pub same_word : (n : ℕ) (b c : List ℕ) → field 0 n c ≡ field 0 n b → (i : ℕ) → i + 4 ≤ n → word_at c i ≡ word_at b i
same_word n b c same i h =
    let place : i ≡ 0 + i = omega arith in
    ap (word_at c) place ∙ sym (field_word 0 n c i h) ∙ ap (λ (l : List ℕ). word_at l i) same ∙ field_word 0 n b i h ∙ ap (word_at b) (sym place)

-- a byte at a place that is cut down to a number not below the end: past it either way, or the same place
pub byte_capped : (s : List ℕ) (place top m : ℕ) → length s ≤ top → m ≡ min place top → get_or s m 0 ≡ get_or s place 0
byte_capped s place top m h e =
    let below : m ≤ place = omega arith in
    ⊎_elim
    (λ same. rw same)
    (λ less. get_or-eq_default s 0 {n = m} (omega arith) ∙ sym (get_or-eq_default s 0 {n = place} (omega arith)))
    (eq-or-lt_of_le below)

-- a word likewise
pub word_capped : (s : List ℕ) (place top m : ℕ) → length s ≤ top → m ≡ min place top → word_or0 s m ≡ word_or0 s place
word_capped s place top m h e =
    let below : m ≤ place = omega arith in
    ⊎_elim
    (λ same. rw same)
    (λ less. get_outside s m (omega arith) ∙ sym (get_outside s place (omega arith)))
    (eq-or-lt_of_le below)

-- words that are all inside, from the front
pub words_inside : (n : ℕ) (s : List ℕ) → 4 * n ≤ length s → words_at 0 n s ≡ words_of n s
unfolding words_of
words_inside n s h = table_same _ _ n (λ i below. let e : 0 + 4 * i ≡ 4 * i = omega arith in rw e (get_inside s (4 * i) (omega arith)))
