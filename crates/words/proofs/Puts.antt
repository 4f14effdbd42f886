-- What a stored word changes of a field: inside it these four bytes, outside nothing; and what it changes of the words: the one at
-- its place is the word stored, and one that is apart from it stays, as does each byte and the length. Assumes nothing.
use Prim.Native.Nat.{ℕ, ◌+◌, ◌/◌, ◌%◌, ◌≤◌, ◌<◌}
use mathlib.Core.Path.{◌≡◌, refl, ap, sym, ◌∙◌}
use mathlib.Core.Logic.{⊎_elim, ◌⊎◌, inl, inr}
use mathlib.Core.Bool.{Bool, true, false}
use mathlib.Core.List.{List}
use native.Mathlib.Omega.{arith}
use borrow.Author.Tests.{eqb-true, eqb-false, le-leb}
use lib.Dec.{eqb}
use lib.ListN.{length, get_or, set, length-set}
use lib.Seq.{ext_get_or, get_or-set_same, get_or-set_other}
use Rattle.words.specs.Choice.{pick}
use Rattle.words.specs.Table.{table, field}
use Rattle.words.specs.Words.{bytes_of, inside, word_at, word_or0, put_word, with_word}
use Rattle.words.proofs.Choice.{either}
use Rattle.words.proofs.Fields.{field_word}
use Rattle.words.proofs.Table.{length-table, table_same, get_or-table}

-- one byte of a field after a byte is stored inside it
byte_set_in :
    (p n k v : ℕ) (l : List ℕ) → k < n → p + n ≤ length l → (i : ℕ) → i < n → (b : Bool) → eqb i k ≡ b →
    get_or (set l (p + k) v) (p + i) 0 ≡ get_or (set (field p n l) k v) i 0
byte_set_in p n k v l hk hp i h true e =
    rw (eqb-true i k e)
    (get_or-set_same l (p + k) v 0 (omega arith)
    ∙ sym (get_or-set_same (field p n l) k v 0 (omega (arith, length-table (λ j. get_or l (p + j) 0) n))))
byte_set_in p n k v l hk hp i h false e =
    let apart = eqb-false i k e in
    get_or-set_other l (p + k) (p + i) v 0 (λ same. apart (omega (arith, same)))
    ∙ sym (get_or-table (λ j. get_or l (p + j) 0) n i 0 h) ∙ sym (get_or-set_other (field p n l) k i v 0 apart)

-- a field after one byte is stored inside it, or outside
field_set_in :
    (p n k v : ℕ) (l : List ℕ) → k < n → p + n ≤ length l → field p n (set l (p + k) v) ≡ set (field p n l) k v
field_set_in p n k v l hk hp =
    let size = length-table (λ j. get_or (set l (p + k) v) (p + j) 0) n in
    ext_get_or 0 _ _ (size ∙ sym (length-set (field p n l) k v ∙ length-table _ n))
    (λ i h.
    let inside : i < n = omega (arith, size) in
    get_or-table (λ j. get_or (set l (p + k) v) (p + j) 0) n i 0 inside ∙ byte_set_in p n k v l hk hp i inside _ refl)

field_set_out :
    (p n j v : ℕ) (l : List ℕ) → ((i : ℕ) → i < n → p + i ≡ j → ⊥) → field p n (set l j v) ≡ field p n l
field_set_out p n j v l apart = table_same _ _ n (λ i h. get_or-set_other l j (p + i) v 0 (apart i h))

-- a field after a word is stored inside it, or outside
pub field_put_in :
    (p n k w : ℕ) (l : List ℕ) → k + 4 ≤ n → p + n ≤ length l → field p n (put_word l (p + k) w) ≡ put_word (field p n l) k w
unfolding put_word
field_put_in p n k w l hk hp =
    let l₁ = set l (p + k) (w / 16777216) in
    let l₂ = set l₁ (p + (k + 1)) (w / 65536 % 256) in
    let l₃ = set l₂ (p + (k + 2)) (w / 256 % 256) in
    let size₁ = length-set l (p + k) (w / 16777216) in
    let size₂ = length-set l₁ (p + (k + 1)) (w / 65536 % 256) in
    let size₃ = length-set l₂ (p + (k + 2)) (w / 256 % 256) in
    let e₁ : p + k + 1 ≡ p + (k + 1) = omega arith in
    let e₂ : p + k + 2 ≡ p + (k + 2) = omega arith in
    let e₃ : p + k + 3 ≡ p + (k + 3) = omega arith in
    rw (
      e₁,
      e₂,
      e₃,
      field_set_in p n (k + 3) (w % 256) l₃ (omega arith) (omega (arith, size₁, size₂, size₃)),
      field_set_in p n (k + 2) (w / 256 % 256) l₂ (omega arith) (omega (arith, size₁, size₂)),
      field_set_in p n (k + 1) (w / 65536 % 256) l₁ (omega arith) (omega (arith, size₁)),
      field_set_in p n k (w / 16777216) l (omega arith) hp,
    )

pub field_put_out : (p n j w : ℕ) (l : List ℕ) → (j + 4 ≤ p) ⊎ (p + n ≤ j) → field p n (put_word l j w) ≡ field p n l
unfolding put_word
field_put_out p n j w l apart =
    let l₁ = set l j (w / 16777216) in
    let l₂ = set l₁ (j + 1) (w / 65536 % 256) in
    let l₃ = set l₂ (j + 2) (w / 256 % 256) in
    field_set_out p n (j + 3) (w % 256) l₃ (away 3 (omega arith))
    ∙ field_set_out p n (j + 2) (w / 256 % 256) l₂ (away 2 (omega arith))
    ∙ field_set_out p n (j + 1) (w / 65536 % 256) l₁ (away 1 (omega arith))
    ∙ field_set_out p n j (w / 16777216) l (λ i h e. away 0 (omega arith) i h (omega (arith, e)))
  where
    away : (m : ℕ) → m < 4 → (i : ℕ) → i < n → p + i ≡ j + m → ⊥
    away m hm i h e = ⊎_elim (λ (below : j + 4 ≤ p). omega arith) (λ (above : p + n ≤ j). omega arith) apart

pub length_put : (l : List ℕ) (j w : ℕ) → length (put_word l j w) ≡ length l
unfolding put_word
length_put l j w = simp length-set

-- two words that have no byte in common
abbrev pub Apart : ℕ → ℕ → Type 0
Apart i j = (i + 4 ≤ j) ⊎ (j + 4 ≤ i)

-- a word by its field of four bytes
word_field : (s : List ℕ) (i : ℕ) → word_at s i ≡ word_at (field i 4 s) 0
word_field s i = ap (word_at s) (omega arith) ∙ sym (field_word i 4 s 0 (omega arith))

-- the four bytes at the place of a store
four_bytes : (f : ℕ → ℕ) (w : ℕ) → put_word (table f 4) 0 w ≡ bytes_of w
unfolding table put_word
four_bytes f w = refl

field_stored : (s : List ℕ) (j w : ℕ) → j + 4 ≤ length s → field j 4 (put_word s j w) ≡ bytes_of w
field_stored s j w h =
    ap (λ (k : ℕ). field j 4 (put_word s k w)) (omega arith)
    ∙ field_put_in j 4 0 w s (omega arith) h ∙ four_bytes (λ i. get_or s (j + i) 0) w

word_stored : (s : List ℕ) (j w : ℕ) → j + 4 ≤ length s → word_at (put_word s j w) j ≡ w
word_stored s j w h = word_field (put_word s j w) j ∙ ap (λ (l : List ℕ). word_at l 0) (field_stored s j w h) ∙ omega arith

-- the word at the place of a store
pub word_same : (s : List ℕ) (j w : ℕ) → j + 4 ≤ length s → word_or0 (with_word s j w) j ≡ w
unfolding pick
word_same s j w h =
    rw (le-leb (j + 4) (length s) h, length_put s j w, le-leb (j + 4) (length s) h) (word_stored s j w h)

-- a word apart from a store
pub word_kept : (s : List ℕ) (i j w : ℕ) → Apart i j → word_or0 (put_word s j w) i ≡ word_or0 s i
word_kept s i j w apart =
    let same : field i 4 (put_word s j w) ≡ field i 4 s =
    field_put_out i 4 j w s (⊎_elim (λ (before : i + 4 ≤ j). inr before) (λ (behind : j + 4 ≤ i). inl behind) apart) in
    rw (length_put s j w)
    (ap (λ (word : ℕ). pick (inside s i) word 0)
    (word_field (put_word s j w) i ∙ ap (λ (l : List ℕ). word_at l 0) same ∙ sym (word_field s i)))

pub word_apart : (s : List ℕ) (i j w : ℕ) → Apart i j → word_or0 (with_word s j w) i ≡ word_or0 s i
word_apart s i j w apart =
    either (λ (l : List ℕ). word_or0 l i ≡ word_or0 s i) (inside s j) (put_word s j w) s (λ _. word_kept s i j w apart) (λ _. refl)

-- the length, and a byte apart from a store
pub length_with : (s : List ℕ) (j w : ℕ) → length (with_word s j w) ≡ length s
length_with s j w =
    either (λ (l : List ℕ). length l ≡ length s) (inside s j) (put_word s j w) s (λ _. length_put s j w) (λ _. refl)

byte-field : (s : List ℕ) (i : ℕ) → get_or s i 0 ≡ get_or (field i 1 s) 0 0
unfolding table
byte-field s i = ap (λ (k : ℕ). get_or s k 0) (omega arith)

pub byte_apart : (s : List ℕ) (i j w : ℕ) → (j + 4 ≤ i) ⊎ (i + 1 ≤ j) → get_or (with_word s j w) i 0 ≡ get_or s i 0
byte_apart s i j w apart =
    either (λ (l : List ℕ). get_or l i 0 ≡ get_or s i 0) (inside s j) (put_word s j w) s
    (λ _. byte-field (put_word s j w) i ∙ ap (λ (l : List ℕ). get_or l 0 0) (field_put_out i 1 j w s apart) ∙ sym (byte-field s i)) (λ _. refl)
