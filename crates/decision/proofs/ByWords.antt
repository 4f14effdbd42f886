-- The comparison of a signature's words is that of its bytes. Assumes nothing.
use mathlib.Core.Path.{◌≡◌, sym, ◌∙◌}
use mathlib.Core.List.{List, ◌∷◌}
use Prim.Native.Nat.{ℕ, ◌+◌, ◌<◌}
use native.Mathlib.Nat.{add_assoc, add-zero}
use native.Mathlib.Omega.{arith}
use lib.Bits.{bit_or, bit_xor}
use lib.Dec.{eqb}
use lib.ListN.{length, get_or}
use lib.Seq.{take_all}
use Rattle.words.specs.Table.{table, field}
use Rattle.words.specs.Words.{Bytes, word_at, words_of}
use Rattle.words.proofs.Back.{length_words}
use Rattle.words.proofs.Table.{length-table, get_or-table}
use Rattle.words.proofs.Fields.{field_part}
use Rattle.compare.specs.Compare.{same_bytes, differences}
use Rattle.compare.proofs.Agree.{none_differs, none_equal}
use Rattle.compare.proofs.ByWords.{first_equal, first-none, words_decide}

field_bytes : (s : List ℕ) → ((i : ℕ) → get_or s i 0 < 256) → (at n : ℕ) → Bytes (field at n s)
field_bytes s below at n i h = rw (get_or-table (λ i. get_or s (at + i) 0) n i 0 (rw (length-table _ n) at h)) (below (at + i))

-- the first of eight words, and the others
eight : (s : List ℕ) (at : ℕ) → words_of 8 (field at 32 s) ≡ word_at s at ∷ words_of 7 (field (at + 4) 28 s)
unfolding words_of table
eight s at = simp (add_assoc, add-zero)

module _ (digest frame : List ℕ) (below-d : (i : ℕ) → get_or digest i 0 < 256) (below-f : (i : ℕ) → get_or frame i 0 < 256) (at : ℕ) where
  pub last_same :
      eqb (differences 7 (words_of 7 (field 4 28 digest)) (words_of 7 (field at 28 frame))) 0 ≡ same_bytes (field 4 28 digest) (field at 28 frame)
  last_same =
      words_decide 7 _ _ (length-table _ 28) (length-table _ 28) (field_bytes digest below-d 4 28) (field_bytes frame below-f at 28) _
      (none_equal 7 _ _ (length_words 7 _) (length_words 7 _))
      (λ e. rw e (none_differs 7 _))

  pub all_same :
      length digest ≡ 32 →
      eqb (bit_or (bit_xor (word_at digest 0) (word_at frame at)) (differences 7 (words_of 7 (field 4 28 digest)) (words_of 7 (field (at + 4) 28 frame)))) 0 ≡
      same_bytes digest (field at 32 frame)
  all_same l =
      let whole : field 0 32 digest ≡ digest = sym (field_part 0 32 digest (omega arith)) ∙ take_all 32 digest (omega arith) in
      words_decide 8 _ _ (length-table _ 32) (length-table _ 32) (field_bytes digest below-d 0 32) (field_bytes frame below-f at 32) _
      (λ none. rw (eight digest 0, eight frame at) (first_equal 7 _ _ _ _ (length_words 7 _) (length_words 7 _) none))
      (λ e. first-none 7 _ _ _ _ (sym (eight digest 0) ∙ e ∙ eight frame at))
      ∙ rw whole
