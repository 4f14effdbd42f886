-- The block of the inner digest, word by word. Assumes nothing.
use mathlib.Core.Path.{◌≡◌, ◌∙◌}
use mathlib.Core.List.{List, [], ◌∷◌, ◌++◌, append_assoc}
use Prim.Native.Nat.{ℕ}
use native.Mathlib.Omega.{arith}
use lib.ListN.{length, length-append}
use lib.Seq.{take_all}
use Rattle.words.specs.Table.{spread}
use Rattle.words.specs.Words.{bytes_of, bytes_of_all}
use Rattle.words.proofs.Spread.{spread-append}
use Rattle.words.proofs.Back.{words_back}
use Rattle.hash.specs.Padding.{last_block}
use Rattle.hash.proofs.Lengths.{length-digest}
use Rattle.hmac.specs.Quarters.{text_block}

-- what follows the 32 bytes of a digest: the mark, zeros, and the length of 96 bytes in bits
abbrev pub ending : List ℕ
ending = 0x80000000 ∷ 0 ∷ 0 ∷ 0 ∷ 0 ∷ 0 ∷ 0 ∷ 768 ∷ []

pub digest_words : (inner : List ℕ) → length inner ≡ 8 → text_block (bytes_of_all inner) ≡ inner ++ ending
unfolding last_block spread
digest_words inner e =
    let whole : length (inner ++ ending) ≡ 16 = length-append inner ending ∙ omega arith in
    rw (
      take_all 55 (bytes_of_all inner) (omega (arith, length-digest inner e)),
      length-digest inner e,
      append_assoc (bytes_of_all inner),
      ← spread-append bytes_of inner ending,
    )
    (rw whole at (words_back (inner ++ ending)))
