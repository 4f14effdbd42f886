-- Messages of at most 55 bytes, alone or after one whole block: their padding is the last block, so that SHA-256 of them is
-- one block, or two. Assumes nothing.
use mathlib.Core.Path.{◌≡◌, sym, ◌∙◌}
use mathlib.Core.List.{List, ◌∷◌, ◌++◌, append_assoc, append-nil}
use Prim.Native.Nat.{ℕ, ◌+◌, ◌-◌, ◌*◌, ◌/◌, ◌%◌, ◌^◌, ◌≤◌, ◌<◌}
use native.Mathlib.Nat.{zero-add}
use native.Mathlib.Omega.{arith}
use lib.ListN.{length, set, length-set, replicate, length-append, length-replicate, replicate-append-replicate, take}
use Rattle.std.proofs.lemmas.List.{drop-set}
use lib.Seq.{drop_at}
use lib.Seq.{take_all}
use Rattle.words.specs.Words.{bytes_of, bytes_of_all, words_of, put_word, with_bytes}
use Rattle.words.proofs.Filling.{word_more, drop-replicate}
use Rattle.words.proofs.Inside.{words_front}
use Rattle.words.proofs.Runs.{place-front}
use Rattle.sha256.specs.Constants.{H⁰}
use Rattle.sha256.specs.Block.{block}
use Rattle.hash.specs.Padding.{pad, last_block}
use Rattle.hash.specs.Sha256.{blocks, sha256}

pub length_last : (before : ℕ) (m : List ℕ) → length m ≤ 55 → length (last_block before m) ≡ 64
unfolding last_block
length_last before m h =
    simp (length-append, length-replicate) (omega arith)

-- a message alone
pad_short : (m : List ℕ) → length m ≤ 55 → pad m ≡ last_block 0 m
unfolding pad last_block
pad_short m h =
    let zeros : (119 - length m % 64) % 64 ≡ 55 - length m = omega arith in
    rw (zeros, zero-add (length m))

-- a message after a block
pad-after : (a m : List ℕ) → length a ≡ 64 → length m ≤ 55 → pad (a ++ m) ≡ a ++ last_block 64 m
unfolding pad last_block
pad-after a m e h =
    let whole : length (a ++ m) ≡ 64 + length m = length-append a m ∙ omega arith in
    let zeros : (119 - (64 + length m) % 64) % 64 ≡ 55 - length m = omega arith in
    rw (whole, zeros) (simp append_assoc)

pub sha256_short : (m : List ℕ) → length m ≤ 55 → sha256 m ≡ bytes_of_all (block H⁰ (words_of 16 (last_block 0 m)))
unfolding sha256 blocks
sha256_short m h = rw (pad_short m h, length_last 0 m h)

pub sha256-after :
    (a m : List ℕ) → length a ≡ 64 → length m ≤ 55 →
    sha256 (a ++ m) ≡ bytes_of_all (block (block H⁰ (words_of 16 a)) (words_of 16 (last_block 64 m)))
unfolding sha256 blocks
sha256-after a m e h =
    rw (
      pad-after a m e h,
      length-append a (last_block 64 m),
      e,
      length_last 64 m h,
      words_front 16 a (last_block 64 m) (omega arith),
      drop_at a (last_block 64 m) 64 e,
    )

-- The last block as the code makes it: in a buffer of zeros the byte 80h, the message in front of it, the length in the last word.

marked : List ℕ → List ℕ
marked m = m ++ (0x80 ∷ replicate (59 - length m) 0)

length_marked : (m : List ℕ) → length m ≤ 55 → length (marked m) ≡ 60
unfolding marked
length_marked m h = simp (length-append, length-replicate) (omega arith)

mark : (m : List ℕ) → length m ≤ 55 → with_bytes (set (replicate 64 0) (length m) 0x80) 0 m ≡ marked m ++ replicate 4 0
unfolding marked
mark m h =
    let z : List ℕ = replicate 64 0 in
    let here : length m < length z = omega arith in
    let room : 64 - (length m + 1) ≡ 59 - length m + 4 = omega arith in
    place-front (set z (length m) 0x80) m (simp length-set (omega arith))
    ∙ rw (
      drop-set z (length m) 0x80 here,
      drop-replicate (length m + 1) 64 0,
      room,
      ← replicate-append-replicate {A = ℕ} (59 - length m) 4 0,
    )
    (sym (append_assoc m (0x80 ∷ replicate (59 - length m) 0) (replicate 4 0)))

marked_last : (before : ℕ) (m : List ℕ) → before < 256 → length m ≤ 55 → marked m ++ bytes_of (8 * (before + length m)) ≡ last_block before m
unfolding last_block marked
marked_last before m b h =
    let high : 8 * (before + length m) / 2 ^ 32 ≡ 0 = omega arith in
    let low : 8 * (before + length m) % 2 ^ 32 ≡ 8 * (before + length m) = omega arith in
    let room : 59 - length m ≡ 55 - length m + 4 = omega arith in
    rw (high, low, room, ← replicate-append-replicate {A = ℕ} (55 - length m) 4 0) (simp append_assoc)

pub last_block_lem :
    (before : ℕ) (m : List ℕ) → before < 256 → length m ≤ 55 →
    put_word (with_bytes (set (replicate 64 0) (length m) 0x80) 0 m) 60 (8 * (before + length m)) ≡ last_block before m
last_block_lem before m b h =
    rw (
      mark m h,
      word_more (marked m) (replicate 64 0) 60 (8 * (before + length m)) (length_marked m h) (omega arith),
      append-nil (marked m ++ bytes_of (8 * (before + length m))),
    )
    (marked_last before m b h)

-- the same as it is computed, of a last block that is the only one
pub one_block : (m : List ℕ) → length m ≤ 55 → bytes_of_all (block H⁰ (words_of 16 (last_block 0 (take 55 m)))) ≡ sha256 m
one_block m h = rw (take_all 55 m h) (sym (sha256_short m h))
