-- One answer only, for each public function of this crate. Assumes nothing.
use Prim.Native.Nat.{ℕ}
use Rattle.std.proofs.Common.{Fits, w64}
use mathlib.Core.Path.{sym, ◌∙◌}
use Rattle.words.proofs.Unique.{OneResult, OneLent}
use Rattle.words.proofs.word.Reads as word-reads
use Rattle.words.proofs.bytes.Reads as bytes-reads
use Rattle.words.proofs.byte.Reads as byte-reads
use Rattle.words.proofs.get.Reads as get-reads
use Rattle.words.proofs.put.Reads as put-reads
use Rattle.words.proofs.copy.Reads as copy-reads
use Rattle.words.proofs.place.Reads as place-reads
use Rattle.words.proofs.part.Reads as part-reads
use Rattle.words.proofs.words_at.Reads as words_at-reads

word_one : OneResult word-reads.Post
word_one κs a x y s t p q = p ∙ sym q

bytes_one : OneResult bytes-reads.Post
bytes_one κs a x y s t p q = p ∙ sym q

byte_one : OneResult byte-reads.Post
byte_one κs a x y s t p q = p ∙ sym q

get_one : OneResult get-reads.Post
get_one κs a x y s t p q = p ∙ sym q

put_one : OneLent put-reads.Post (λ κs s. s.0.now)
put_one κs a x y s t p q = p ∙ sym q

copy_one : OneLent copy-reads.Post (λ κs s. s.1.1.0.now)
copy_one κs a x y s t p q = p ∙ sym q

place_one : OneLent place-reads.Post (λ κs s. s.1.1.0.now)
place_one κs a x y s t p q = p ∙ sym q

-- of arrays of any length
part_one : (n : ℕ) (fits : Fits w64 n) → OneResult (part-reads.Post n fits)
part_one n fits κs a x y s t p q = p ∙ sym q

words_at_one : (n : ℕ) (fits : Fits w64 n) → OneResult (words_at-reads.Post n fits)
words_at_one n fits κs a x y s t p q = p ∙ sym q
