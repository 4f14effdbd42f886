-- One answer only, for each public function of this crate: its contract is an equation, for a line of the characters in it. A lent line
-- is filled anew: the answer is the same whatever it holds. Assumes nothing.
use mathlib.Core.Path.{◌≡◌, ap, sym, ◌∙◌}
use Prim.Native.Nat.{ℕ}
use Rattle.arrayvec.specs.ArrayVec.{ArrayVec}
use Rattle.words.proofs.Unique.{OneResult, OneLent, Regardless}
use Rattle.text.proofs.number_in.Reads as number-in-reads
use Rattle.text.proofs.count_line.Reads as count-line-reads
use Rattle.text.proofs.unknown_line.Reads as unknown-line-reads
use Rattle.text.proofs.number_line.Reads as number-line-reads
use Rattle.text.proofs.work_line.Reads as work-line-reads
use Rattle.text.proofs.read_line.Reads as read-line-reads

-- lines of the same characters are the same
pub same_line : (x y : ArrayVec ℕ) → x.items ≡ y.items → x ≡ y
same_line x y e = ap (λ items. record { items = items }) e

number_in_one : OneResult number-in-reads.Post
number_in_one κs a x y s t p q = p ∙ sym q

count_line_one : OneLent count-line-reads.Post (λ κs s. s.1.0.now)
count_line_one κs a x y s t p q = same_line _ _ (p ∙ sym q)

count_line_anew : Regardless count-line-reads.Post (λ κs a line. (a.0, (line, a.1.1)))
count_line_anew κs a x s line p = p

unknown_line_one : OneLent unknown-line-reads.Post (λ κs s. s.0.now)
unknown_line_one κs a x y s t p q = same_line _ _ (p ∙ sym q)

unknown_line_anew : Regardless unknown-line-reads.Post (λ κs a line. (line, a.1))
unknown_line_anew κs a x s line p = p

number_line_one : OneLent number-line-reads.Post (λ κs s. s.1.1.0.now)
number_line_one κs a x y s t p q = same_line _ _ (p ∙ sym q)

number_line_anew : Regardless number-line-reads.Post (λ κs a line. (a.0, (a.1.0, (line, a.1.1.1))))
number_line_anew κs a x s line p = p

work_line_one : OneLent work-line-reads.Post (λ κs s. s.1.1.0.now)
work_line_one κs a x y s t p q = same_line _ _ (p ∙ sym q)

work_line_anew : Regardless work-line-reads.Post (λ κs a line. (a.0, (a.1.0, (line, a.1.1.1))))
work_line_anew κs a x s line p = p

read_line_one : OneLent read-line-reads.Post (λ κs s. s.1.1.0.now)
read_line_one κs a x y s t p q = same_line _ _ (p ∙ sym q)

read_line_anew : Regardless read-line-reads.Post (λ κs a line. (a.0, (a.1.0, (line, a.1.1.1))))
read_line_anew κs a x s line p = p
