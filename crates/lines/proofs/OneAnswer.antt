-- One answer only, for each public function of this crate, and the same whatever the lent line `out` holds. Assumes nothing.
use Prim.Native.Nat.{ℕ}
use mathlib.Core.Path.{◌≡◌, sym, ap, ◌∙◌}
use Rattle.text.proofs.OneAnswer.{same_line}
use Rattle.words.proofs.Unique.{OneResult, OneLent, Regardless}
use Rattle.state.specs.declared.State.{State}
use Rattle.lines.specs.declared.Turned.{Turned}
use Rattle.lines.specs.declared.Heard.{Heard}
use Rattle.lines.proofs.first_image.Reads as first-image-reads
use Rattle.lines.proofs.first_line.Reads as first-line-reads
use Rattle.lines.proofs.hear.Reads as hear-reads
use Rattle.lines.proofs.ended.Reads as ended-reads

first_image_one : OneResult first-image-reads.Post
first_image_one κs a x y s t p q = p ∙ sym q

first_line_one : OneLent first-line-reads.Post (λ κs s. s.1.0.now)
first_line_one κs a x y s t p q = same_line _ _ (p ∙ sym q)

first_line_anew : Regardless first-line-reads.Post (λ κs a out. (a.0, (out, a.1.1)))
first_line_anew κs a x s out p = p

-- a turn is its state
same_turn : (x y : Turned) → x.state ≡ y.state → x ≡ y
same_turn x y p = ap (λ (s : State). record { state = s }) p

-- what was heard is its two numbers and its state
same_heard : (x y : Heard) → x.used ≡ y.used → x.kept ≡ y.kept → x.state ≡ y.state → x ≡ y
same_heard x y p q r =
    ap (λ (n : ℕ). record { used = n; kept = x.kept; state = x.state }) p
    ∙ ap (λ (n : ℕ). record { used = y.used; kept = n; state = x.state }) q
    ∙ ap (λ (t : State). record { used = y.used; kept = y.kept; state = t }) r

hear_one : OneResult hear-reads.Post
hear_one κs a x y s t p q = same_heard x y (p.1.0 ∙ sym q.1.0) (p.0.kept ∙ sym q.0.kept) (p.0.state ∙ sym q.0.state)

hear_one_output : OneLent hear-reads.Post (λ κs s. s.1.1.1.1.1.0.now)
hear_one_output κs a x y s t p q = same_line _ _ (p.0.prints ∙ sym q.0.prints)

hear_one_image : OneLent hear-reads.Post (λ κs s. s.1.0.now)
hear_one_image κs a x y s t p q = p.1.1.0 ∙ sym q.1.1.0

hear_one_line : OneLent hear-reads.Post (λ κs s. s.1.1.1.0.now)
hear_one_line κs a x y s t p q = p.1.1.1 ∙ sym q.1.1.1

hear_anew : Regardless hear-reads.Post (λ κs a out. (a.0, (a.1.0, (a.1.1.0, (a.1.1.1.0, (a.1.1.1.1.0, (out, a.1.1.1.1.1.1)))))))
hear_anew κs a x s out p = p

ended_one : OneResult ended-reads.Post
ended_one κs a x y s t p q = same_turn x y (p.0.state ∙ sym q.0.state)

ended_one_output : OneLent ended-reads.Post (λ κs s. s.1.1.1.1.0.now)
ended_one_output κs a x y s t p q = same_line _ _ (p.0.prints ∙ sym q.0.prints)

ended_one_image : OneLent ended-reads.Post (λ κs s. s.0.now)
ended_one_image κs a x y s t p q = p.1 ∙ sym q.1

ended_anew : Regardless ended-reads.Post (λ κs a out. (a.0, (a.1.0, (a.1.1.0, (a.1.1.1.0, (out, a.1.1.1.1.1))))))
ended_anew κs a x s out p = p
