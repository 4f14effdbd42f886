-- One answer only, for each public function of this crate. Assumes nothing.
use mathlib.Core.Path.{◌≡◌, ap, sym, ◌∙◌}
use Rattle.words.proofs.Unique.{OneResult, OneLent}
use Rattle.refusals.proofs.Numbers.{outcome_of, outcome_back}
use Rattle.device.specs.declared.Answer.{Answer as Given}
use Rattle.device.specs.Calls.{Answer, answer_of}
use Rattle.device.proofs.power_up.Reads as power-up-reads
use Rattle.device.proofs.frame.Reads as frame-reads
use Rattle.device.proofs.work.Reads as work-reads

-- what the code answers is told by what the answer says
given_of : Answer → Given
given_of a = record { outcome = outcome_of tt a.number; steps = a.steps; state = a.state }

one_answer : (x y : Given) → answer_of x ≡ answer_of y → x ≡ y
unfolding given_of
one_answer x y e = sym (back x) ∙ ap given_of e ∙ back y
  where
    back : (x : Given) → given_of (answer_of x) ≡ x
    back x = rw (outcome_back x.outcome)

power_up_one : OneResult power-up-reads.Post
power_up_one κs a x y s t p q = one_answer x y (p ∙ sym q)

frame_one : OneResult frame-reads.Post
frame_one κs a x y s t p q = one_answer x y (p.0 ∙ sym q.0)

frame_one_lent : OneLent frame-reads.Post (λ κs s. s.1.1.1.0.now)
frame_one_lent κs a x y s t p q = p.1 ∙ sym q.1

work_one : OneResult work-reads.Post
work_one κs a x y s t p q = one_answer x y (p.0 ∙ sym q.0)

work_one_lent : OneLent work-reads.Post (λ κs s. s.0.now)
work_one_lent κs a x y s t p q = p.1 ∙ sym q.1
