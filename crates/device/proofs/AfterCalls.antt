-- What a call leaves, by whether it is refused: one that is not refused has done its work, and one that is has changed nothing but what
-- a power-up resets. By the one test that each call makes. Assumes nothing.
use Prim.Native.Nat.{ℕ}
use mathlib.Core.Path.{◌≡◌, refl, sym, ◌∙◌}
use mathlib.Core.Bool.{Bool, true, false}
use mathlib.Core.List.{List, []}
use borrow.Author.Tests.{eqb-true, ne_eqb}
use lib.Dec.{eqb}
use Rattle.words.specs.Choice.{pick}
use Rattle.words.proofs.Choice.{either, otherwise}
use Rattle.image.specs.Refusal.{refusal}
use Rattle.frames.specs.Classes.{class_of}
use Rattle.state.specs.Parts.{power_on}
use Rattle.state.specs.Refusal.{device_refusal}
use Rattle.state.proofs.Refused.{device-refusal}
use Rattle.device.specs.Frame.{state_after, output_after}
use Rattle.device.specs.Work.{Device, run, steps_done}
use Rattle.device.specs.Calls.{Answer, device, powered_up, after_frame, output_after_frame, after_steps, after_work, image_after_work, Call, PowerUp, Frame, Work, after, called}

-- a power-up changes no byte of the image, and gives the power-on state
pub any_power_up : (d : Device) → called PowerUp d ≡ device d.image power_on
unfolding powered_up
any_power_up d = refl

module _ (d : Device) where
  abbrev refused : ℕ
  refused = device_refusal d.image d.state

  -- a frame call
  module _ (bytes output : List ℕ) where
    pub frame_accepted :
        refused ≡ 0 →
        after (Frame bytes output) d ≡
        record {
          number = 0;
          steps = 0;
          output = output_after (class_of bytes) d.state output;
          device = device d.image (state_after (class_of bytes) d.image d.state bytes);
        }
    unfolding after_frame output_after_frame pick
    frame_accepted accepted = rw accepted

    frame_by :
        (b : Bool) → eqb refused 0 ≡ b → ((after (Frame bytes output) d).number ≡ 0 → ⊥) →
        after (Frame bytes output) d ≡ record { number = refused; steps = 0; output = output; device = d }
    unfolding after_frame output_after_frame pick
    frame_by true e nonzero = absurd (nonzero (number e))
      where
        number : eqb refused 0 ≡ true → (after_frame d.image d.state bytes).number ≡ 0
        number e = rw e
    frame_by false e nonzero = rw e

    pub refused-frame :
        ((after (Frame bytes output) d).number ≡ 0 → ⊥) →
        after (Frame bytes output) d ≡ record { number = refused; steps = 0; output = output; device = d }
    refused-frame nonzero = frame_by _ refl nonzero

  -- a work call
  module _ (quota : ℕ) where
    pub work_accepted :
        refused ≡ 0 → after (Work quota) d ≡ record { number = 0; steps = steps_done quota d; output = []; device = run (steps_done quota d) d }
    unfolding after_work image_after_work after_steps pick
    work_accepted accepted = rw accepted

    work_by :
        (b : Bool) → eqb refused 0 ≡ b → ((after (Work quota) d).number ≡ 0 → ⊥) →
        after (Work quota) d ≡ record { number = refused; steps = 0; output = []; device = d }
    unfolding after_work image_after_work after_steps pick
    work_by true e nonzero = absurd (nonzero (number e))
      where
        number : eqb refused 0 ≡ true → (after_work d quota).number ≡ 0
        number e = rw e
    work_by false e nonzero = rw e

    pub refused_work :
        ((after (Work quota) d).number ≡ 0 → ⊥) → after (Work quota) d ≡ record { number = refused; steps = 0; output = []; device = d }
    refused_work nonzero = work_by _ refl nonzero

  -- a frame and a work call tell the refusal of what they are handed, 0 where there is none
  number_told : (n : ℕ) (a b : Answer) → a.number ≡ 0 → b.number ≡ n → (pick (eqb n 0) a b).number ≡ n
  number_told n a b done told =
      either (λ (x : Answer). x.number ≡ n) (eqb n 0) a b (λ e. done ∙ sym (eqb-true n 0 e)) (λ _. told)

  same_refusal : (refusal d.image ≡ 0 → ⊥) → refused ≡ refusal d.image
  same_refusal nonzero = device-refusal d.image d.state ∙ otherwise _ _ _ (ne_eqb (refusal d.image) 0 nonzero)

  -- on an image that power-up refuses, every call is refused, with the same number
  pub refused_image : (call : Call) → (refusal d.image ≡ 0 → ⊥) → (after call d).number ≡ refusal d.image
  unfolding powered_up after_frame after_work after_steps
  refused_image PowerUp nonzero = refl
  refused_image (Frame bytes output) nonzero = number_told refused _ _ refl refl ∙ same_refusal nonzero
  refused_image (Work quota) nonzero = number_told refused _ _ refl refl ∙ same_refusal nonzero
