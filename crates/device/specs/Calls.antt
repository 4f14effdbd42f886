-- Document 01, "Refusal numbers": the three calls, refused ones too, and what each leaves. Assumes nothing.
use Rattle.std.specs.Prelude.{ℕ, Bool, List, [], eqb}
use Rattle.words.specs.Choice.{pick}
use Rattle.refusals.specs.Numbers.{number_of}
use Rattle.image.specs.Refusal.{refusal}
use Rattle.frames.specs.Classes.{class_of}
use Rattle.state.specs.declared.State.{State}
use Rattle.state.specs.Parts.{power_on}
use Rattle.state.specs.Refusal.{device_refusal}
use Rattle.rules.specs.Whole.{Outcome}
use Rattle.device.specs.declared.Answer.{Answer as Given}
use Rattle.device.specs.Frame.{state_after, output_after}
use Rattle.device.specs.Work.{Device, run, steps_done}

-- the answer of a call: its number, 0 if it is done, the steps done, and the state afterwards
pub record Answer : Type 0 where
  pub number : ℕ
  pub steps : ℕ
  pub state : State

abbrev pub answer : ℕ → ℕ → State → Answer
answer number steps state = record { number = number; steps = steps; state = state }

-- what the code's answer says: it has an outcome, whose number is the answer's
abbrev pub answer_of : Given → Answer
answer_of given = answer (number_of given.outcome) given.steps given.state

-- power-up gives the power-on state, refused or not
unfoldable pub powered_up : List ℕ → Answer
powered_up image = answer (refusal image) 0 power_on

-- refused calls return the state handed in and report 0 steps
unfoldable pub after_frame : List ℕ → State → List ℕ → Answer
after_frame image s frame =
    pick (eqb (device_refusal image s) 0) (answer 0 0 (state_after (class_of frame) image s frame)) (answer (device_refusal image s) 0 s)

-- refused calls change no lent byte
unfoldable pub output_after_frame : List ℕ → State → List ℕ → List ℕ → List ℕ
output_after_frame image s frame output = pick (eqb (device_refusal image s) 0) (output_after (class_of frame) s output) output

-- the steps done, of a device that is not refused
unfoldable pub after_steps : Device → ℕ → Answer
after_steps d steps = answer 0 steps (run steps d).state

unfoldable pub after_work : Device → ℕ → Answer
after_work d quota =
    pick (eqb (device_refusal d.image d.state) 0) (after_steps d (steps_done quota d))
    (answer (device_refusal d.image d.state) 0 d.state)

unfoldable pub image_after_work : Device → ℕ → List ℕ
image_after_work d quota = pick (eqb (device_refusal d.image d.state) 0) (run (steps_done quota d) d).image d.image

-- an image and a state handed in together
abbrev pub device : List ℕ → State → Device
device image s = record { image = image; state = s }

-- a call: power-up, and a power cut is one on the image as it then stands; a frame's bytes, with an output buffer; work, with a quota
pub data Call : Type 0 where
  PowerUp : Call
  Frame : List ℕ → List ℕ → Call
  Work : ℕ → Call

-- what a call leaves: its number, 0 or the refusal's, the steps that it reports, the output buffer, none but for a frame, and the
-- image and the state
pub record After : Type 0 where
  pub number : ℕ
  pub steps : ℕ
  pub output : List ℕ
  pub device : Device

-- an answer, with the output and the image as they then stand
abbrev pub leaving : Answer → List ℕ → List ℕ → After
leaving a output image = record { number = a.number; steps = a.steps; output = output; device = device image a.state }

abbrev pub after : Call → Device → After
after PowerUp d = leaving (powered_up d.image) [] d.image
after (Frame bytes output) d =
    leaving (after_frame d.image d.state bytes) (output_after_frame d.image d.state bytes output) d.image
after (Work quota) d = leaving (after_work d quota) [] (image_after_work d quota)

-- the device after a call
abbrev pub called : Call → Device → Device
called call d = (after call d).device

-- busy: a job is there
abbrev pub is_busy : Device → Bool
is_busy d = d.state.job.there

-- what is seen of a device
abbrev pub outcome : Device → Outcome
outcome d = record { status = d.state.status; keys = d.state.keys; reply = d.state.reply; image = d.image }
