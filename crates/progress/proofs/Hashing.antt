-- The first steps of a job are the four blocks of an HMAC, of a key and a message that stay the same: each kind's steps are computed.
-- Assumes nothing.
use Prim.Native.Nat.{ℕ}
use mathlib.Core.Path.{◌≡◌, refl}
use mathlib.Core.Bool.{true, false}
use mathlib.Core.List.{List}
use Rattle.words.specs.Choice.{pick}
use Rattle.words.specs.Words.{bytes_of_all}
use Rattle.words.specs.Table.{field}
use Rattle.hmac.proofs.FourBlocks.{second, fourth}
use Rattle.image.specs.Slot.{slot_of}
use Rattle.jobs.specs.Jobs.{command_of}
use Rattle.jobs.specs.declared.Kind.{Kind}
use Rattle.jobs.specs.declared.Kind.TheVariants.{RootKeyAndCounter, RootKey, SessionKey, Increment, Request, TemporaryKeyAndCounter, TemporaryKey}
use Rattle.state.specs.declared.Key.{Key}
use Rattle.state.specs.declared.State.{State}
use Rattle.state.specs.Parts.{no_reply}
use Rattle.state.specs.Refusal.{is_running}
use Rattle.signing.specs.Signing.{quarter_of, key_of, message_of}
use Rattle.signing.specs.Hashed.{block_done, inner_after, with_block, hashed}
use Rattle.steps.specs.Ending.{with_step, advanced}
use Rattle.steps.specs.Deciding.{decided, hash_step}
use Rattle.steps.specs.Step.{step_state, step_image}
use Rattle.device.specs.Work.{stepped, run}
use Rattle.device.specs.Calls.{device}

-- a state with a job of a taken frame
abbrev pub busy : Kind → List Key → ℕ → List ℕ → List ℕ → ℕ → List ℕ → List ℕ → List ℕ → ℕ → State
busy kind keys counter frame root step chain made inner kept =
    record {
      status = 0x01;
      keys = keys;
      reply = no_reply;
      enabled = false;
      chain = chain;
      job =
          record {
            there = true;
            kind = kind;
            counter = counter;
            step = step;
            frame = frame;
            root_key = root;
            made = made;
            inner = inner;
            kept = kept;
          };
    }

-- the first four steps of a job, of a key and a message that stay the same
module _ (image : List ℕ) (keys : List Key) (counter : ℕ) (frame root chain made inner : List ℕ) (kept : ℕ) where
  abbrev pub begun : Kind → State
  begun kind = busy kind keys counter frame root 0 chain made inner kept

  abbrev pub key_at : Kind → List ℕ
  key_at kind = key_of (command_of kind) (begun kind)

  abbrev pub message_at : Kind → List ℕ
  message_at kind = message_of (command_of kind) 0 frame kept

  abbrev pub second_at : Kind → List ℕ
  second_at kind = second (key_at kind) (message_at kind) chain inner

  abbrev pub fourth_at : Kind → List ℕ
  fourth_at kind = fourth (key_at kind) (message_at kind) chain inner

  -- the state with the digest to be checked
  abbrev pub hashed_at : Kind → State
  hashed_at kind = busy kind keys counter frame root 3 (fourth_at kind) made (second_at kind) kept

  abbrev pub checked_at : Kind → State
  checked_at kind = decided (hashed_at kind) (slot_of image counter).value

  -- a session key job has made its key after four steps, the others are checked
  abbrev pub after_four : Kind → State
  after_four RootKeyAndCounter = checked_at RootKeyAndCounter
  after_four RootKey = checked_at RootKey
  after_four TemporaryKeyAndCounter = checked_at TemporaryKeyAndCounter
  after_four TemporaryKey = checked_at TemporaryKey
  after_four SessionKey =
      busy SessionKey keys counter frame root 4 (fourth_at SessionKey) (bytes_of_all (fourth_at SessionKey)) (second_at SessionKey) kept
  after_four Increment = checked_at Increment
  after_four Request = checked_at Request

  pub four_steps : (kind : Kind) → run 4 (device image (begun kind)) ≡ device image (after_four kind)
  unfolding run stepped step_state step_image is_running pick hash_step hashed with_block block_done quarter_of inner_after advanced with_step second fourth
  four_steps RootKeyAndCounter = refl
  four_steps RootKey = refl
  four_steps TemporaryKeyAndCounter = refl
  four_steps TemporaryKey = refl
  four_steps SessionKey = refl
  four_steps Increment = refl
  four_steps Request = refl

  -- and not before the fourth of them: the job is still there, with its status
  pub before_the_check :
      (kind : Kind) → ((run 3 (device image (begun kind))).state.job.there ≡ true) × ((run 3 (device image (begun kind))).state.status ≡ 0x01)
  unfolding run stepped step_state step_image is_running pick hash_step hashed with_block block_done quarter_of inner_after advanced with_step
  before_the_check RootKeyAndCounter = (refl, refl)
  before_the_check RootKey = (refl, refl)
  before_the_check TemporaryKeyAndCounter = (refl, refl)
  before_the_check TemporaryKey = (refl, refl)
  before_the_check SessionKey = (refl, refl)
  before_the_check Increment = (refl, refl)
  before_the_check Request = (refl, refl)

-- the four steps of a session key job that check the frame under the new key
pub four_more_steps :
    (image : List ℕ) (keys : List Key) (counter : ℕ) (frame root chain made inner : List ℕ) (kept : ℕ) →
    run 4 (device image (busy SessionKey keys counter frame root 4 chain made inner kept)) ≡
    device image
    (decided
    (busy SessionKey keys counter frame root 7 (fourth made (field 0 8 frame) chain inner) made (second made (field 0 8 frame) chain inner) kept)
    (slot_of image counter).value)
unfolding run stepped step_state step_image is_running pick hash_step hashed with_block block_done quarter_of inner_after advanced with_step second fourth
four_more_steps image keys counter frame root chain made inner kept = refl
