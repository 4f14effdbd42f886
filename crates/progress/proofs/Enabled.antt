-- Reset-enable makes no difference to a step, and a step none to it: no part of a step looks at it, and each hands it on. Assumes
-- nothing.
use Prim.Native.Nat.{ℕ, zero, suc, ◌+◌}
use mathlib.Core.Path.{◌≡◌, refl, ap, ◌∙◌}
use mathlib.Core.Bool.{Bool, true, false}
use mathlib.Core.List.{List}
use lib.Dec.{eqb}
use Rattle.words.specs.Choice.{pick}
use Rattle.image.specs.Slot.{slot_of}
use Rattle.jobs.specs.Jobs.{command_of, signature_steps}
use Rattle.jobs.specs.declared.Command.{Command}
use Rattle.jobs.specs.declared.Command.TheVariants.{WriteRootKey, UpdateSessionKey, IncrementCounter, RequestCounter}
use Rattle.state.specs.declared.State.{State}
use Rattle.state.specs.Parts.{posted}
use Rattle.state.specs.Refusal.{is_running}
use Rattle.signing.specs.Hashed.{block_done, with_block, hashed}
use Rattle.steps.specs.Ending.{with_key, with_reply, with_step, is_last, finished_by, advanced}
use Rattle.steps.specs.Deciding.{with_kept, decision_of, decided, hash_step}
use Rattle.rules.specs.Whole.{kept_after}
use Rattle.steps.specs.Step.{is_hash, step_state, step_image}
use Rattle.device.specs.Frame.{with_enabled}
use Rattle.device.specs.Work.{Device, stepped, run}
use Rattle.device.specs.Calls.{device}

-- a device with reset-enable on or off
abbrev pub enabled_as : Bool → Device → Device
enabled_as b d = device d.image (with_enabled d.state b)

module _ (b : Bool) where
  either_way :
      (t : Bool) (x y x' y' : State) → x' ≡ with_enabled x b → y' ≡ with_enabled y b → pick t x' y' ≡ with_enabled (pick t x y) b
  unfolding pick
  either_way true x y x' y' e f = e
  either_way false x y x' y' e f = f

  finished : (command : Command) (s : State) → finished_by command (with_enabled s b) ≡ with_enabled (finished_by command s) b
  unfolding with_enabled with_key with_reply
  finished WriteRootKey s = refl
  finished UpdateSessionKey s = refl
  finished IncrementCounter s = refl
  finished RequestCounter s = refl

  advanced_same : (s : State) → advanced (with_enabled s b) ≡ with_enabled (advanced s) b
  unfolding advanced with_enabled with_step
  advanced_same s =
      either_way (is_last s) (finished_by (command_of s.job.kind) s) (with_step s (s.job.step + 1)) _ _
      (finished (command_of s.job.kind) s) refl

  block_same : (command : Command) (s : State) → block_done command (with_enabled s b) ≡ block_done command s
  unfolding block_done with_enabled
  block_same WriteRootKey s = refl
  block_same UpdateSessionKey s = refl
  block_same IncrementCounter s = refl
  block_same RequestCounter s = refl

  hashed_same : (s : State) → hashed (with_enabled s b) ≡ with_enabled (hashed s) b
  unfolding hashed with_enabled with_block
  hashed_same s = ap (λ (chain : List ℕ). with_block (command_of s.job.kind) (with_enabled s b) chain) (block_same (command_of s.job.kind) s)

  decided_same : (s : State) (value : ℕ) → decided (with_enabled s b) value ≡ with_enabled (decided s value) b
  unfolding decided with_enabled with_kept
  decided_same s value =
      either_way (eqb (decision_of s value) 0) (advanced (with_kept s (kept_after (command_of s.job.kind) s.job.kept value)))
      (posted s (decision_of s value)) _ _
      (advanced_same (with_kept s (kept_after (command_of s.job.kind) s.job.kept value))) refl

  hash_same : (image : List ℕ) (s : State) → hash_step image (with_enabled s b) ≡ with_enabled (hash_step image s) b
  unfolding hash_step with_enabled hashed with_block
  hash_same image s =
      either_way (eqb (s.job.step + 1) (signature_steps (command_of s.job.kind))) (decided (hashed s) _) (advanced (hashed s)) _ _
      (ap (λ (t : State). decided t (slot_of image s.job.counter).value) (hashed_same s) ∙ decided_same (hashed s) _)
      (ap advanced (hashed_same s) ∙ advanced_same (hashed s))

  state_same : (image : List ℕ) (s : State) → step_state image (with_enabled s b) ≡ with_enabled (step_state image s) b
  unfolding step_state with_enabled is_running
  state_same image s =
      either_way (is_running s) (pick (is_hash s.job) (hash_step image s) (advanced s)) s _ _
      (either_way (is_hash s.job) (hash_step image s) (advanced s) _ _ (hash_same image s) (advanced_same s)) refl

  stepped_same : (d : Device) → stepped (enabled_as b d) ≡ enabled_as b (stepped d)
  unfolding stepped step_image with_enabled is_running
  stepped_same d = ap (λ (s : State). device (step_image d.image d.state) s) (state_same d.image d.state)

  -- steps of a device with reset-enable on or off
  pub run_same : (n : ℕ) (d : Device) → run n (enabled_as b d) ≡ enabled_as b (run n d)
  unfolding run
  run_same zero d = refl
  run_same (suc n) d = ap stepped (run_same n d) ∙ stepped_same (run n d)
