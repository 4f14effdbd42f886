-- It is a monotonic counter: how a counter may go on from one moment to a later one, and which call changes its value. Assumes nothing.
use Rattle.std.specs.Prelude.{ℕ, suc, ◌+◌, ◌≤◌, ◌<◌, ◌≡◌, true, List}
use Rattle.words.specs.Words.{word_or0}
use Rattle.image.specs.Slot.{slot_of, is_set, root_key}
use Rattle.jobs.specs.Jobs.{command_type}
use Rattle.jobs.specs.declared.Command.TheVariants.{IncrementCounter}
use Rattle.frames.specs.Layout.{type_of, counter_of}
use Rattle.rules.specs.Whole.{frame_kept, Verifies}
use Rattle.progress.specs.Steps.{steps_of}
use Rattle.device.specs.Calls.{Call, Work}
use Rattle.orders.specs.Ledger.{Ledger, Doing}

-- a set counter stays set and its value never falls; a set root stays set and its key never changes
pub record Grows (before after : List ℕ) (c : ℕ) : Type 0 where
  pub stays-set : is_set (slot_of before c).counter_state ≡ true → is_set (slot_of after c).counter_state ≡ true
  pub never-falls : is_set (slot_of before c).counter_state ≡ true → (slot_of before c).value ≤ (slot_of after c).value
  pub root-stays-set : is_set (slot_of before c).root_state ≡ true → is_set (slot_of after c).root_state ≡ true
  pub key-stays : is_set (slot_of before c).root_state ≡ true → root_key after c ≡ root_key before c

-- what holds if a call changes the value of a set counter: it is a work call that has the last step of an increment of this counter,
-- whose signature verified and whose data was the value; and the value goes up by 1
pub record Counts (l : Ledger) (call : Call) (before after : List ℕ) (c : ℕ) : Type 0 where
  pub frame : List ℕ
  pub done : ℕ
  pub quota : ℕ
  pub worked : call ≡ Work quota
  pub under-way : l.pending ≡ Doing frame done
  pub own : counter_of frame ≡ c
  pub increment : type_of frame ≡ command_type IncrementCounter
  pub verified : Verifies IncrementCounter l.as_if frame
  pub was-the-value : word_or0 (frame_kept frame) 4 ≡ (slot_of before c).value
  pub last_step : (done < steps_of l.as_if frame) × (steps_of l.as_if frame ≤ quota + done)
  pub by_one : (slot_of after c).value ≡ suc (slot_of before c).value
