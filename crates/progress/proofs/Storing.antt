-- The steps after the check come to what the page says: the stores of the plan, all of them by one law, or the reply's four blocks, or
-- nothing more. Past the end of the job further steps change nothing. Assumes nothing.
use Prim.Native.Nat.{ℕ, ◌+◌, ◌-◌, ◌≤◌}
use mathlib.Core.Path.{◌≡◌, refl, ap, ◌∙◌}
use mathlib.Core.Bool.{true, false}
use mathlib.Core.List.{List, ◌++◌}
use native.Mathlib.Omega.{arith}
use lib.ListN.{get_or}
use Rattle.words.specs.Choice.{pick}
use Rattle.words.specs.Words.{bytes_of, bytes_of_all}
use Rattle.words.specs.Table.{field}
use Rattle.hmac.proofs.FourBlocks.{second, fourth}
use Rattle.jobs.specs.Jobs.{length_of, command_of, signature_steps, hash_steps}
use Rattle.jobs.proofs.Longest.{some-blocks}
use Rattle.jobs.specs.declared.Command.{Command}
use Rattle.jobs.specs.declared.Command.TheVariants.{WriteRootKey, UpdateSessionKey, IncrementCounter, RequestCounter}
use Rattle.jobs.specs.declared.Kind.{Kind}
use Rattle.jobs.specs.declared.Kind.TheVariants.{Request}
use Rattle.state.specs.declared.Key.{Key}
use Rattle.state.specs.declared.State.{State}
use Rattle.state.specs.Parts.{no_key}
use Rattle.state.specs.Refusal.{is_running}
use Rattle.plan.specs.Stores.{stores}
use Rattle.plan.specs.Storing.{all_stored}
use Rattle.plan.proofs.Plans.{plan-length}
use Rattle.signing.specs.Signing.{quarter_of}
use Rattle.signing.specs.Hashed.{block_done, inner_after, with_block, hashed}
use Rattle.steps.specs.Ending.{with_key, with_reply, with_step, finished_by, advanced}
use Rattle.steps.specs.Deciding.{hash_step}
use Rattle.steps.specs.Step.{step_state, step_image}
use Rattle.device.specs.Work.{Device, stepped, run}
use Rattle.device.specs.Calls.{device, outcome}
use Rattle.progress.proofs.Runs.{run_idle, run_add}
use Rattle.progress.proofs.Hashing.{busy}
use Rattle.progress.proofs.Stores.{all_made}
use Rattle.rules.specs.Whole.{Outcome}

-- what is seen of a job that ends well does not go by its step number
ends : (command : Command) (image : List ℕ) (s : State) (step : ℕ) →
    outcome (device image (finished_by command (with_step s step))) ≡ outcome (device image (finished_by command s))
unfolding with_step with_key with_reply
ends WriteRootKey image s step = refl
ends UpdateSessionKey image s step = refl
ends IncrementCounter image s step = refl
ends RequestCounter image s step = refl

module _ (image : List ℕ) (keys : List Key) (counter : ℕ) (frame root chain made inner : List ℕ) (kept : ℕ) (n : ℕ) where
  -- a job in the last step of its signature check
  abbrev last : Kind → State
  last kind = busy kind keys counter frame root (signature_steps (command_of kind) - 1) chain made inner kept

  abbrev checked : Kind → Device
  checked kind = device image (advanced (last kind))

  -- a command that ends with its stores, or with its check where it has none: n steps, if the job has no more after those of its check
  pub stored-all :
      (kind : Kind) → hash_steps (command_of kind) ≡ signature_steps (command_of kind) → length_of kind ≤ n + signature_steps (command_of kind) →
      outcome (run n (checked kind)) ≡
      outcome (device (all_stored (stores kind frame kept) image counter) (finished_by (command_of kind) (last kind)))
  unfolding with_step
  stored-all kind blocks enough =
      let some = some-blocks (command_of kind) in
      ap outcome
      (all_made (last kind) (signature_steps (command_of kind) - 1) refl (omega (arith, blocks, some)) image n
      (omega (arith, enough, blocks, plan-length kind frame kept)))
      ∙ ends (command_of kind) (all_stored (stores kind frame kept) image counter) (last kind) _

  -- a request is answered: four blocks more, those of its reply
  abbrev answered : Outcome
  answered =
      record {
        status = 0x80;
        keys = keys;
        reply =
            record {
              there = true;
              bytes =
                  field 4 12 frame ++ bytes_of kept
                  ++ bytes_of_all (fourth (get_or keys counter no_key).bytes (field 4 12 frame ++ bytes_of kept) chain inner);
            };
        image = image;
      }

  request_done : outcome (run 4 (checked Request)) ≡ answered
  unfolding run stepped step_state step_image is_running pick hash_step hashed with_block block_done quarter_of inner_after advanced with_step with_reply second fourth
  request_done = refl

  request_idle : is_running (run 4 (checked Request)).state ≡ false
  unfolding run stepped step_state step_image is_running pick hash_step hashed with_block block_done quarter_of inner_after advanced with_step with_reply second fourth
  request_idle = refl

  pub stored_request : length_of Request ≤ n + 4 → outcome (run n (checked Request)) ≡ answered
  stored_request enough =
      let more : n ≡ (n - 4) + 4 = omega (arith, enough) in
      ap (λ (k : ℕ). outcome (run k (checked Request))) more
      ∙ ap outcome (run_add (n - 4) 4 (checked Request) ∙ run_idle (n - 4) (run 4 (checked Request)) request_idle) ∙ request_done
