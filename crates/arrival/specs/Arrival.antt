-- Document 01, "A taken OP1 frame": checks 1 to 7 are made on arrival with no step, then a job runs. Assumes nothing.
use Rattle.std.specs.Prelude.{ℕ, true, false, List, eqb, replicate}
use Rattle.words.specs.Choice.{pick}
use Rattle.image.specs.Slot.{slot_of, root_key}
use Rattle.frames.specs.Layout.{type_of, counter_of}
use Rattle.jobs.specs.Jobs.{kind_of}
use Rattle.state.specs.declared.Job.{Job}
use Rattle.state.specs.declared.State.{State}
use Rattle.state.specs.Parts.{no_reply}
use Rattle.rules.specs.Whole.{frame_kept, is_temporary, status_on_arrival}

-- the job of a frame. The root key in use is read on arrival and kept, and so is the kind of job
unfoldable pub job_of : List ℕ → List ℕ → Job
job_of image frame =
    record {
      there = true;
      kind = kind_of (type_of frame) (is_temporary (frame_kept frame)) (slot_of image (counter_of frame)).counter_state;
      counter = counter_of frame;
      step = 0;
      frame = frame_kept frame;
      root_key = root_key image (counter_of frame);
      made = replicate 32 0;
      inner = replicate 8 0;
      kept = 0;
    }

-- a taken frame: status and job, the reply is forgotten, and reset-enable is cleared
unfoldable pub taken : State → ℕ → Job → State
taken s status job =
    record {
      status = status;
      keys = s.keys;
      reply = no_reply;
      enabled = false;
      chain = s.chain;
      job = job;
    }

-- the state after a frame is taken: a job runs, with status 01h, or the first failing check has decided
unfoldable pub arrived : List ℕ → State → List ℕ → State
arrived image s frame =
    pick (eqb (status_on_arrival image s.keys frame) 0) (taken s 0x01 (job_of image frame)) (taken s (status_on_arrival image s.keys frame) s.job)
