-- Document 01, "Refusal numbers": 4, after 1 to 3. Assumes nothing.
use Rattle.std.specs.Prelude.{ℕ, Bool, false, not, List, [], ◌∷◌, ◌++◌, ltb}
use Rattle.words.specs.Choice.{pick}
use Rattle.words.specs.Rows.{Row, ◌gives◌, first_failing, any_of}
use Rattle.image.specs.Header.{count}
use Rattle.image.specs.Refusal.{refusals_of}
use Rattle.jobs.specs.Jobs.{length_of}
use Rattle.state.specs.declared.State.{State}

-- a job runs: it is there, and its step number, the number of steps done, is below the length of its kind of job
unfoldable pub is_running : State → Bool
is_running s = pick s.job.there (ltb s.job.step (length_of s.job.kind)) false

-- 4: a job whose counter number is not below the count, or whose step number is not below the length of its kind of job
abbrev pub job_refusals : ℕ → State → List (Row ℕ)
job_refusals counters s =
    (pick s.job.there (any_of (not (ltb s.job.counter counters) ∷ not (is_running s) ∷ [])) false gives 4) ∷ []

unfoldable pub job_refusal : ℕ → State → ℕ
job_refusal counters s = first_failing (job_refusals counters s)

-- device calls check 1 to 4 in order
unfoldable pub device_refusal : List ℕ → State → ℕ
device_refusal image s = first_failing (refusals_of image ++ job_refusals (count image) s)
