-- Refusals 1 to 4 are those of the image, and where there is none that of the job: the table is the one behind the other. A job is not
-- refused where it fits, and nowhere else. Assumes nothing.
use Prim.Native.Nat.{ℕ, ◌<◌}
use mathlib.Core.Path.{◌≡◌, refl, sym, ◌∙◌}
use mathlib.Core.Bool.{Bool, true, false, not}
use mathlib.Core.List.{List, [], ◌∷◌}
use borrow.Author.Tests.{ltb-true, lt-ltb, not-false}
use lib.Dec.{ltb}
use Rattle.words.specs.Choice.{pick, or_else}
use Rattle.words.specs.Rows.{first_of, any_of}
use Rattle.words.proofs.Choice.{or_zero, not_both}
use Rattle.words.proofs.Rows.{none_fails, no_test, first-append}
use Rattle.image.specs.Header.{count}
use Rattle.image.specs.Refusal.{refusals_of, refusal}
use Rattle.state.specs.declared.State.{State}
use Rattle.state.specs.Refusal.{is_running, job_refusals, job_refusal, device_refusal}

pub device-refusal : (image : List ℕ) (s : State) → device_refusal image s ≡ or_else (refusal image) (job_refusal (count image) s)
unfolding device_refusal refusal job_refusal pick
device-refusal image s = first-append (refusals_of image) (job_refusals (count image) s) refl

-- a job fits: where there is one, its counter is below the count, and it runs
abbrev pub Fits : ℕ → State → Type 0
Fits counters s = s.job.there ≡ true → (s.job.counter < counters) × (is_running s ≡ true)

pub job_fits : (counters : ℕ) (s : State) → job_refusal counters s ≡ 0 → Fits counters s
unfolding job_refusal pick
job_fits counters s accepted there =
    let row = none_fails (job_refusals counters s) refl accepted 0 in
    let tests = no_test (not (ltb s.job.counter counters) ∷ not (is_running s) ∷ []) (not_both s.job.there _ row there) in
    (ltb-true s.job.counter counters (not-false _ (tests 0)), not-false _ (tests 1))

fits_by : (counters : ℕ) (s : State) → Fits counters s → (b : Bool) → s.job.there ≡ b → job_refusal counters s ≡ 0
unfolding job_refusal first_of any_of pick
fits_by counters s fits true there = rw ((fits there).1, there, lt-ltb s.job.counter counters (fits there).0)
fits_by counters s fits false none = rw none

pub fits_job : (counters : ℕ) (s : State) → Fits counters s → job_refusal counters s ≡ 0
fits_job counters s fits = fits_by counters s fits _ refl

-- where there is no refusal, the image is accepted
pub image_accepted : (image : List ℕ) (s : State) → device_refusal image s ≡ 0 → refusal image ≡ 0
image_accepted image s e = (or_zero _ _ (sym (device-refusal image s) ∙ e)).0

-- and there is none of an accepted image and a job that fits
pub fits_accepted : (image : List ℕ) (s : State) → refusal image ≡ 0 → Fits (count image) s → device_refusal image s ≡ 0
unfolding pick
fits_accepted image s accepted fits = rw (device-refusal image s, accepted) (fits_job (count image) s fits)

-- as one that runs, of a counter that there is
pub job_accepted :
    (image : List ℕ) (s : State) → refusal image ≡ 0 → s.job.counter < count image → is_running s ≡ true → device_refusal image s ≡ 0
job_accepted image s accepted below runs = fits_accepted image s accepted (λ _. (below, runs))
