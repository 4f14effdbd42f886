-- Laws of the ledger alone: without a restart, every frame that an order takes runs whole, in the order in which they are taken.
-- Assumes nothing.
use Prim.Native.Nat.{ℕ, ◌+◌}
use mathlib.Core.Path.{◌≡◌, refl, ap, sym, subst, ◌∙◌}
use mathlib.Core.Bool.{Bool, true, false}
use mathlib.Core.List.{List, [], ◌∷◌, ◌++◌, append_assoc}
use lib.Dec.{ltb}
use Rattle.words.specs.Choice.{pick}
use Rattle.words.proofs.Choice.{never, either, otherwise}
use Rattle.frames.specs.declared.Class.{Class}
use Rattle.frames.specs.declared.Class.TheVariants.{Empty, EnableReset, Reset, Read, Unnamed, CommandFrame}
use Rattle.frames.specs.Classes.{class_of}
use Rattle.rules.specs.Whole.{Outcome, whole}
use Rattle.progress.specs.Steps.{steps_of}
use Rattle.device.specs.Calls.{Call, PowerUp, Frame, Work}
use Rattle.counters.specs.Reordering.{belongs, all_whole, own_statuses}
use Rattle.counters.proofs.InARow.{whole_append}
use Rattle.orders.specs.Ledger.{Pending, None, Doing, Ledger, entry, is_doing, enabling, going, taken, worked, cut, heard, entered, ledger}
use Rattle.orders.specs.Schedules.{resets, restarts, NoRestart, frames_under_way, taken_where, taken_from, frame_taken, frames_taken, frame_served, ended_where, frame_ended, shown_for}

-- the frames that end along an order
unfoldable pub frames_ended : List Call → Ledger → List (List ℕ)
frames_ended [] l = []
frames_ended (call ∷ more) l = frame_ended call l ++ frames_ended more (entered call l)

-- from one ledger to another: a frame that was under way or is taken ends or is under way, one that ends has run whole, and a status
-- shown at its end is its own
pub record Goes (taken served : List (List ℕ)) (before after : Ledger) : Type 0 where
  pub frames : frames_under_way before.pending ++ taken ≡ ended_where after.pending served ++ frames_under_way after.pending
  pub whole_ones : after.as_if ≡ all_whole (ended_where after.pending served) before.as_if
  pub shown :
      (c status : ℕ) → (is_doing after.pending ≡ false → status ≡ after.as_if.status) →
      shown_for c (ended_where after.pending served) status ≡ own_statuses c (ended_where after.pending served) before.as_if

-- nothing but reset-enable changes
goes_by : (p : Pending) (o : Outcome) (b e : Bool) → Goes [] [] (entry o p b) (entry o p e)
unfolding all_whole shown_for own_statuses
goes_by None o b e = record { frames = refl; whole_ones = refl; shown = λ c status same. refl }
goes_by (Doing frame done) o b e = record { frames = refl; whole_ones = refl; shown = λ c status same. refl }

-- a frame goes on, or has run whole
module _ (frame : List ℕ) (done : ℕ) (o : Outcome) where
  abbrev Served : Ledger → Type 0
  Served after =
      ((frame ∷ []) ≡ ended_where after.pending (frame ∷ []) ++ frames_under_way after.pending)
      × (after.as_if ≡ all_whole (ended_where after.pending (frame ∷ [])) o)
      × ((c status : ℕ) → (is_doing after.pending ≡ false → status ≡ after.as_if.status) →
      shown_for c (ended_where after.pending (frame ∷ [])) status ≡ own_statuses c (ended_where after.pending (frame ∷ [])) o)

  served : (enabled : Bool) → Served (going frame done o enabled)
  unfolding going all_whole shown_for own_statuses
  served enabled =
      either Served (ltb done (steps_of o frame)) (entry o (Doing frame done) enabled) (entry (whole o frame) None enabled)
      (λ _. (refl, refl, λ c status same. refl))
      (λ _. (refl, refl, λ c status same. ap (λ (s : ℕ). pick (belongs c frame) (s ∷ []) []) (same refl)))

-- a command frame, and a quota of steps
taken_goes : (p : Pending) (frame : List ℕ) (o : Outcome) (b : Bool) → Goes (taken_where p frame) (taken_where p frame) (entry o p b) (taken p frame o)
taken_goes None frame o b =
    let s = served frame 0 o false in
    record { frames = s.0; whole_ones = s.1; shown = s.2 }
taken_goes (Doing other done) frame o b = goes_by (Doing other done) o b false

worked_goes : (p : Pending) (quota : ℕ) (o : Outcome) (b : Bool) → Goes [] (frames_under_way p) (entry o p b) (worked p quota o b)
worked_goes None quota o b = goes_by None o b b
worked_goes (Doing frame done) quota o b =
    let s = served frame (quota + done) o b in
    record { frames = s.0; whole_ones = s.1; shown = s.2 }

-- a frame, by its class
heard_goes :
    (class : Class) (bytes : List ℕ) (l : Ledger) → resets class l ≡ false →
    Goes (taken_from class bytes l) (taken_from class bytes l) l (heard class bytes l)
heard_goes Empty bytes l on = goes_by l.pending l.as_if l.enabled l.enabled
heard_goes EnableReset bytes l on = goes_by l.pending l.as_if l.enabled true
heard_goes Reset bytes l on =
    subst (Goes [] [] l) (sym (otherwise l.enabled (cut l) (enabling false l) on)) (goes_by l.pending l.as_if l.enabled false)
heard_goes Read bytes l on = goes_by l.pending l.as_if l.enabled false
heard_goes CommandFrame bytes l on = taken_goes l.pending bytes l.as_if l.enabled
heard_goes Unnamed bytes l on = goes_by l.pending l.as_if l.enabled false

-- a call
pub goes : (call : Call) (l : Ledger) → restarts call l ≡ false → Goes (frame_taken call l) (frame_served call l) l (entered call l)
goes PowerUp l on = absurd (never (sym on))
goes (Frame bytes output) l on = heard_goes (class_of bytes) bytes l on
goes (Work quota) l on = worked_goes l.pending quota l.as_if l.enabled

-- an order of calls: the frames taken are those that end, but for one under way
pub all_end :
    (calls : List Call) (l : Ledger) → NoRestart calls l →
    frames_under_way l.pending ++ frames_taken calls l ≡ frames_ended calls l ++ frames_under_way (ledger calls l).pending
unfolding NoRestart frames_taken frames_ended ledger
all_end [] l on = nothing_more l.pending
  where
    nothing_more : (p : Pending) → frames_under_way p ++ [] ≡ [] ++ frames_under_way p
    nothing_more None = refl
    nothing_more (Doing frame done) = refl
all_end (call ∷ more) l (one, on) =
    let before = frames_under_way l.pending in
    let between = frames_under_way (entered call l).pending in
    let after = frames_under_way (ledger more (entered call l)).pending in
    sym (append_assoc before (frame_taken call l) (frames_taken more (entered call l)))
    ∙ ap (λ (fs : List (List ℕ)). fs ++ frames_taken more (entered call l)) (goes call l one).frames
    ∙ append_assoc (frame_ended call l) between (frames_taken more (entered call l))
    ∙ ap (λ (fs : List (List ℕ)). frame_ended call l ++ fs) (all_end more (entered call l) on)
    ∙ sym (append_assoc (frame_ended call l) (frames_ended more (entered call l)) after)

-- and those that end have run whole
pub ended-whole :
    (calls : List Call) (l : Ledger) → NoRestart calls l → (ledger calls l).as_if ≡ all_whole (frames_ended calls l) l.as_if
unfolding NoRestart frames_ended ledger all_whole
ended-whole [] l on = refl
ended-whole (call ∷ more) l (one, on) =
    ended-whole more (entered call l) on
    ∙ ap (all_whole (frames_ended more (entered call l))) (goes call l one).whole_ones
    ∙ sym (whole_append (frame_ended call l) (frames_ended more (entered call l)) l.as_if)
