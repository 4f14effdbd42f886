-- The promises, all of them in one place. What stands in quotes is document 01's. Assumes nothing.
use Prim.Native.Nat.{ℕ, suc, ◌+◌, ◌≤◌, ◌<◌, min}
use mathlib.Core.Path.{◌≡◌}
use mathlib.Core.Bool.{Bool, true, false}
use mathlib.Core.List.{List, [], ◌∷◌}
use lib.Dec.{ltb}
use lib.ListN.{length, get_or, replicate, take}
use Rattle.words.specs.Choice.{pick}
use Rattle.words.specs.Rows.{first_failing}
use Rattle.words.specs.Words.{Bytes, bytes_of}
use Rattle.image.specs.declared.Slot.{Slot}
use Rattle.image.specs.Slot.{slot_of, is_set, root_key}
use Rattle.image.specs.Header.{count}
use Rattle.image.specs.Refusal.{refusal}
use Rattle.frames.specs.declared.Class.TheVariants.{Read, CommandFrame}
use Rattle.frames.specs.declared.Reply.{Reply}
use Rattle.frames.specs.Classes.{FrameOf}
use Rattle.frames.proofs.Classes.{class_by_numbers}
use Rattle.frames.specs.Reading.{read_output}
use Rattle.frames.proofs.Reading as Reading
use Rattle.jobs.specs.Jobs.{longest}
use Rattle.jobs.proofs.Longest as Longest
use Rattle.state.specs.Parts.{no_key, power_on}
use Rattle.state.specs.Refusal.{is_running, device_refusal}
use Rattle.device.specs.Work.{Device, run}
use Rattle.device.specs.Calls.{device, After, Call, PowerUp, Frame, Work, called, after, outcome, is_busy}
use Rattle.device.proofs.AfterCalls as AfterCalls
use Rattle.progress.specs.Steps.{steps_of}
use Rattle.progress.proofs.Ends as Ending
use Rattle.progress.proofs.Adds as Adds
use Rattle.rules.proofs.TooShort as TooShort
use Rattle.rules.specs.Whole.{Outcome, status_on_arrival, all_checks, failed_with, whole}
use Rattle.counters.specs.Compared.{counter_in, Alike}
use Rattle.rules.specs.Formed.{Formed}
use Rattle.counters.specs.Reordering.{own_frames, all_whole, own_statuses}
use Rattle.counters.proofs.CountersApart.{same_counter, same_session, same_statuses}
use Rattle.orders.specs.Orders.{all_called, all_left, last_left}
use Rattle.orders.specs.Ledger.{Ledger, is_doing, ledger, opened}
use Rattle.orders.specs.InStep.{InStep}
use Rattle.orders.specs.Schedules.{NoRestart, frames_taken, finals}
use Rattle.orders.specs.Growing.{Grows, Counts}
use Rattle.orders.specs.Touched.{Untouched, Touches}
use Rattle.orders.proofs.Ledger as Along
use Rattle.orders.proofs.Monotonic as Monotonic
use Rattle.orders.proofs.Counts as Counts
use Rattle.orders.proofs.Touched as Touched
use Rattle.orders.proofs.Commutes as Commutes
use Rattle.orders.proofs.ItEnds as ItEnds
use Rattle.checks.specs.Checks.{checks_of}
use Rattle.host.specs.Frames.{new_session_key, root_key_frame, session_key_frame, increment_frame, request_frame}
use Rattle.host.specs.Reading.{GoodReply}
use Rattle.exchange.specs.Built.{HostFrame, frame_of, Sized, CounterInOrder, RootUnset, CounterSet, Awaited, Agreed, Paired, InSession}
use Rattle.exchange.specs.Exchange.{AtRest, Ends, read_from, ReadsGood}
use Rattle.exchange.proofs.Arrives as Arrives
use Rattle.exchange.proofs.Carried as Carried
use Rattle.exchange.proofs.Comes as Comes
use Rattle.exchange.proofs.BothEnds as BothEnds
use Rattle.promises.specs.Functions.{Did, Ran, ReplyRead}
use Rattle.promises.proofs.Entry as Entry
use Rattle.promises.specs.Examples.{Example, Ready, Given, script, Seen, Happens}
use Rattle.promises.proofs.Functions as Functions
use Rattle.promises.proofs.Examples as Examples
use Rattle.promises.proofs.ExamplesHappen as ExamplesHappen

-- Powered up on an accepted image, and any calls in any order: `d` is the device that they leave, `l` the ledger, told from them alone.
module _ (image : List ℕ) (accepted : refusal image ≡ 0) (calls : List Call) where
  abbrev d : Device
  d = all_called calls (device image power_on)

  abbrev l : Ledger
  l = ledger calls (opened image)

  -- Demand 3: whatever the order, once idle the device is as if the frames that found it idle had run whole. `Alike` is what is compared.
  pub as_if_whole : is_busy d ≡ false → Alike (outcome d) l.as_if
  as_if_whole = Along.as_if_whole image accepted calls

  -- At every moment the ledger agrees with the device: the frame under way with its job and its steps done, reset-enable; and once idle all.
  pub in_step : InStep l d
  in_step = Along.in_step image accepted calls

  -- So a read at any moment shows the ledger's status and reply, or, while a frame is under way, 01h throughout (`busy-read`).
  pub reads :
      (bytes output : List ℕ) → FrameOf Read bytes →
      (after (Frame bytes output) d).output ≡ read_output (is_doing l.pending) l.as_if.status l.as_if.reply (length output)
  reads bytes output frame = Along.reads image accepted calls bytes output (class_by_numbers Read bytes frame)

  -- Demand 3: frames on different counters commute. Of an idle device, for any schedule: two orders of calls without a reset or a power cut,
  -- both of which leave it idle, and in which the frames taken for a counter are the same, in the same order. Then so are what is compared
  -- of the counter, its session key, and the final status of each of its frames.
  pub device_commutes :
      is_busy d ≡ false → (xs ys : List Call) → NoRestart xs l → NoRestart ys l → is_busy (all_called xs d) ≡ false →
      is_busy (all_called ys d) ≡ false → (c : ℕ) → own_frames c (frames_taken xs l) ≡ own_frames c (frames_taken ys l) →
      (c < count d.image → counter_in (all_called xs d).image c ≡ counter_in (all_called ys d).image c)
      × (get_or (all_called xs d).state.keys c no_key ≡ get_or (all_called ys d).state.keys c no_key)
      × (finals c xs l d ≡ finals c ys l d)
  device_commutes = Commutes.device_commutes image accepted calls

  -- It is a monotonic counter: from here on, a set counter stays set and its value never falls, a set root stays set and its key never
  -- changes. And if a call changes the value of a set counter, it is work, with the last step of an increment of it whose signature
  -- verified and whose data was the value; and the value goes up by 1. The image is one of bytes.
  pub monotonic : Bytes image → (more : List Call) (c : ℕ) → c < count image → Grows d.image (all_called more d).image c
  monotonic bytes = Monotonic.monotonic image accepted bytes calls

  pub counts_by_one :
      Bytes image → (call : Call) (c : ℕ) → c < count image → is_set (slot_of d.image c).counter_state ≡ true →
      ((slot_of (called call d).image c).value ≡ (slot_of d.image c).value → ⊥) → Counts l call d.image (called call d).image c
  counts_by_one bytes = Counts.counts_by_one image accepted bytes calls

  -- What is never touched: header, gap, tail, bytes 12 to 15 of a slot, bad slots, and all other slots; the image keeps its length. And a
  -- call changes a byte only if it is work, and the byte is one in use of the slot of the frame under way.
  pub never_touched : (length d.image ≡ length image) × ((i : ℕ) → Untouched image calls i → get_or d.image i 0 ≡ get_or image i 0)
  never_touched = (Touched.same_length image accepted calls, Touched.never_touched image accepted calls)

  pub touches_its_own :
      (call : Call) (i : ℕ) → (get_or (called call d).image i 0 ≡ get_or d.image i 0 → ⊥) → Touches l call d.image i
  touches_its_own = Touched.touches_its_own image accepted calls

  -- "So busy clears after at most 15 steps", which the longest job has: a work call with that quota leaves the device idle, a job that is
  -- there is older by the steps that each call reports, and has done fewer than the longest has.
  pub it_ends : (quota : ℕ) → longest ≤ quota → is_busy (called (Work quota) d) ≡ false
  it_ends = ItEnds.it_ends image accepted calls

  pub every_step_counts :
      (call : Call) → is_busy d ≡ true → is_busy (called call d) ≡ true →
      (called call d).state.job.step ≡ (after call d).steps + d.state.job.step
  every_step_counts = ItEnds.every_step_counts image accepted calls

  pub never_longer : is_busy d ≡ true → d.state.job.step < longest
  never_longer = ItEnds.never_longer image accepted calls

  -- A command frame that finds the device idle takes exactly the steps of its kind, fewer if a check fails, none if it fails on arrival;
  -- a work call does its quota of them, or those that are left.
  pub steps_by_kind :
      is_busy d ≡ false → (frame output : List ℕ) → FrameOf CommandFrame frame → (n : ℕ) →
      (is_busy (called (Work n) (called (Frame frame output) d)) ≡ ltb n (steps_of (outcome d) frame))
      × ((after (Work n) (called (Frame frame output) d)).steps ≡ min n (steps_of (outcome d) frame))
  steps_by_kind idle frame output command =
      ItEnds.steps_by_kind image accepted calls idle frame output (class_by_numbers CommandFrame frame command)

  -- "A refused call is no part of the order": and in an order from an accepted image there is none.
  pub never_refused : (call : Call) → (after call d).number ≡ 0
  never_refused = Along.never_refused image accepted calls

-- A call of power_up, frame or work, of which only the contract is used, leaves what is said of the call: number, steps, output, image and
-- state. "Each call is handed the state and the image that the one before it left": so a run of them leaves what is said of it.
pub functions_leave : (call : Call) (d : Device) (r : After) → Did call d r → after call d ≡ r
functions_leave = Functions.functions_leave

pub functions_run : (calls : List Call) (d : Device) (lefts : List After) → Ran calls d lefts → all_left calls d ≡ lefts
functions_run = Functions.functions_run

-- So the functions keep what is promised of an order of calls. Of a run that powers up on an accepted image, `e` is the device that it
-- leaves, which is the one that the promises speak of, and `told` is the ledger. Some of the promises in full, the others by that equation.
module _ (calls : List Call) (d : Device) (accepted : refusal d.image ≡ 0) (lefts : List After) (ran : Ran (PowerUp ∷ calls) d lefts) where
  abbrev e : Device
  e = last_left lefts d

  abbrev told : Ledger
  told = ledger calls (opened d.image)

  pub functions_come_to : all_called calls (device d.image power_on) ≡ e
  functions_come_to = Functions.functions_come_to calls d accepted lefts ran

  pub functions_as_if_whole : is_busy e ≡ false → Alike (outcome e) told.as_if
  functions_as_if_whole = Functions.functions_as_if_whole calls d accepted lefts ran

  pub functions_in_step : InStep told e
  functions_in_step = Functions.functions_in_step calls d accepted lefts ran

  pub functions_read :
      (bytes output : List ℕ) (r : After) → FrameOf Read bytes → Did (Frame bytes output) e r →
      r.output ≡ read_output (is_doing told.pending) told.as_if.status told.as_if.reply (length output)
  functions_read bytes output r frame = Functions.functions_read calls d accepted lefts ran bytes output r (class_by_numbers Read bytes frame)

  pub functions_end : (quota : ℕ) (r : After) → longest ≤ quota → Did (Work quota) e r → is_busy r.device ≡ false
  functions_end = Functions.functions_end calls d accepted lefts ran

  pub functions_never_refused : (call : Call) (r : After) → Did call e r → r.number ≡ 0
  functions_never_refused = Functions.functions_never_refused calls d accepted lefts ran

-- While busy a read shows 01h and nothing else.
pub busy-read : (status : ℕ) (reply : Reply) (size : ℕ) → read_output true status reply size ≡ replicate size 0x01
busy-read = Reading.busy-read

-- Of frames that run whole, in two orders in which a counter has the same frames in the same order: no counter, no key and no frame's
-- own final status changes. "A two-byte one belongs to no counter", and ends with 04h.
pub counters_commute :
    (c : ℕ) (fs gs : List (List ℕ)) (o : Outcome) → Formed o.image o.keys → own_frames c fs ≡ own_frames c gs →
    (c < count o.image → counter_in (all_whole fs o).image c ≡ counter_in (all_whole gs o).image c)
    × (get_or (all_whole fs o).keys c no_key ≡ get_or (all_whole gs o).keys c no_key) × (own_statuses c fs o ≡ own_statuses c gs o)
counters_commute c fs gs o formed order =
    (same_counter c fs gs o formed order, same_session c fs gs o formed order, same_statuses c fs gs o formed order)

pub two_bytes_fail : (o : Outcome) (frame : List ℕ) → length frame ≤ 2 → whole o frame ≡ failed_with 0x04 o
two_bytes_fail = TooShort.two_bytes_fail

-- The longest job has 15 steps, and after as many no job runs, of any device.
pub longest_job : longest ≡ 15
longest_job = Longest.longest_job

pub longest_is_enough : (d : Device) → is_running (run longest d).state ≡ false
longest_is_enough = Ending.longest_is_enough

-- Work of m + n steps is work of m and then of n, of any device that is not refused: so a cut inside a call is a cut between two.
pub work_adds :
    (m n : ℕ) (d : Device) → device_refusal d.image d.state ≡ 0 →
    (called (Work (m + n)) d ≡ called (Work n) (called (Work m) d))
    × ((after (Work (m + n)) d).steps ≡ (after (Work m) d).steps + (after (Work n) (called (Work m) d)).steps)
work_adds m n d accepted = (Adds.work_adds m n d accepted, Adds.steps_add m n d accepted)

-- Both ends. A frame that a host builds passes checks 1 to 3 of any device, 4 to 7 if its counter is in order and awaits it, and all ten if
-- the keys, and of an increment the value, are the device's.
pub built_in_form :
    (b : HostFrame) (counter : ℕ) → Sized b → (counters : ℕ) (slot : Slot) (has_key : Bool) →
    first_failing (take 3 (checks_of (frame_of counter b) counters slot has_key)) ≡ 0
built_in_form = Arrives.built_in_form

pub built_arrives :
    (b : HostFrame) (counter : ℕ) (o : Outcome) → Sized b → CounterInOrder o counter → Awaited o counter b →
    status_on_arrival o.image o.keys (frame_of counter b) ≡ 0
built_arrives = Arrives.built_arrives

pub built_passes :
    (o : Outcome) (counter : ℕ) (b : HostFrame) → Sized b → CounterInOrder o counter → Awaited o counter b → Agreed o counter b →
    all_checks o (frame_of counter b) ≡ 0
built_passes = Carried.built_passes

-- An idle device takes a frame, and work calls leave it idle again, of which there are always some.
pub work_that_ends :
    (d : Device) → AtRest d → (frame : List ℕ) → FrameOf CommandFrame frame → (output : List ℕ) →
    Ends frame d (called (Work longest) (called (Frame frame output) d))
work_that_ends d idle frame command = Comes.work_that_ends d idle frame (class_by_numbers CommandFrame frame command)

-- A built frame, then. Type 00: the root key in use is the one sent.
pub root_key_in_use :
    (counter : ℕ) (key : List ℕ) → length key ≡ 32 → Bytes key → (key ≡ replicate 32 255 → ⊥) → (d e : Device) → AtRest d →
    CounterInOrder (outcome d) counter → RootUnset (outcome d) counter → Ends (root_key_frame counter key) d e →
    Paired (outcome e) counter key (pick (is_set (slot_of d.image counter).counter_state) (slot_of d.image counter).value 0)
root_key_in_use = BothEnds.root_key_in_use

-- Type 01: the device's session key is the host's.
pub session_key_shared :
    (counter : ℕ) (root key_data : List ℕ) → length key_data ≡ 4 → (d e : Device) → AtRest d → CounterInOrder (outcome d) counter →
    CounterSet (outcome d) counter → root_key d.image counter ≡ root → Ends (session_key_frame counter root key_data) d e →
    InSession (outcome e) counter (new_session_key root key_data) (slot_of d.image counter).value
session_key_shared = BothEnds.session_key_shared

-- Type 02: the value is the next one. Type 03: a read of 49 bytes is read as good, with the device's value.
pub value-counted :
    (counter : ℕ) (key : List ℕ) (value : ℕ) (d e : Device) → AtRest d → InSession (outcome d) counter key value → value < 0xFFFFFFFF →
    Ends (increment_frame counter key (bytes_of value)) d e → InSession (outcome e) counter key (suc value)
value-counted = BothEnds.value-counted

pub request_answered :
    (counter : ℕ) (key tag : List ℕ) → length tag ≡ 12 → (value : ℕ) (d e : Device) → AtRest d → InSession (outcome d) counter key value →
    Ends (request_frame counter key tag) d e → (dummy : ℕ) (buffer : List ℕ) → length buffer ≡ 49 →
    ReadsGood key tag (read_from e dummy buffer) value
request_answered = BothEnds.request_answered

-- Chained: an unset counter is paired, a session opened, a value asked for; the reply is read as good, and the value is 0.
pub both_ends :
    (d paired opened asked : Device) (counter : ℕ) (root key_data tag : List ℕ) → AtRest d → CounterInOrder (outcome d) counter →
    RootUnset (outcome d) counter → is_set (slot_of d.image counter).counter_state ≡ false → length root ≡ 32 → Bytes root →
    (root ≡ replicate 32 255 → ⊥) → length key_data ≡ 4 → length tag ≡ 12 → Ends (root_key_frame counter root) d paired →
    Ends (session_key_frame counter root key_data) paired opened → Ends (request_frame counter (new_session_key root key_data) tag) opened asked →
    (dummy : ℕ) (buffer : List ℕ) → length buffer ≡ 49 → ReadsGood (new_session_key root key_data) tag (read_from asked dummy buffer) 0
both_ends = BothEnds.both_ends

-- A good verdict at the C entry: 0 is returned exactly when lengths, status, tag and signature are right.
pub entry_says_good :
    (key tag reply : List ℕ) (number : ℕ) → ReplyRead key tag reply number →
    (number ≡ 0 → GoodReply key tag reply) × (GoodReply key tag reply → number ≡ 0)
entry_says_good = Entry.entry_says_good

-- "Refused calls change no lent byte, return the state handed in and report 0 steps; a refused power-up returns the power-on state."
pub refused-frame :
    (d : Device) (bytes output : List ℕ) → ((after (Frame bytes output) d).number ≡ 0 → ⊥) →
    after (Frame bytes output) d ≡ record { number = device_refusal d.image d.state; steps = 0; output = output; device = d }
refused-frame = AfterCalls.refused-frame

pub refused_work :
    (d : Device) (quota : ℕ) → ((after (Work quota) d).number ≡ 0 → ⊥) →
    after (Work quota) d ≡ record { number = device_refusal d.image d.state; steps = 0; output = []; device = d }
refused_work = AfterCalls.refused_work

pub any_power_up : (d : Device) → called PowerUp d ≡ device d.image power_on
any_power_up = AfterCalls.any_power_up

-- On an image that power-up refuses every call is refused, with the same number.
pub refused_image : (d : Device) (call : Call) → (refusal d.image ≡ 0 → ⊥) → (after call d).number ≡ refusal d.image
refused_image = AfterCalls.refused_image

-- "Cases marked P are proved about the specification, as a single table under one theorem."
pub cases_marked_P : (p : Example) (d : Device) (frame output : List ℕ) → Ready d → Given p d frame → Seen p d frame (all_called (script p frame output) d)
cases_marked_P = Examples.cases_marked_P

-- And each row of that table happens: there are a ready device and a frame that are what it is given.
pub each_row_happens : (p : Example) → Happens p
each_row_happens = ExamplesHappen.each_row_happens
