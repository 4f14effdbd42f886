-- Each row of the examples happens: a device and a frame that meet its conditions. Good frames are those that the host builds.
-- Assumes nothing.
use Prim.Native.Nat.{ℕ, zero, suc, ◌-◌}
use mathlib.Core.Path.{◌≡◌, refl, ap}
use mathlib.Core.Bool.{true, false}
use mathlib.Core.List.{List, [], ◌∷◌, ◌++◌}
use native.Mathlib.Omega.{arith}
use lib.ListN.{length, get_or, replicate}
use Rattle.words.specs.Choice.{pick}
use Rattle.words.specs.Rows.{first_of, any_of}
use Rattle.words.specs.Table.{table, spread}
use Rattle.words.specs.Words.{bytes_of_all}
use Rattle.hmac.proofs.Lengths.{length-HMAC}
use Rattle.compare.specs.Compare.{same_bytes}
use Rattle.image.specs.Header.{slot_at}
use Rattle.image.specs.Refusal.{is_size}
use Rattle.image.specs.Slot.{slot_of, unset, is_bad}
use Rattle.jobs.specs.Jobs.{kind_of}
use Rattle.frames.specs.Classes.{named_class, class_of}
use Rattle.frames.specs.Layout.{layout_of}
use Rattle.checks.specs.Checks.{arrival_status}
use Rattle.state.specs.declared.Key.{Key}
use Rattle.state.specs.Parts.{no_key, no_reply, no_job, power_on}
use Rattle.state.specs.Refusal.{is_running, device_refusal}
use Rattle.state.proofs.Inside.{no_key_lem}
use Rattle.arrival.specs.Arrival.{job_of, taken, arrived}
use Rattle.rules.specs.Whole.{is_temporary, status_on_arrival}
use Rattle.device.specs.Work.{Device}
use Rattle.device.specs.Calls.{device, after_frame, Frame, called, outcome}
use Rattle.host.specs.Frames.{head, signed_by, root_key_frame, increment_frame}
use Rattle.exchange.proofs.Passes.{root_key_passes, increment_passes}
use Rattle.promises.specs.Examples.{Example, P1, P2, P3, P4, P5, P6, P7, P8, P9-before-the-end, P9-at-the-end, P10-cut-before-the-end, P10-cut-before-the-counter, P11-before-the-end, P11-at-the-end, P12-before-the-end, P12-at-the-end, P13, P14-while-idle, P14-while-busy, Ready, Shaped, InOrder, Pairs, AllFFAt7, Full, Given, Happens}

-- an image of 4 counters: the header, the first three words of the slot of counter 0, and FFh for all that follows
abbrev image_with : ℕ → ℕ → ℕ → List ℕ
image_with root counter value = bytes_of_all (4 ∷ 16 ∷ 48 ∷ 208 ∷ root ∷ counter ∷ value ∷ []) ++ replicate 180 0xFF

-- a device with it, after power-up
abbrev powered_with : ℕ → ℕ → ℕ → Device
powered_with root counter value = device (image_with root counter value) power_on

powered_ready : (root counter value : ℕ) → Ready (powered_with root counter value)
unfolding device_refusal first_of any_of is_size is_running spread pick
powered_ready root counter value = record { not-refused = refl; four = refl; long-keys = λ k. ap (λ (key : Key). length key.bytes) (no_key_lem 4 k) }

-- with all slots FFh
blank_ready : Ready (powered_with unset unset unset)
blank_ready = powered_ready unset unset unset

-- and one with a session key for counter 0
abbrev key : List ℕ
key = replicate 32 1

abbrev session_with : ℕ → ℕ → ℕ → Device
session_with root counter value =
    device (image_with root counter value)
    (record {
      status = 0x80;
      keys = record { there = true; bytes = key } ∷ replicate 3 no_key;
      reply = no_reply;
      enabled = false;
      chain = replicate 8 0;
      job = no_job;
    })

session_ready : (root counter value : ℕ) → Ready (session_with root counter value)
unfolding device_refusal first_of any_of is_size is_running spread pick
session_ready root counter value = record { not-refused = refl; four = refl; long-keys = long }
  where
    long : (k : ℕ) → length (get_or (session_with root counter value).state.keys k no_key).bytes ≡ 32
    long zero = refl
    long (suc k) = ap (λ (key : Key). length key.bytes) (no_key_lem 3 k)

-- a frame by its head and what stands behind it
shaped : (type counter : ℕ) (rest : List ℕ) → length (head type counter ++ rest) ≡ (layout_of type).size → Shaped type (head type counter ++ rest)
shaped type counter rest size = record { first = refl; typed = refl; sized = size; reserved = refl }

in_order : (type : ℕ) (rest : List ℕ) → length (head type 0 ++ rest) ≡ (layout_of type).size → InOrder type (head type 0 ++ rest)
in_order type rest size = record { shaped = shaped type 0 rest size; named = omega arith }

-- with zeros for data and signature, which no check looks at on arrival
abbrev zeros : ℕ → List ℕ
zeros type = replicate ((layout_of type).size - 4) 0

abbrev unsigned : ℕ → ℕ → List ℕ
unsigned type counter = head type counter ++ zeros type

-- a row, given a device and a frame
happens : {p : Example} {d : Device} → Ready d → (frame : List ℕ) → Given p d frame → Happens p
happens ready frame given = record { device = _; frame = frame; ready = ready; given = given }

pairs : Pairs (powered_with unset unset unset) (root_key_frame 0 key)
unfolding root_key_frame is_temporary same_bytes slot_of slot_at spread table pick
pairs =
    record {
      idle = refl;
      in_order = in_order 0 _ refl;
      root-unset = refl;
      counter-unset = refl;
      lasting = refl;
      good = root_key_passes (outcome (powered_with unset unset unset)) 0 key refl;
    }

all_ff_at_7 : AllFFAt7 (powered_with unset 0 7) (root_key_frame 0 (replicate 32 0xFF))
unfolding root_key_frame is_temporary same_bytes slot_of slot_at spread table pick
all_ff_at_7 =
    record {
      idle = refl;
      in_order = in_order 0 _ refl;
      root-unset = refl;
      counter_set = refl;
      seven = refl;
      temporary = refl;
      good = root_key_passes (outcome (powered_with unset 0 7)) 0 (replicate 32 0xFF) refl;
    }

full : Full (session_with 0 0 0xFFFFFFFF) (increment_frame 0 key (replicate 4 0xFF))
unfolding increment_frame signed_by slot_of slot_at is_bad spread table pick
full =
    record {
      idle = refl;
      in_order = in_order 2 _ (omega (arith, length-HMAC key (head 2 0 ++ replicate 4 0xFF)));
      sane = refl;
      counter_set = refl;
      has_key = refl;
      told = refl;
      full = refl;
      good = increment_passes (outcome (session_with 0 0 0xFFFFFFFF)) 0 key (replicate 4 0xFF) refl refl;
    }

-- a device that has just taken a session key frame
busy_happens : Happens P14-while-busy
unfolding device_refusal first_of any_of is_size is_running slot_of slot_at is_bad spread pick
    after_frame class_of named_class arrived taken job_of status_on_arrival arrival_status kind_of
busy_happens =
    record {
      device = called (Frame (unsigned 1 0) []) (powered_with 0 0 0);
      frame = [];
      ready = record { not-refused = refl; four = refl; long-keys = (powered_ready 0 0 0).long-keys };
      given = refl;
    }

-- Each row of the table is given something that there is.
pub each_row_happens : (p : Example) → Happens p
unfolding slot_of slot_at is_bad spread pick
each_row_happens P1 = happens blank_ready (0x9B ∷ []) refl
each_row_happens P2 = happens blank_ready (0x9B ∷ 0x00 ∷ []) (refl, refl)
each_row_happens P3 = happens blank_ready (0x9B ∷ 0x04 ∷ []) (refl, refl)
each_row_happens P4 = happens blank_ready (unsigned 0 4) (refl, shaped 0 4 (zeros 0) refl, refl)
each_row_happens P5 = happens blank_ready (unsigned 1 4) (refl, shaped 1 4 (zeros 1) refl, refl)
each_row_happens P6 = happens blank_ready (unsigned 1 0) (refl, in_order 1 (zeros 1) refl, refl, refl)
each_row_happens P7 = happens (powered_ready unset 0 0) (unsigned 3 0) (refl, in_order 3 (zeros 3) refl, refl, refl, refl)
each_row_happens P8 = happens (powered_ready 0 0 0) (unsigned 0 0) (refl, in_order 0 (zeros 0) refl, refl, refl)
each_row_happens P9-before-the-end = happens blank_ready _ pairs
each_row_happens P9-at-the-end = happens blank_ready _ pairs
each_row_happens P10-cut-before-the-end = happens blank_ready _ pairs
each_row_happens P10-cut-before-the-counter = happens blank_ready _ pairs
each_row_happens P11-before-the-end = happens (powered_ready unset 0 7) _ all_ff_at_7
each_row_happens P11-at-the-end = happens (powered_ready unset 0 7) _ all_ff_at_7
each_row_happens P12-before-the-end = happens (session_ready 0 0 0xFFFFFFFF) _ full
each_row_happens P12-at-the-end = happens (session_ready 0 0 0xFFFFFFFF) _ full
each_row_happens P13 = happens (powered_ready 5 0 0) (unsigned 3 0) (refl, in_order 3 (zeros 3) refl, refl)
each_row_happens P14-while-idle = happens (session_ready 0 0 0) [] refl
each_row_happens P14-while-busy = busy_happens
