-- Demand 3, second half, of the device: from one idle moment, two orders of calls in which a counter's own frames are taken in the same
-- order, whatever else they hold. Assumes nothing.
use Prim.Native.Nat.{ℕ, ◌<◌}
use mathlib.Core.Path.{◌≡◌, refl, ap, ap₂, sym, ◌∙◌}
use mathlib.Core.Bool.{false}
use mathlib.Core.List.{List, [], ◌∷◌, ◌++◌, append-nil}
use lib.ListN.{get_or}
use Rattle.words.proofs.Choice.{never}
use Rattle.image.specs.Header.{count}
use Rattle.image.specs.Refusal.{refusal}
use Rattle.state.specs.declared.Key.{Key}
use Rattle.state.specs.Parts.{no_key, power_on}
use Rattle.device.specs.Work.{Device}
use Rattle.device.specs.Calls.{device, Call, called, is_busy}
use Rattle.rules.specs.Whole.{Outcome}
use Rattle.counters.specs.Compared.{counter_in}
use Rattle.rules.specs.Formed.{Formed}
use Rattle.counters.specs.Reordering.{own_frames, all_whole, own_statuses}
use Rattle.counters.proofs.InARow.{statuses_append}
use Rattle.counters.proofs.CountersApart.{header_all, same_counter, same_session, same_statuses}
use Rattle.orders.specs.Orders.{all_called}
use Rattle.orders.specs.Ledger.{Pending, None, Doing, Ledger, is_doing, entered, ledger, opened}
use Rattle.orders.specs.Schedules.{NoRestart, frames_under_way, frames_taken, frame_ended, finals}
use Rattle.orders.proofs.Sound.{Resting, Sound}
use Rattle.orders.proofs.Calls.{formed_as_if}
use Rattle.orders.proofs.Ledger.{busy_as_pending, next, all_sound, at_rest, sound_now}
use Rattle.orders.proofs.Schedules.{goes, frames_ended, all_end, ended-whole}

-- the final statuses are those of the frames that have run whole
finals-whole :
    (c : ℕ) (calls : List Call) (l : Ledger) (d : Device) → Sound l d → NoRestart calls l →
    finals c calls l d ≡ own_statuses c (frames_ended calls l) l.as_if
unfolding NoRestart finals frames_ended own_statuses
finals-whole c [] l d sound on = refl
finals-whole c (call ∷ more) l d sound (one, on) =
    let g = goes call l one in
    let after = entered call l in
    let e = called call d in
    let later = next call l d sound in
    let idle = busy_as_pending after.pending after.as_if e later.state in
    ap₂ (λ (s t : List ℕ). s ++ t) (g.shown c e.state.status (λ none. (at_rest after e later (idle ∙ none)).alike.status))
    (finals-whole c more after e later on ∙ ap (own_statuses c (frames_ended more after)) g.whole_ones)
    ∙ sym (statuses_append c (frame_ended call l) (frames_ended more after) l.as_if)

-- no frame is under way in an idle device
none-under_way : (p : Pending) → is_doing p ≡ false → frames_under_way p ≡ []
none-under_way None e = refl
none-under_way (Doing frame done) e = absurd (never (sym e))

quiet_pending : (l : Ledger) (d : Device) → Sound l d → is_busy d ≡ false → frames_under_way l.pending ≡ []
quiet_pending l d sound quiet =
    none-under_way l.pending (sym (busy_as_pending l.pending l.as_if d sound.state) ∙ quiet)

-- an order without a restart, from an idle moment to an idle moment: the frames that it takes have run whole
module _
    (l : Ledger) (d : Device) (sound : Sound l d) (quiet : is_busy d ≡ false) (calls : List Call) (on : NoRestart calls l)
    (end : is_busy (all_called calls d) ≡ false) (c : ℕ) where
  abbrev frames : List (List ℕ)
  frames = frames_taken calls l

  all-ended : frames_ended calls l ≡ frames
  all-ended =
      let later = quiet_pending (ledger calls l) (all_called calls d) (all_sound calls l d sound) end in
      sym (append-nil (frames_ended calls l))
      ∙ ap (λ (fs : List (List ℕ)). frames_ended calls l ++ fs) (sym later)
      ∙ sym (all_end calls l on)
      ∙ ap (λ (fs : List (List ℕ)). fs ++ frames) (quiet_pending l d sound quiet)

  as_if : (ledger calls l).as_if ≡ all_whole frames l.as_if
  as_if = ended-whole calls l on ∙ ap (λ (fs : List (List ℕ)). all_whole fs l.as_if) all-ended

  rests : Resting (ledger calls l).as_if (all_called calls d)
  rests = at_rest (ledger calls l) (all_called calls d) (all_sound calls l d sound) end

  session_as : get_or (all_called calls d).state.keys c no_key ≡ get_or (all_whole frames l.as_if).keys c no_key
  session_as = ap (λ (keys : List Key). get_or keys c no_key) (rests.alike.keys ∙ ap (λ (o : Outcome). o.keys) as_if)

  counter_as :
      Formed l.as_if.image l.as_if.keys → c < count l.as_if.image →
      counter_in (all_called calls d).image c ≡ counter_in (all_whole frames l.as_if).image c
  counter_as formed below =
      let same = ap (λ (o : Outcome). count o.image) as_if ∙ (header_all frames l.as_if formed).counters in
      rests.alike.counters c (rw (rests.header.counters, same) below) ∙ ap (λ (o : Outcome). counter_in o.image c) as_if

  finals_as : finals c calls l d ≡ own_statuses c frames l.as_if
  finals_as = finals-whole c calls l d sound on ∙ ap (λ (fs : List (List ℕ)). own_statuses c fs l.as_if) all-ended

-- Power up on an accepted image, and make any calls that leave the device idle. From there, two orders without a restart, of any frames
-- and quotas, both of which leave the device idle, and in which the frames taken for a counter are the same, in the same order: its
-- words, its session key, and the final status of each of its frames come to the same.
module _
    (image : List ℕ) (accepted : refusal image ≡ 0) (calls : List Call) (quiet : is_busy (all_called calls (device image power_on)) ≡ false) where
  abbrev l : Ledger
  l = ledger calls (opened image)

  abbrev d : Device
  d = all_called calls (device image power_on)

  pub device_commutes :
      (xs ys : List Call) → NoRestart xs l → NoRestart ys l → is_busy (all_called xs d) ≡ false → is_busy (all_called ys d) ≡ false →
      (c : ℕ) → own_frames c (frames_taken xs l) ≡ own_frames c (frames_taken ys l) →
      (c < count d.image → counter_in (all_called xs d).image c ≡ counter_in (all_called ys d).image c)
      × (get_or (all_called xs d).state.keys c no_key ≡ get_or (all_called ys d).state.keys c no_key)
      × (finals c xs l d ≡ finals c ys l d)
  device_commutes xs ys on-x on-y end-x end-y c order =
      let sound = sound_now image accepted calls in
      let r = at_rest l d sound quiet in
      let o = l.as_if in
      let fs = frames_taken xs l in
      let gs = frames_taken ys l in
      let formed = formed_as_if d o r.formed r.header r.alike in (
        λ below.
            let inside : c < count o.image = rw (← r.header.counters) below in
            counter_as l d sound quiet xs on-x end-x c formed inside ∙ same_counter c fs gs o formed order inside
            ∙ sym (counter_as l d sound quiet ys on-y end-y c formed inside),
        session_as l d sound quiet xs on-x end-x c ∙ same_session c fs gs o formed order
            ∙ sym (session_as l d sound quiet ys on-y end-y c),
        finals_as l d sound quiet xs on-x end-x c ∙ same_statuses c fs gs o formed order
            ∙ sym (finals_as l d sound quiet ys on-y end-y c),
      )
