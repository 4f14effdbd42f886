-- A frame reads its own counter and no other: devices that are the same to it come to the same. Assumes nothing.
use Prim.Native.Nat.{ℕ, ◌<◌}
use mathlib.Core.Path.{◌≡◌, refl, ap, ◌∙◌}
use mathlib.Core.Bool.{Bool, true, false}
use mathlib.Core.List.{List}
use borrow.Author.Tests.{ltb-true, eqb-true}
use lib.Dec.{ltb, eqb}
use lib.ListN.{get_or}
use Rattle.words.specs.Choice.{pick}
use Rattle.words.specs.Rows.{first_of}
use Rattle.image.specs.Header.{count}
use Rattle.image.specs.Slot.{slot_of, is_set, is_bad, root_key}
use Rattle.image.proofs.Laid.{SameHeader}
use Rattle.jobs.specs.Jobs.{command_of}
use Rattle.jobs.specs.declared.Kind.{Kind}
use Rattle.jobs.specs.declared.Kind.TheVariants.{RootKeyAndCounter, RootKey, SessionKey, Increment, Request, TemporaryKeyAndCounter, TemporaryKey}
use Rattle.frames.specs.Layout.{counter_of}
use Rattle.checks.specs.Checks.{arrival_status}
use Rattle.state.specs.declared.Key.{Key}
use Rattle.state.specs.Parts.{no_key}
use Rattle.decision.specs.Decision.{decision}
use Rattle.rules.specs.Whole.{Outcome, status_on_arrival, kind_in, all_checks, key_in, new_session_key, last_status}
use Rattle.rules.proofs.TenChecks.{all_checks_lem}
use Rattle.rules.proofs.Taken.{Facts, below_count, facts}
use Rattle.counters.specs.Compared.{Counter, counter_in}

-- two devices that are the same to a frame: the header, its counter as it is compared, and its session key
pub record SameTo (frame : List ℕ) (d e : Outcome) : Type 0 where
  pub header : SameHeader d.image e.image
  pub counter :
      counter_of frame < count d.image → counter_in d.image (counter_of frame) ≡ counter_in e.image (counter_of frame)
  pub session : get_or d.keys (counter_of frame) no_key ≡ get_or e.keys (counter_of frame) no_key

module _ (frame : List ℕ) (d e : Outcome) (same : SameTo frame d e) where
  abbrev c : ℕ
  c = counter_of frame

  pub key_there_same : (key_in d frame).bytes ≡ (key_in e frame).bytes
  key_there_same = ap (λ (key : Key). key.bytes) same.session

  root_same : c < count d.image → (slot_of d.image c).root_state ≡ (slot_of e.image c).root_state
  unfolding counter_in
  root_same below = ap (λ (p : Counter). p.root_state) (same.counter below)

  counter_same : c < count d.image → (slot_of d.image c).counter_state ≡ (slot_of e.image c).counter_state
  unfolding counter_in
  counter_same below = ap (λ (p : Counter). p.counter_state) (same.counter below)

  key_same : c < count d.image → root_key d.image c ≡ root_key e.image c
  unfolding counter_in
  key_same below = ap (λ (p : Counter). p.key) (same.counter below)

  pub value_same : c < count d.image → is_set (slot_of d.image c).counter_state ≡ true → (slot_of d.image c).value ≡ (slot_of e.image c).value
  unfolding counter_in pick
  value_same below set =
      let shown = ap (λ (p : Counter). p.value) (same.counter below) in
      let set' : is_set (slot_of e.image c).counter_state ≡ true = rw (← counter_same below) set in
      rw (set, set') at shown

  arrival_by : (b : Bool) → ltb c (count d.image) ≡ b → status_on_arrival d.image d.keys frame ≡ status_on_arrival e.image e.keys frame
  unfolding status_on_arrival arrival_status first_of is_bad pick
  arrival_by true l =
      let below = ltb-true c (count d.image) l in
      rw (root_same below, counter_same below, same.session, same.header.counters)
  arrival_by false l = rw (← same.header.counters, l)

  -- checks 1 to 7 come to the same
  pub arrival_same : status_on_arrival d.image d.keys frame ≡ status_on_arrival e.image e.keys frame
  arrival_same = arrival_by _ refl

  -- a frame that passes them
  module _ (passed : status_on_arrival d.image d.keys frame ≡ 0) where
    below : c < count d.image
    below = below_count d frame passed

    pub kind_same : kind_in d frame ≡ kind_in e frame
    kind_same = rw (counter_same below)

    pub root_key_same : root_key d.image c ≡ root_key e.image c
    root_key_same = key_same below

    pub new_key_same : new_session_key d frame ≡ new_session_key e frame
    new_key_same = rw root_key_same

    -- checks 8 to 10 come to the same: the value is looked at only where the counter is set
    last_of : (kind : Kind) → Facts kind (slot_of d.image c) → last_status (command_of kind) d frame ≡ last_status (command_of kind) e frame
    unfolding last_status decision first_of pick
    last_of RootKeyAndCounter known = refl
    last_of RootKey known = refl
    last_of TemporaryKeyAndCounter known = refl
    last_of TemporaryKey known = refl
    last_of SessionKey known = rw root_key_same
    last_of Increment known = rw (key_there_same, value_same below known)
    last_of Request known = rw key_there_same

    pub last_same : last_status (command_of (kind_in d frame)) d frame ≡ last_status (command_of (kind_in e frame)) e frame
    last_same = last_of (kind_in d frame) (facts d frame passed) ∙ ap (λ (kind : Kind). last_status (command_of kind) e frame) kind_same

  -- all checks come to the same
  checks_by : (b : Bool) → eqb (status_on_arrival d.image d.keys frame) 0 ≡ b → all_checks d frame ≡ all_checks e frame
  unfolding pick
  checks_by true p = rw (all_checks_lem d frame, all_checks_lem e frame, ← arrival_same, p) (last_same (eqb-true _ 0 p))
  checks_by false p = rw (all_checks_lem d frame, all_checks_lem e frame, ← arrival_same, p)

  pub checks_same : all_checks d frame ≡ all_checks e frame
  checks_same = checks_by _ refl
