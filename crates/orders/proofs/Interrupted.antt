-- A job that is cut off: what it leaves in the image is as if its frame had dropped out, or had set its counter to 0 only.
-- Assumes nothing.
use Prim.Native.Nat.{ℕ, ◌+◌, ◌-◌, ◌<◌}
use mathlib.Core.Path.{◌≡◌, refl, ap, sym, subst, ◌∙◌}
use mathlib.Core.Bool.{Bool, true, false}
use mathlib.Core.List.{List}
use native.Mathlib.Omega.{arith}
use borrow.Author.Tests.{eqb-true, eqb-false, ltb-true, ltb-false, lt-ltb, le-ltb}
use lib.Dec.{eqb, ltb}
use lib.ListN.{get_or, take}
use Rattle.words.specs.Choice.{pick}
use Rattle.words.specs.Table.{table}
use Rattle.image.specs.Header.{count, slot_at}
use Rattle.image.specs.Slot.{slot_of}
use Rattle.image.proofs.Laid.{SameHeader, then_header, back_header, same_laid}
use Rattle.image.specs.Laid.{Laid}
use Rattle.image.proofs.Slots.{slot_bytes, root_in, counter_in_lem}
use Rattle.jobs.specs.Jobs.{command_of, hash_steps}
use Rattle.jobs.specs.declared.Kind.{Kind}
use Rattle.jobs.specs.declared.Kind.TheVariants.{RootKeyAndCounter, RootKey, SessionKey, Increment, Request, TemporaryKeyAndCounter, TemporaryKey}
use Rattle.frames.specs.Layout.{counter_of}
use Rattle.plan.specs.declared.Store.{Store}
use Rattle.plan.specs.Stores.{stores}
use Rattle.plan.proofs.InSlot.{put_all, InSlot, made, some_made}
use Rattle.plan.proofs.Plans.{plan-length}
use Rattle.device.specs.Work.{Device}
use Rattle.device.specs.Calls.{outcome}
use Rattle.rules.specs.Whole.{frame_kept, Outcome, kind_in}
use Rattle.rules.proofs.Taken.{Facts, below_count, facts}
use Rattle.counters.specs.Compared.{Counter, counter_in}
use Rattle.orders.specs.Ledger.{Doing, has_set, set_to0, interrupted}
use Rattle.counters.proofs.Counters.{read_counter, counter_read}
use Rattle.counters.proofs.Own.{kind_same}
use Rattle.counters.proofs.WholeOwn.{own-after, other_after}
use Rattle.counters.proofs.Alikes.{same_to}
use Rattle.counters.proofs.Cuts.{zeroed, cut_at, Known, cut_off}
use Rattle.orders.proofs.Sound.{Working}

-- what an interrupted frame counts as, compared with the image that it leaves
pub record Left (image : List ℕ) (o : Outcome) : Type 0 where
  pub header : SameHeader image o.image
  pub counters : (k : ℕ) → k < count image → counter_in image k ≡ counter_in o.image k

-- the tenth store of a root key frame is its fourteenth step
fourteenth_by : (done : ℕ) (b : Bool) → ltb 13 done ≡ b → ltb 9 (done - 4) ≡ b
fourteenth_by done true e = lt-ltb 9 (done - 4) (omega (arith, ltb-true 13 done e))
fourteenth_by done false e = le-ltb 9 (done - 4) (omega (arith, ltb-false 13 done e))

-- the frame's own steps have set its counter, as the ledger says
set_as_told : (kind : Kind) (done : ℕ) (p : Counter) → cut_at kind (done - hash_steps (command_of kind)) p ≡ pick (has_set kind done) (zeroed p) p
unfolding pick
set_as_told RootKeyAndCounter done p = ap (λ (b : Bool). pick b (zeroed p) p) (fourteenth_by done _ refl)
set_as_told RootKey done p = refl
set_as_told TemporaryKeyAndCounter done p = refl
set_as_told TemporaryKey done p = refl
set_as_told SessionKey done p = refl
set_as_told Increment done p = refl
set_as_told Request done p = refl

module _ (frame : List ℕ) (done : ℕ) (o : Outcome) (d : Device) (w : Working frame done o d) where
  abbrev c : ℕ
  c = counter_of frame

  abbrev found : List ℕ
  found = w.found.image

  abbrev kind : Kind
  kind = kind_in (outcome w.found) frame

  abbrev plan : List Store
  plan = stores kind (frame_kept frame) d.state.job.kept

  -- the stores made
  abbrev sofar : ℕ
  sofar = done - hash_steps (command_of kind)

  below : c < count found
  below = below_count (outcome w.found) frame w.passed

  some : InSlot (take sofar plan) found c
  some = some_made kind (frame_kept frame) d.state.job.kept found c w.formed.laid below sofar

  pub header_found : SameHeader d.image found
  header_found = subst (λ (i : List ℕ). SameHeader i found) (sym w.at.stored_so_far) some.header

  pub below_now : c < count d.image
  below_now = rw header_found.counters below

  laid : Laid d.image
  laid = same_laid d.image found header_found w.formed.laid

  -- the other counters are as the frame found them
  pub others_found : (k : ℕ) → k < count found → (k ≡ c → ⊥) → counter_in d.image k ≡ counter_in found k
  others_found k inside apart =
      counter_read d.image k laid (rw header_found.counters inside)
      ∙ ap read_counter (ap (λ (i : List ℕ). slot_bytes i k) w.at.stored_so_far ∙ some.other k apart)
      ∙ sym (counter_read found k w.formed.laid inside)

  -- the bytes of the frame's own slot, as it was found
  abbrev byte : ℕ → ℕ
  byte i = get_or found (slot_at found c + i) 0

  known_of : (kind : Kind) → Facts kind (slot_of found c) → Known byte (frame_kept frame) d.state.job.kept kind
  unfolding table
  known_of RootKeyAndCounter (r, s) =
      (rw (root_in found c w.formed.laid below) at r, rw (counter_in_lem found c w.formed.laid below) at s)
  known_of RootKey (r, s) = rw (root_in found c w.formed.laid below) at r
  known_of TemporaryKeyAndCounter (r, s) = rw (counter_in_lem found c w.formed.laid below) at s
  known_of TemporaryKey _ = tt
  known_of SessionKey _ = tt
  known_of Increment _ = tt
  known_of Request _ = tt

  cut_short : read_counter (put_all (take sofar plan) (slot_bytes found c)) ≡ cut_at kind sofar (read_counter (slot_bytes found c))
  cut_short =
      cut_off byte (frame_kept frame) d.state.job.kept kind (known_of kind (facts (outcome w.found) frame w.passed)) sofar
      (λ more. omega (arith, more, w.left, plan-length kind (frame_kept frame) d.state.job.kept))

  -- the frame's own counter, by the stores made
  pub own-cut : counter_in d.image c ≡ cut_at kind sofar (counter_in found c)
  own-cut =
      counter_read d.image c laid below_now
      ∙ ap read_counter (ap (λ (i : List ℕ). slot_bytes i c) w.at.stored_so_far ∙ some.own) ∙ cut_short
      ∙ ap (cut_at kind sofar) (sym (counter_read found c w.formed.laid below))

  pub header_as_if : SameHeader d.image o.image
  header_as_if = then_header d.image found o.image header_found w.header

  pub kind_as_if : kind ≡ kind_in o frame
  kind_as_if = kind_same frame (outcome w.found) o (same_to frame (outcome w.found) o w.header w.alike) w.passed

  others : (k : ℕ) → k < count found → (k ≡ c → ⊥) → counter_in d.image k ≡ counter_in o.image k
  others k inside apart = others_found k inside apart ∙ w.alike.counters k inside

  -- as the ledger says
  own : counter_in d.image c ≡ pick (has_set (kind_in o frame) done) (zeroed (counter_in o.image c)) (counter_in o.image c)
  own =
      own-cut ∙ ap (cut_at kind sofar) (w.alike.counters c below) ∙ set_as_told kind done (counter_in o.image c)
      ∙ ap (λ (k : Kind). pick (has_set k done) (zeroed (counter_in o.image c)) (counter_in o.image c)) kind_as_if

  -- for every counter, by whether it is the frame's own
  all_counters :
      (i : List ℕ) → counter_in d.image c ≡ counter_in i c →
      ((k : ℕ) → k < count found → (k ≡ c → ⊥) → counter_in d.image k ≡ counter_in i k) →
      (k : ℕ) → k < count d.image → (b : Bool) → eqb k c ≡ b → counter_in d.image k ≡ counter_in i k
  all_counters i same apart k inside true e = rw (eqb-true k c e) same
  all_counters i same apart k inside false e = apart k (rw (← header_found.counters) inside) (eqb-false k c e)

  -- it drops out
  dropped : counter_in d.image c ≡ counter_in o.image c → Left d.image o
  dropped same = record { header = header_as_if; counters = λ k inside. all_counters o.image same others k inside _ refl }

  -- or its counter is set to 0 only
  set_only : counter_in d.image c ≡ zeroed (counter_in o.image c) → Left d.image (set_to0 o c)
  unfolding set_to0
  set_only same =
      let i = o.image in
      let laid-i : Laid i = same_laid i found (back_header found i w.header) w.formed.laid in
      let below-i : c < count i = rw (← w.header.counters) below in
      let kept = frame_kept frame in
      record {
        header = then_header d.image i _ header_as_if (back_header _ i (made TemporaryKeyAndCounter kept 0 i c laid-i below-i).header);
        counters =
            λ k inside.
            all_counters _ (same ∙ sym (own-after TemporaryKeyAndCounter kept 0 i c laid-i below-i))
            (λ k inside apart.
            others k inside apart
            ∙ sym (other_after TemporaryKeyAndCounter kept 0 i c laid-i below-i k (rw (← w.header.counters) inside) apart))
            k inside _ refl;
      }

  left_by :
      (b : Bool) → counter_in d.image c ≡ pick b (zeroed (counter_in o.image c)) (counter_in o.image c) →
      Left d.image (pick b (set_to0 o c) o)
  unfolding pick
  left_by true same = set_only same
  left_by false same = dropped same

  pub left_behind : Left d.image (interrupted (Doing frame done) o)
  left_behind = left_by (has_set (kind_in o frame) done) own
