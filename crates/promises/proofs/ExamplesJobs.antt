-- The examples whose job runs: P9, P11 and P12, and the device that the cuts of P10 find. Assumes nothing.
use Prim.Native.Nat.{ℕ, suc, ◌+◌, ◌≤◌, ◌<◌}
use mathlib.Core.Path.{◌≡◌, refl, ap, sym, subst, ◌∙◌}
use mathlib.Core.List.{List}
use native.Mathlib.Omega.{arith}
use borrow.Author.Tests.{eq-eqb}
use lib.ListN.{length, take, replicate}
use Rattle.words.specs.Choice.{pick}
use Rattle.words.specs.Rows.{first_of}
use Rattle.words.proofs.Table.{length-table}
use Rattle.words.specs.Table.{field}
use Rattle.hmac.proofs.FourBlocks.{fourth_hmac}
use Rattle.image.specs.Header.{count}
use Rattle.image.specs.Slot.{is_bad, root_key}
use Rattle.jobs.specs.Jobs.{root_kind, kind_of}
use Rattle.jobs.specs.declared.Command.TheVariants.{WriteRootKey}
use Rattle.jobs.specs.declared.Kind.{Kind}
use Rattle.jobs.specs.declared.Kind.TheVariants.{RootKeyAndCounter, Increment, TemporaryKey}
use Rattle.frames.specs.Layout.{counter_of}
use Rattle.state.specs.declared.Key.{Key}
use Rattle.state.specs.declared.State.{State}
use Rattle.state.specs.Parts.{posted}
use Rattle.decision.specs.Decision.{decision}
use Rattle.plan.specs.Stores.{key_stores, stores}
use Rattle.plan.specs.Storing.{all_stored}
use Rattle.steps.specs.Ending.{with_step, advanced}
use Rattle.steps.specs.Deciding.{with_kept, decision_of, decided}
use Rattle.arrival.specs.Arrival.{job_of, taken}
use Rattle.rules.specs.Whole.{frame_kept, kind_in, value_in, key_in}
use Rattle.arrival.proofs.Arrives.{arrived_starts}
use Rattle.device.specs.Work.{Device, run}
use Rattle.device.specs.Calls.{device, Frame, Work, called, outcome}
use Rattle.progress.proofs.Runs.{run_add}
use Rattle.progress.proofs.Hashing.{busy, begun, hashed_at, after_four, four_steps, before_the_check}
use Rattle.progress.proofs.Stores.{stores_left, all_made}
use Rattle.words.proofs.Fields.{field-within}
use Rattle.orders.specs.Orders.{all_called}
use Rattle.promises.specs.Examples.{P9-before-the-end, P9-at-the-end, P11-before-the-end, P11-at-the-end, P12-before-the-end, P12-at-the-end, Ready, Idle, InOrder, Good, Pairs, AllFFAt7, Full, Seen, IdleWith, StillBusy}
use Rattle.promises.proofs.ExamplesCalls.{Holds, work_called}
use Rattle.promises.proofs.ExamplesArrival.{shaped_long, from_row, past_counter}

-- the first stores of a root key job that pairs, some of them left
pub some_stored :
    (image : List ℕ) (keys : List Key) (counter : ℕ) (frame root chain made inner : List ℕ) (kept j : ℕ) →
    j < length (stores RootKeyAndCounter frame kept) →
    run j (device image (advanced (busy RootKeyAndCounter keys counter frame root 3 chain made inner kept))) ≡
    device (all_stored (take j (stores RootKeyAndCounter frame kept)) image counter)
    (busy RootKeyAndCounter keys counter frame root (3 + suc j) chain made inner kept)
unfolding with_step
some_stored image keys counter frame root chain made inner kept j left =
    stores_left (busy RootKeyAndCounter keys counter frame root 3 chain made inner kept) 3 refl refl image j left

module _ (d : Device) (ready : Ready d) (frame output : List ℕ) where
  abbrev c : ℕ
  c = counter_of frame

  abbrev sent : List ℕ
  sent = frame_kept frame

  abbrev root : List ℕ
  root = root_key d.image c

  abbrev start : Kind → State
  start kind = begun d.image d.state.keys c sent root d.state.chain (replicate 32 0) (replicate 8 0) 0 kind

  -- with the digest to be checked, and checked
  abbrev hashed : Kind → State
  hashed kind = hashed_at d.image d.state.keys c sent root d.state.chain (replicate 32 0) (replicate 8 0) 0 kind

  abbrev checked : Kind → State
  checked kind = after_four d.image d.state.keys c sent root d.state.chain (replicate 32 0) (replicate 8 0) 0 kind

  -- a frame that passes on arrival starts a job of its kind
  begins :
      Idle d → (type : ℕ) → type ≤ 3 → InOrder type frame → from_row d ready frame output 5 type ≡ 0 →
      (kind : Kind) → kind_in (outcome d) frame ≡ kind → (n : ℕ) →
      called (Work n) (called (Frame frame output) d) ≡ run n (device d.image (start kind))
  unfolding taken job_of
  begins idle type known in_order good kind is n =
      let shaped = in_order.shaped in
      let passed = eq-eqb _ 0 (past_counter d ready frame output type known in_order ∙ good) in
      let starts = arrived_starts d.image d.state frame passed in
      let below : c < count d.image = rw ready.four in_order.named in
      work_called d ready output idle frame shaped.first (shaped_long type frame known shaped) starts below n
      ∙ ap (λ (k : Kind). run n (device d.image (start k))) is

  -- its steps after the check
  checks :
      (kind : Kind) (after : State) → checked kind ≡ after → (m : ℕ) → run (m + 4) (device d.image (start kind)) ≡ run m (device d.image after)
  checks kind after decides m =
      run_add m 4 (device d.image (start kind))
      ∙ ap (run m) (four_steps _ _ _ _ _ _ _ _ _ kind ∙ ap (device d.image) decides)

  -- a good root key frame passes its check
  root_good : Good WriteRootKey d frame → decision_of (hashed TemporaryKey) (value_in (outcome d) frame) ≡ 0
  unfolding decision first_of pick
  root_good good =
      let signed = fourth_hmac (field 4 32 sent) (field 0 4 sent) d.state.chain (replicate 8 0) (length-table _ 32) (field-within 0 4 55 sent (omega arith)) in
      rw (signed, good)

  -- a good increment at FFFFFFFFh does not
  increment_full : Full d frame → decision_of (hashed Increment) (value_in (outcome d) frame) ≡ 0x20
  unfolding decision first_of pick
  increment_full g =
      let key = (key_in (outcome d) frame).bytes in
      let signed = fourth_hmac key (field 0 8 sent) d.state.chain (replicate 8 0) (ready.long-keys c) (field-within 0 8 55 sent (omega arith)) in
      rw (signed, g.good, g.told, g.full)

  -- a frame that pairs passes, and goes on to its stores
  pub pairing :
      Pairs d frame → (m : ℕ) →
      called (Work (m + 4)) (called (Frame frame output) d) ≡ run m (device d.image (advanced (hashed RootKeyAndCounter)))
  unfolding kind_of root_kind first_of is_bad decided with_kept pick
  pairing p m =
      begins p.idle 0 (omega arith) p.in_order (rw (p.root-unset, p.counter-unset)) RootKeyAndCounter
      (rw (p.in_order.shaped.typed, p.lasting, p.counter-unset)) (m + 4)
      ∙ checks RootKeyAndCounter _ (rw (root_good p.good)) m

  pub busy_before_the_end : Holds P9-before-the-end d frame output
  unfolding all_called key_stores
  busy_before_the_end p = subst StillBusy (sym (pairing p 10 ∙ some_stored _ _ _ _ _ _ _ _ _ 10 (omega arith))) (refl, refl)

  pub done_at_the_end : Holds P9-at-the-end d frame output
  unfolding all_called key_stores with_step
  done_at_the_end p = subst (IdleWith 0x80) (sym (pairing p 11 ∙ all_made (hashed RootKeyAndCounter) 3 refl refl d.image 11 (omega arith))) (refl, refl)

  -- a temporary key for a set counter
  temporary_begins :
      AllFFAt7 d frame → (n : ℕ) → called (Work n) (called (Frame frame output) d) ≡ run n (device d.image (start TemporaryKey))
  unfolding kind_of root_kind first_of is_bad pick
  temporary_begins g =
      begins g.idle 0 (omega arith) g.in_order (rw (g.root-unset, g.counter_set)) TemporaryKey
      (rw (g.in_order.shaped.typed, g.temporary, g.counter_set))

  pub temporary_key_before_the_end : Holds P11-before-the-end d frame output
  unfolding all_called
  temporary_key_before_the_end g = subst StillBusy (sym (temporary_begins g 3)) (before_the_check _ _ _ _ _ _ _ _ _ TemporaryKey)

  pub temporary_key : Holds P11-at-the-end d frame output
  unfolding all_called run first_of decided with_kept advanced pick
  temporary_key g =
      let after = temporary_begins g 4 ∙ checks TemporaryKey (posted (hashed TemporaryKey) 0x80) (rw (root_good g.good)) 0 in
      subst (Seen P11-at-the-end d frame) (sym after) ((refl, refl), g.seven, refl)

  -- an increment
  increment_begins : Full d frame → (n : ℕ) → called (Work n) (called (Frame frame output) d) ≡ run n (device d.image (start Increment))
  unfolding kind_of first_of pick
  increment_begins g =
      begins g.idle 2 (omega arith) g.in_order (rw (g.sane, g.counter_set, g.has_key)) Increment (rw g.in_order.shaped.typed)

  pub full_counter_before_the_end : Holds P12-before-the-end d frame output
  unfolding all_called
  full_counter_before_the_end g = subst StillBusy (sym (increment_begins g 3)) (before_the_check _ _ _ _ _ _ _ _ _ Increment)

  pub full_counter : Holds P12-at-the-end d frame output
  unfolding all_called run first_of decided pick
  full_counter g =
      let after = increment_begins g 4 ∙ checks Increment (posted (hashed Increment) 0x20) (rw (increment_full g)) 0 in
      subst (IdleWith 0x20) (sym after) (refl, refl)
