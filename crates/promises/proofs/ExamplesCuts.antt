-- The cuts of P10: what the stores made so far leave of the counter's slot. Assumes nothing.
use Prim.Native.Nat.{ℕ, ◌<◌}
use mathlib.Core.Path.{◌≡◌, ap, sym, ◌∙◌}
use mathlib.Core.List.{List}
use native.Mathlib.Omega.{arith}
use lib.ListN.{take}
use Rattle.words.specs.Choice.{pick}
use Rattle.words.specs.Table.{table}
use Rattle.words.specs.Words.{word_at, put_word}
use Rattle.image.specs.Header.{count}
use Rattle.image.specs.Slot.{slot_of, unset}
use Rattle.image.proofs.Laid.{same_laid, accepted_laid}
use Rattle.image.specs.Laid.{Laid}
use Rattle.image.proofs.Slots.{slot_bytes, root_in, counter_in_lem}
use Rattle.jobs.specs.declared.Kind.TheVariants.{RootKeyAndCounter}
use Rattle.frames.specs.Layout.{counter_of}
use Rattle.state.proofs.Refused.{image_accepted}
use Rattle.plan.specs.declared.Store.{Store}
use Rattle.plan.specs.Stores.{key_stores, stores}
use Rattle.plan.specs.Storing.{all_stored}
use Rattle.plan.proofs.InSlot.{put_all, some_made}
use Rattle.rules.specs.Whole.{frame_kept}
use Rattle.device.specs.Work.{Device}
use Rattle.counters.specs.Compared.{Counter, counter_in}
use Rattle.orders.specs.Orders.{all_called}
use Rattle.promises.specs.Examples.{P10-cut-before-the-end, P10-cut-before-the-counter, Ready, Pairs, Seen, script}
use Rattle.counters.proofs.Counters.{read_counter, counter_read}
use Rattle.promises.proofs.ExamplesJobs.{pairing, some_stored}

module _ (d : Device) (ready : Ready d) (frame output : List ℕ) (p : Pairs d frame) where
  abbrev c : ℕ
  c = counter_of frame

  abbrev plan : List Store
  plan = stores RootKeyAndCounter (frame_kept frame) 0

  laid : Laid d.image
  laid = accepted_laid d.image (image_accepted d.image d.state ready.not-refused)

  below : c < count d.image
  below = rw ready.four p.in_order.named

  found-unset : word_at (slot_bytes d.image c) 0 ≡ unset
  found-unset = sym (root_in d.image c laid below) ∙ p.root-unset

  -- the image after some stores, and what it shows of the counter
  abbrev image_at : ℕ → List ℕ
  image_at m = all_stored (take m plan) d.image c

  shown : (m : ℕ) → counter_in (image_at m) c ≡ read_counter (put_all (take m plan) (slot_bytes d.image c))
  shown m =
      let made = some_made RootKeyAndCounter (frame_kept frame) 0 d.image c laid below m in
      counter_read (image_at m) c (same_laid (image_at m) d.image made.header laid) (rw made.header.counters below)
      ∙ ap read_counter made.own

  pub cut_before_the_end : Seen P10-cut-before-the-end d frame (all_called (script P10-cut-before-the-end frame output) d)
  unfolding all_called put_all put_word key_stores table read_counter counter_in pick
  cut_before_the_end =
      let after = ap (λ (x : Device). x.image) (pairing d ready frame output p 10 ∙ some_stored _ _ _ _ _ _ _ _ _ 10 (omega arith)) in
      let now = shown 10 in
      let set : (slot_of (image_at 10) c).counter_state ≡ 0 = ap (λ (x : Counter). x.counter_state) now in
      let value : (slot_of (image_at 10) c).value ≡ 0 = rw set at (ap (λ (x : Counter). x.value) now) in
      let root = ap (λ (x : Counter). x.root_state) now ∙ found-unset in
      rw after (set, value, root)

  pub cut_before_the_counter : Seen P10-cut-before-the-counter d frame (all_called (script P10-cut-before-the-counter frame output) d)
  unfolding all_called put_all put_word key_stores table read_counter counter_in pick
  cut_before_the_counter =
      let after = ap (λ (x : Device). x.image) (pairing d ready frame output p 9 ∙ some_stored _ _ _ _ _ _ _ _ _ 9 (omega arith)) in
      let now = shown 9 in
      let counter = ap (λ (x : Counter). x.counter_state) now ∙ sym (counter_in_lem d.image c laid below) ∙ p.counter-unset in
      let root = ap (λ (x : Counter). x.root_state) now ∙ found-unset in
      rw after (counter, root)
