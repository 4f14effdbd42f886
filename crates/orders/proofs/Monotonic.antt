-- Along any order of calls counters grow, and the value of a set one changes by 1 alone, with the last step of an increment. Assumes
-- nothing.
use Prim.Native.Nat.{ℕ, ◌+◌, ◌^◌, ◌≤◌, ◌<◌}
use mathlib.Core.Path.{◌≡◌, refl, ap, sym, subst, ◌∙◌}
use mathlib.Core.Bool.{true}
use mathlib.Core.List.{List, [], ◌∷◌}
use native.Mathlib.Omega.{arith}
use Rattle.words.specs.Choice.{pick}
use Rattle.words.specs.Words.{Bytes}
use Rattle.words.proofs.Back.{word_small}
use Rattle.words.proofs.Choice.{either}
use Rattle.image.specs.Header.{count, slot_at}
use Rattle.image.specs.Slot.{slot_of, is_set}
use Rattle.image.specs.Refusal.{refusal}
use Rattle.image.proofs.Laid.{SameHeader, same_header}
use Rattle.state.specs.Parts.{power_on}
use Rattle.state.proofs.Running.{no_job_idle}
use Rattle.rules.specs.Whole.{Outcome}
use Rattle.device.specs.Work.{Device, run}
use Rattle.device.specs.Calls.{device, powered_up, After, Call, PowerUp, Frame, Work, called}
use Rattle.progress.proofs.Runs.{run_idle}
use Rattle.progress.proofs.Ends.{work_runs}
use Rattle.progress.proofs.Kept.{run_header}
use Rattle.counters.specs.Compared.{counter_in}
use Rattle.counters.proofs.Growing.{GrowsTo, grows_self, grows_then}
use Rattle.orders.specs.Orders.{all_called}
use Rattle.orders.specs.Ledger.{Pending, None, Doing, Ledger, entered, ledger, opened}
use Rattle.orders.specs.Growing.{Grows}
use Rattle.orders.proofs.Sound.{AsPending, Sound}
use Rattle.orders.proofs.Ledger.{not-refused, frame-done, next, all_sound, start_sound}
use Rattle.orders.proofs.Growing.{job_grows}

-- steps
work_grows :
    (p : Pending) (o : Outcome) (d : Device) → AsPending p o d → (m k : ℕ) → k < count d.image →
    GrowsTo (counter_in d.image k) (counter_in (run m d).image k)
work_grows None o d r m k inside =
    subst (λ (e : Device). GrowsTo (counter_in d.image k) (counter_in e.image k)) (sym (run_idle m d (no_job_idle d.state r.none)))
    (grows_self (counter_in d.image k))
work_grows (Doing frame done) o d (w, left) m k inside = job_grows frame done o d w left m k inside

-- a call
module _ (l : Ledger) (d : Device) (sound : Sound l d) where
  -- a frame changes no byte of the image
  pub frame_image : (bytes output : List ℕ) → (called (Frame bytes output) d).image ≡ d.image
  frame_image bytes output = ap (λ (r : After). r.device.image) (frame-done l d sound bytes output)

  pub work_image : (quota : ℕ) → (called (Work quota) d).image ≡ (run quota d).image
  work_image quota = ap (λ (e : Device). e.image) (work_runs quota d (not-refused l d sound))

  pub call_header : (call : Call) → SameHeader (called call d).image d.image
  unfolding powered_up
  call_header PowerUp = same_header d.image
  call_header (Frame bytes output) = rw (frame_image bytes output) (same_header d.image)
  call_header (Work quota) = rw (work_image quota) (run_header quota d (not-refused l d sound))

  pub call_grows : (call : Call) (k : ℕ) → k < count d.image → GrowsTo (counter_in d.image k) (counter_in (called call d).image k)
  unfolding powered_up
  call_grows PowerUp k inside = grows_self (counter_in d.image k)
  call_grows (Frame bytes output) k inside = rw (frame_image bytes output) (grows_self (counter_in d.image k))
  call_grows (Work quota) k inside = rw (work_image quota) (work_grows l.pending l.as_if d sound.state quota k inside)

-- an order of calls
pub calls_grow :
    (calls : List Call) (l : Ledger) (d : Device) → Sound l d → (k : ℕ) → k < count d.image →
    GrowsTo (counter_in d.image k) (counter_in (all_called calls d).image k)
unfolding all_called
calls_grow [] l d sound k inside = grows_self (counter_in d.image k)
calls_grow (call ∷ more) l d sound k inside =
    let below : k < count (called call d).image = rw (call_header l d sound call).counters inside in
    grows_then _ _ _ (call_grows l d sound call k inside) (calls_grow more (entered call l) (called call d) (next call l d sound) k below)

pub calls_header : (calls : List Call) (l : Ledger) (d : Device) → Sound l d → count (all_called calls d).image ≡ count d.image
unfolding all_called
calls_header [] l d sound = refl
calls_header (call ∷ more) l d sound =
    calls_header more (entered call l) (called call d) (next call l d sound) ∙ (call_header l d sound call).counters

-- what is compared of a counter grows, so its slot does
grows : (before after : List ℕ) (c : ℕ) → GrowsTo (counter_in before c) (counter_in after c) → (counter_in before c).value < 2 ^ 32 → Grows before after c
unfolding counter_in pick
grows before after c by word =
    record {
      stays-set = by.set;
      never-falls = λ set. falls set (by.set set) (by.value word).0;
      root-stays-set = by.root;
      key-stays = by.key;
    }
  where
    falls :
        is_set (slot_of before c).counter_state ≡ true → is_set (slot_of after c).counter_state ≡ true →
        (counter_in before c).value ≤ (counter_in after c).value → (slot_of before c).value ≤ (slot_of after c).value
    falls set still h = rw (set, still) at h

-- a value is a word, of an image of bytes
pub value_word : (image : List ℕ) → Bytes image → (c : ℕ) → (counter_in image c).value < 2 ^ 32
unfolding counter_in slot_of
value_word image bytes c =
    either (λ (v : ℕ). v < 2 ^ 32) (is_set (slot_of image c).counter_state) (slot_of image c).value 0
    (λ _. word_small image bytes (slot_at image c + 8)) (λ _. omega arith)

-- From power-up on an accepted image of bytes: between any two moments of an order.
pub monotonic :
    (image : List ℕ) → refusal image ≡ 0 → Bytes image → (calls more : List Call) (c : ℕ) → c < count image →
    Grows (all_called calls (device image power_on)).image (all_called more (all_called calls (device image power_on))).image c
monotonic image accepted bytes calls more c inside =
    let start = start_sound image accepted in
    let d = all_called calls (device image power_on) in
    let sound = all_sound calls (opened image) (device image power_on) start in
    let below : c < count d.image = rw (calls_header calls (opened image) (device image power_on) start) inside in
    let first = calls_grow calls (opened image) (device image power_on) start c inside in
    grows d.image (all_called more d).image c (calls_grow more (ledger calls (opened image)) d sound c below)
    (first.value (value_word image bytes c)).1
