-- The functions do what the definitions say: a run made of calls of them leaves, call by call, what the order of calls does, since the
-- contract of each fixes what it leaves. So they keep every promise. Assumes nothing.
use Prim.Native.Nat.{ℕ, ◌≤◌}
use mathlib.Core.Path.{◌≡◌, refl, ap, ap₂, sym, subst, ◌∙◌}
use mathlib.Core.Bool.{false}
use mathlib.Core.List.{List, [], ◌∷◌}
use lib.ListN.{length}
use Rattle.image.specs.Refusal.{refusal}
use Rattle.frames.specs.declared.Class.TheVariants.{Read}
use Rattle.frames.specs.Classes.{class_of}
use Rattle.frames.specs.Reading.{read_output}
use Rattle.jobs.specs.Jobs.{longest}
use Rattle.state.specs.Parts.{power_on}
use Rattle.device.specs.Work.{Device}
use Rattle.device.specs.Calls.{Answer, device, powered_up, After, leaving, after, Call, PowerUp, Frame, Work, outcome, is_busy}
use Rattle.counters.specs.Compared.{Alike}
use Rattle.orders.specs.Orders.{all_called, all_left, last_left}
use Rattle.orders.specs.Ledger.{Ledger, ledger, opened, is_doing}
use Rattle.orders.specs.InStep.{InStep}
use Rattle.orders.proofs.Orders.{last-called}
use Rattle.orders.proofs.Ledger.{as_if_whole, in_step, reads, never_refused}
use Rattle.orders.proofs.ItEnds.{it_ends}
use Rattle.promises.specs.Functions.{Did, Ran}

-- a function leaves what the definitions say
pub functions_leave : (call : Call) (d : Device) (r : After) → Did call d r → after call d ≡ r
functions_leave PowerUp d r c =
    let image = c.args.0.now in
    ap (λ (i : List ℕ). leaving (powered_up i) [] i) (sym c.given) ∙ ap (λ (a : Answer). leaving a [] image) (sym c.contract) ∙ c.left
functions_leave (Frame bytes output) d r c =
    let image = c.args.0.now in
    let s = c.args.1.0 in
    ap (after (Frame bytes output)) (sym c.given.0)
    ∙ ap₂ (λ (b o : List ℕ). after (Frame b o) (device image s)) (sym c.given.1) (sym c.given.2)
    ∙ ap₂ (λ (a : Answer) (o : List ℕ). leaving a o image) (sym c.contract.0) (sym c.contract.1) ∙ c.left
functions_leave (Work quota) d r c =
    let image = c.args.0.now in
    let s = c.args.1.0 in
    ap (after (Work quota)) (sym c.given.0) ∙ ap (λ (n : ℕ). after (Work n) (device image s)) (sym c.given.1)
    ∙ ap₂ (λ (a : Answer) (i : List ℕ). leaving a [] i) (sym c.contract.0) (sym c.contract.1) ∙ c.left

-- so a run leaves what they say, call by call: numbers, steps, outputs, images and states
pub functions_run : (calls : List Call) (d : Device) (lefts : List After) → Ran calls d lefts → all_left calls d ≡ lefts
unfolding all_left Ran
functions_run [] d [] ran = refl
functions_run [] d (left ∷ lefts) ran = absurd ran
functions_run (call ∷ more) d [] ran = absurd ran
functions_run (call ∷ more) d (left ∷ lefts) (did, ran) =
    let one = functions_leave call d left did in
    ap (λ (r : After). r ∷ all_left more r.device) one ∙ ap (λ (rs : List After). left ∷ rs) (functions_run more left.device lefts ran)

-- A run of the functions: power up on an accepted image, then any calls, each handed what the one before it left.
module _ (calls : List Call) (d : Device) (accepted : refusal d.image ≡ 0) (lefts : List After) (ran : Ran (PowerUp ∷ calls) d lefts) where
  abbrev l : Ledger
  l = ledger calls (opened d.image)

  abbrev e : Device
  e = last_left lefts d

  -- The device that it leaves is the one that the promises speak of.
  pub functions_come_to : all_called calls (device d.image power_on) ≡ e
  unfolding all_called powered_up
  functions_come_to =
      sym (last-called (PowerUp ∷ calls) d) ∙ ap (λ (rs : List After). last_left rs d) (functions_run (PowerUp ∷ calls) d lefts ran)

  -- Once idle, the device shows what it would show if the command frames that found it idle had run whole.
  pub functions_as_if_whole : is_busy e ≡ false → Alike (outcome e) l.as_if
  functions_as_if_whole idle =
      subst (λ (x : Device). Alike (outcome x) l.as_if) functions_come_to
      (as_if_whole d.image accepted calls (ap is_busy functions_come_to ∙ idle))

  -- The ledger of the calls agrees with it at every moment.
  pub functions_in_step : InStep l e
  functions_in_step = subst (InStep l) functions_come_to (in_step d.image accepted calls)

  -- One call more: it is not refused, a read shows what the ledger says, and a work call with a quota of the longest job or more leaves
  -- the device idle.
  leaves_next : (call : Call) (r : After) → Did call e r → after call (all_called calls (device d.image power_on)) ≡ r
  leaves_next call r did = ap (after call) functions_come_to ∙ functions_leave call e r did

  pub functions_never_refused : (call : Call) (r : After) → Did call e r → r.number ≡ 0
  functions_never_refused call r did =
      ap (λ (x : After). x.number) (sym (leaves_next call r did)) ∙ never_refused d.image accepted calls call

  pub functions_read :
      (bytes output : List ℕ) (r : After) → class_of bytes ≡ Read → Did (Frame bytes output) e r →
      r.output ≡ read_output (is_doing l.pending) l.as_if.status l.as_if.reply (length output)
  functions_read bytes output r read did =
      ap (λ (x : After). x.output) (sym (leaves_next (Frame bytes output) r did)) ∙ reads d.image accepted calls bytes output read

  pub functions_end : (quota : ℕ) (r : After) → longest ≤ quota → Did (Work quota) e r → is_busy r.device ≡ false
  functions_end quota r enough did =
      ap (λ (x : After). is_busy x.device) (sym (leaves_next (Work quota) r did)) ∙ it_ends d.image accepted calls quota enough
