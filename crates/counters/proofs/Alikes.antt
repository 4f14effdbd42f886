-- Running a frame whole keeps what is alike alike. Assumes nothing.
use Prim.Native.Nat.{ℕ, ◌<◌}
use mathlib.Core.Path.{◌≡◌, refl, ap, sym, ◌∙◌}
use mathlib.Core.Bool.{Bool, true, false}
use mathlib.Core.List.{List}
use borrow.Author.Tests.{eqb-true, eqb-false}
use lib.Dec.{eqb}
use lib.ListN.{get_or}
use lib.Seq.{ext_get_or}
use Rattle.image.specs.Header.{count}
use Rattle.image.proofs.Laid.{SameHeader}
use Rattle.frames.specs.Layout.{counter_of}
use Rattle.state.specs.declared.Key.{Key}
use Rattle.state.specs.Parts.{no_key}
use Rattle.rules.specs.Whole.{Outcome, whole}
use Rattle.counters.specs.Compared.{counter_in, Alike}
use Rattle.counters.proofs.Own.{SameTo}
use Rattle.rules.specs.Formed.{Formed}
use Rattle.rules.proofs.Kept.{Kept, whole-kept}
use Rattle.counters.proofs.WholeOwn.{others_kept, SameBy, whole_same}

-- two devices that are alike are the same to any frame
pub same_to : (frame : List ℕ) (d e : Outcome) → SameHeader d.image e.image → Alike d e → SameTo frame d e
same_to frame d e header alike =
    record {
      header = header;
      counter = alike.counters (counter_of frame);
      session = ap (λ (keys : List Key). get_or keys (counter_of frame) no_key) alike.keys;
    }

-- and come to what is alike
module _
    (frame : List ℕ) (d e : Outcome) (formed-d : Formed d.image d.keys) (formed-e : Formed e.image e.keys)
    (header : SameHeader d.image e.image) (alike : Alike d e) where
  abbrev own : ℕ
  own = counter_of frame

  by : SameBy frame d e (whole d frame) (whole e frame)
  by = whole_same frame d e (same_to frame d e header alike) formed-d formed-e

  kept-d : Kept d frame (whole d frame)
  kept-d = whole-kept d frame formed-d.laid

  kept-e : Kept e frame (whole e frame)
  kept-e = whole-kept e frame formed-e.laid

  counters_by :
      (k : ℕ) → k < count d.image → (b : Bool) → eqb k own ≡ b → counter_in (whole d frame).image k ≡ counter_in (whole e frame).image k
  counters_by k inside true p = rw (eqb-true k own p) (by.counter (rw (← eqb-true k own p) inside))
  counters_by k inside false p =
      others_kept d frame formed-d.laid k inside (eqb-false k own p) ∙ alike.counters k inside
      ∙ sym (others_kept e frame formed-e.laid k (rw (← header.counters) inside) (eqb-false k own p))

  sessions_by : (k : ℕ) (b : Bool) → eqb k own ≡ b → get_or (whole d frame).keys k no_key ≡ get_or (whole e frame).keys k no_key
  sessions_by k true p = rw (eqb-true k own p) by.session
  sessions_by k false p =
      kept-d.sessions k (eqb-false k own p) ∙ ap (λ (keys : List Key). get_or keys k no_key) alike.keys
      ∙ sym (kept-e.sessions k (eqb-false k own p))

  pub alike_whole : Alike (whole d frame) (whole e frame)
  alike_whole =
      record {
        status = by.status;
        reply = by.reply;
        keys =
            ext_get_or no_key _ _ (kept-d.size ∙ formed-d.four ∙ sym (kept-e.size ∙ formed-e.four)) (λ k _. sessions_by k _ refl);
        counters = λ k inside. counters_by k (rw (← kept-d.header.counters) inside) _ refl;
      }
