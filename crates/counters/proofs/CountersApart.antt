-- Demand 3, second half: any reordering that keeps each counter's own order changes no counter, no key and no frame's own final
-- status. Assumes nothing.
use Prim.Native.Nat.{ℕ, ◌≤◌, ◌<◌}
use mathlib.Core.Path.{◌≡◌, refl, ap, sym, subst, ◌∙◌}
use mathlib.Core.Logic.{◌⊎◌, inl, inr, ⊎_elim}
use mathlib.Core.Bool.{Bool, true, false}
use mathlib.Core.List.{List, [], ◌∷◌}
use borrow.Author.Tests.{ltb-false, eqb-true, eqb-false}
use lib.Dec.{ltb, eqb}
use lib.ListN.{length, get_or}
use Rattle.words.specs.Choice.{pick}
use Rattle.words.proofs.Choice.{both}
use Rattle.image.specs.Header.{count}
use Rattle.image.proofs.Laid.{SameHeader, same_header, then_header, back_header}
use Rattle.frames.specs.Layout.{counter_of}
use Rattle.state.specs.Parts.{no_key}
use Rattle.rules.proofs.TooShort.{two_bytes_fail}
use Rattle.rules.specs.Whole.{Outcome, failed_with, whole}
use Rattle.counters.specs.Compared.{counter_in}
use Rattle.counters.specs.Reordering.{belongs, own_frames, all_whole, own_statuses}
use Rattle.counters.proofs.Own.{SameTo}
use Rattle.rules.specs.Formed.{Formed}
use Rattle.rules.proofs.Kept.{Kept, whole-kept, whole_formed}
use Rattle.counters.proofs.WholeOwn.{others_kept, whole_same}

-- two outcomes that are the same to a counter: what is compared of it, and its session key
pub record SameOf (c : ℕ) (o p : Outcome) : Type 0 where
  pub formed_o : Formed o.image o.keys
  pub formed_p : Formed p.image p.keys
  pub header : SameHeader o.image p.image
  pub counter : c < count o.image → counter_in o.image c ≡ counter_in p.image c
  pub session : get_or o.keys c no_key ≡ get_or p.keys c no_key

same_of_self : (c : ℕ) (o : Outcome) → Formed o.image o.keys → SameOf c o o
same_of_self c o formed =
    record { formed_o = formed; formed_p = formed; header = same_header o.image; counter = λ _. refl; session = refl }

module _ (c : ℕ) (frame : List ℕ) (o p : Outcome) (same : SameOf c o p) where
  kept_o : Kept o frame (whole o frame)
  kept_o = whole-kept o frame same.formed_o.laid

  kept-p : Kept p frame (whole p frame)
  kept-p = whole-kept p frame same.formed_p.laid

  -- the counter's own frame, in both
  own-frame : counter_of frame ≡ c → SameOf c (whole o frame) (whole p frame) × ((whole o frame).status ≡ (whole p frame).status)
  own-frame e =
      let to : SameTo frame o p =
      record { header = same.header; counter = λ below. rw e (same.counter (rw (← e) below)); session = rw e same.session } in
      let by = whole_same frame o p to same.formed_o same.formed_p in (
        record {
          formed_o = whole_formed o frame same.formed_o;
          formed_p = whole_formed p frame same.formed_p;
          header =
              then_header _ o.image _ kept_o.header (then_header o.image p.image _ same.header (back_header _ p.image kept-p.header));
          counter = λ below. rw (← e) (by.counter (rw (e, ← kept_o.header.counters) below));
          session = rw (← e) by.session;
        },
        by.status,
      )

  -- another's frame, in one
  other_frame : (counter_of frame ≡ c → ⊥) → SameOf c (whole o frame) p
  other_frame apart =
      record {
        formed_o = whole_formed o frame same.formed_o;
        formed_p = same.formed_p;
        header = then_header _ o.image p.image kept_o.header same.header;
        counter =
            λ below.
            let inside : c < count o.image = rw (← kept_o.header.counters) below in
            others_kept o frame same.formed_o.laid c inside (λ e. apart (sym e)) ∙ same.counter inside;
        session = kept_o.sessions c (λ e. apart (sym e)) ∙ same.session;
      }

  -- nobody's frame, in one
  short_frame : length frame ≤ 2 → SameOf c (whole o frame) p
  unfolding failed_with
  short_frame h = subst (λ (q : Outcome). SameOf c q p) (sym (two_bytes_fail o frame h)) left_alone
    where
      left_alone : SameOf c (failed_with 0x04 o) p
      left_alone =
          record {
            formed_o = same.formed_o;
            formed_p = same.formed_p;
            header = same.header;
            counter = same.counter;
            session = same.session;
          }

is_own : (c : ℕ) (frame : List ℕ) → belongs c frame ≡ true → counter_of frame ≡ c
unfolding belongs
is_own c frame e = eqb-true (counter_of frame) c (both (ltb 2 (length frame)) (eqb (counter_of frame) c) e).1

not_own_by : (c : ℕ) (frame : List ℕ) (b : Bool) → ltb 2 (length frame) ≡ b → belongs c frame ≡ false → (length frame ≤ 2) ⊎ (counter_of frame ≡ c → ⊥)
unfolding belongs pick
not_own_by c frame true l e = inr (eqb-false (counter_of frame) c (rw l at e))
not_own_by c frame false l e = inl (ltb-false 2 (length frame) l)

-- what a list of frames comes to for a counter, and what another does
abbrev Agree : ℕ → List (List ℕ) → List (List ℕ) → Outcome → Outcome → Type 0
Agree c fs gs o p = SameOf c (all_whole fs o) (all_whole gs p) × (own_statuses c fs o ≡ own_statuses c gs p)

one_more :
    (c : ℕ) (frame : List ℕ) (fs : List (List ℕ)) → ((o p : Outcome) → SameOf c o p → Agree c fs (own_frames c fs) o p) →
    (o p : Outcome) → SameOf c o p → (b : Bool) → belongs c frame ≡ b →
    Agree c (frame ∷ fs) (pick b (frame ∷ own_frames c fs) (own_frames c fs)) o p
unfolding all_whole own_statuses pick
one_more c frame fs rest o p same true e =
    let own = own-frame c frame o p same (is_own c frame e) in
    let more = rest (whole o frame) (whole p frame) own.0 in (
      more.0,
      rw e
          (ap (λ (status : ℕ). status ∷ own_statuses c fs (whole o frame)) own.1
          ∙ ap (λ (statuses : List ℕ). (whole p frame).status ∷ statuses) more.1),
    )
one_more c frame fs rest o p same false e =
    let left = ⊎_elim (short_frame c frame o p same) (other_frame c frame o p same) (not_own_by c frame _ refl e) in
    let more = rest (whole o frame) p left in
    (more.0, rw e more.1)

-- a counter's own frames are all that matters to it
own_only : (c : ℕ) (fs : List (List ℕ)) (o p : Outcome) → SameOf c o p → Agree c fs (own_frames c fs) o p
unfolding all_whole own_statuses own_frames
own_only c [] o p same = (same, refl)
own_only c (frame ∷ fs) o p same = one_more c frame fs (own_only c fs) o p same (belongs c frame) refl

pub header_all : (fs : List (List ℕ)) (o : Outcome) → Formed o.image o.keys → SameHeader (all_whole fs o).image o.image
unfolding all_whole
header_all [] o formed = same_header o.image
header_all (frame ∷ fs) o formed =
    then_header _ _ o.image (header_all fs (whole o frame) (whole_formed o frame formed))
    (whole-kept o frame formed.laid).header

-- Two lists of frames in which a counter has the same frames in the same order, whatever stands between them: run whole, they come
-- to the same counter, the same session key, and the same final status of each of its frames.
module _ (c : ℕ) (fs gs : List (List ℕ)) (o : Outcome) (formed : Formed o.image o.keys) (order : own_frames c fs ≡ own_frames c gs) where
  by_own : Agree c fs (own_frames c fs) o o
  by_own = own_only c fs o o (same_of_self c o formed)

  by_own' : Agree c gs (own_frames c fs) o o
  by_own' = rw order (own_only c gs o o (same_of_self c o formed))

  pub same_counter : c < count o.image → counter_in (all_whole fs o).image c ≡ counter_in (all_whole gs o).image c
  same_counter below =
      by_own.0.counter (rw (header_all fs o formed).counters below)
      ∙ sym (by_own'.0.counter (rw (header_all gs o formed).counters below))

  pub same_session : get_or (all_whole fs o).keys c no_key ≡ get_or (all_whole gs o).keys c no_key
  same_session = by_own.0.session ∙ sym by_own'.0.session

  pub same_statuses : own_statuses c fs o ≡ own_statuses c gs o
  same_statuses = by_own.1 ∙ sym by_own'.1
