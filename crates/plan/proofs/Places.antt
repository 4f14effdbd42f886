-- Where the stores of a plan stand in their slot: in its first three words, or in its key; bytes 12-15 are spared. Assumes nothing.
use Prim.Native.Nat.{ℕ, zero, suc, ◌+◌, ◌≤◌}
use mathlib.Core.Path.{◌≡◌, refl}
use mathlib.Core.Logic.{◌⊎◌, inl, inr}
use mathlib.Core.Bool.{Bool, true, false}
use mathlib.Core.List.{List, [], ◌∷◌}
use borrow.Author.Tests.{leb-true}
use lib.Dec.{leb}
use lib.ListN.{get_or}
use Rattle.words.specs.Choice.{pick}
use Rattle.words.proofs.Choice.{both}
use Rattle.jobs.specs.declared.Kind.{Kind}
use Rattle.jobs.specs.declared.Kind.TheVariants.{RootKeyAndCounter, RootKey, SessionKey, Increment, Request, TemporaryKeyAndCounter, TemporaryKey}
use Rattle.plan.specs.declared.Store.{Store}
use Rattle.plan.specs.Stores.{key_stores, stores, store_of, no_store}

-- a store spares bytes 12-15 of the slot: it is in the words before them, or behind them and in the front
abbrev sparing : Store → Bool
sparing store = pick (leb (store.at + 4) 12) true (pick (leb 16 store.at) (leb (store.at + 4) 48) false)

unfoldable all_sparing : List Store → Bool
all_sparing [] = true
all_sparing (store ∷ more) = pick (sparing store) (all_sparing more) false

sparing_at : (ss : List Store) (i : ℕ) → all_sparing ss ≡ true → sparing (get_or ss i no_store) ≡ true
unfolding all_sparing pick
sparing_at [] i e = refl
sparing_at (store ∷ more) zero e = (both (sparing store) (all_sparing more) e).0
sparing_at (store ∷ more) (suc i) e = sparing_at more i (both (sparing store) (all_sparing more) e).1

all-sparing : (kind : Kind) (frame : List ℕ) (kept : ℕ) → all_sparing (stores kind frame kept) ≡ true
unfolding all_sparing key_stores pick
all-sparing RootKeyAndCounter frame kept = refl
all-sparing RootKey frame kept = refl
all-sparing TemporaryKeyAndCounter frame kept = refl
all-sparing TemporaryKey frame kept = refl
all-sparing SessionKey frame kept = refl
all-sparing Increment frame kept = refl
all-sparing Request frame kept = refl

place_by :
    (store : Store) → sparing store ≡ true → (b : Bool) → leb (store.at + 4) 12 ≡ b →
    (store.at + 4 ≤ 12) ⊎ ((16 ≤ store.at) × (store.at + 4 ≤ 48))
unfolding pick
place_by store e true before = inl (leb-true (store.at + 4) 12 before)
place_by store e false more =
    let parts = both (leb 16 store.at) (leb (store.at + 4) 48) (rw more at e) in
    inr (leb-true 16 store.at parts.0, leb-true (store.at + 4) 48 parts.1)

pub store-place :
    (kind : Kind) (i : ℕ) (frame : List ℕ) (kept : ℕ) →
    ((store_of kind i frame kept).at + 4 ≤ 12) ⊎ ((16 ≤ (store_of kind i frame kept).at) × ((store_of kind i frame kept).at + 4 ≤ 48))
unfolding store_of
store-place kind i frame kept =
    place_by (get_or (stores kind frame kept) i no_store) (sparing_at (stores kind frame kept) i (all-sparing kind frame kept)) _ refl
