-- Several stores in a counter's slot: what they make of its front, and that they leave the other slots and the header. A store is in
-- the front, which it changes by its word, or behind it, where it leaves the front as it is: so a plan may be long, and the front is
-- fed with the front's stores alone. Assumes nothing.
use Prim.Native.Nat.{ℕ, zero, suc, ◌+◌, ◌≤◌, ◌<◌}
use mathlib.Core.Path.{◌≡◌, refl, ap, ◌∙◌}
use mathlib.Core.Bool.{Bool, true, false}
use mathlib.Core.List.{List, [], ◌∷◌}
use native.Mathlib.Omega.{arith}
use borrow.Author.Tests.{leb-true}
use lib.Dec.{leb}
use lib.ListN.{take}
use Rattle.words.specs.Choice.{pick}
use Rattle.words.specs.Words.{put_word}
use Rattle.words.proofs.Choice.{both}
use Rattle.image.specs.Header.{count, slot_size}
use Rattle.image.proofs.Laid.{SameHeader, same_header, then_header, same_laid, wide}
use Rattle.image.specs.Laid.{Laid}
use Rattle.image.proofs.Slots.{slot_bytes, header_stored, front-stored, front_kept, front_other}
use Rattle.jobs.specs.declared.Kind.{Kind}
use Rattle.jobs.specs.declared.Kind.TheVariants.{RootKeyAndCounter, RootKey, SessionKey, Increment, Request, TemporaryKeyAndCounter, TemporaryKey}
use Rattle.plan.specs.declared.Store.{Store}
use Rattle.plan.specs.Stores.{key_stores, stores}
use Rattle.plan.specs.Storing.{stored, all_stored}

-- a store is in the front of a slot, or behind the front and inside a slot of a size
abbrev pub in_front : Store → Bool
in_front store = leb (store.at + 4) 48

abbrev pub is_behind : ℕ → Store → Bool
is_behind size store = pick (leb 48 store.at) (leb (store.at + 4) size) false

-- all stores are inside a slot of a size
unfoldable pub all_inside : ℕ → List Store → Bool
all_inside size [] = true
all_inside size (store ∷ more) = pick (pick (in_front store) true (is_behind size store)) (all_inside size more) false

-- what the stores make of a slot's front
unfoldable pub put_all : List Store → List ℕ → List ℕ
put_all [] b = b
put_all (store ∷ more) b = put_all more (pick (in_front store) (put_word b store.at store.word) b)

-- stores of a counter leave the header, make of its slot's front what they make of these bytes, and leave the other fronts
pub record InSlot (ss : List Store) (image : List ℕ) (c : ℕ) : Type 0 where
  pub header : SameHeader (all_stored ss image c) image
  pub own : slot_bytes (all_stored ss image c) c ≡ put_all ss (slot_bytes image c)
  pub other : (k : ℕ) → (k ≡ c → ⊥) → slot_bytes (all_stored ss image c) k ≡ slot_bytes image k

-- one store
module _ (image : List ℕ) (c : ℕ) (laid : Laid image) (below : c < count image) (store : Store) where
  in_front_lem : in_front store ≡ true → InSlot (store ∷ []) image c
  unfolding all_stored stored put_all pick
  in_front_lem e =
      let front = leb-true (store.at + 4) 48 e in
      let fits : store.at + 4 ≤ slot_size image = omega (arith, front, wide image laid) in
      record {
        header = header_stored image c store.at store.word laid below fits;
        own = rw e (front-stored image c store.at store.word laid below fits front);
        other = front_other image c store.at store.word laid below fits;
      }

  is_behind_lem : in_front store ≡ false → is_behind (slot_size image) store ≡ true → InSlot (store ∷ []) image c
  unfolding all_stored stored put_all pick
  is_behind_lem e behind =
      let parts = both (leb 48 store.at) (leb (store.at + 4) (slot_size image)) behind in
      let fits = leb-true (store.at + 4) (slot_size image) parts.1 in
      record {
        header = header_stored image c store.at store.word laid below fits;
        own = rw e (front_kept image c store.at store.word laid below fits (leb-true 48 store.at parts.0));
        other = front_other image c store.at store.word laid below fits;
      }

  one_stored : (front : Bool) → in_front store ≡ front → pick front true (is_behind (slot_size image) store) ≡ true → InSlot (store ∷ []) image c
  unfolding pick
  one_stored true e inside = in_front_lem e
  one_stored false e inside = is_behind_lem e inside

pub all-stored :
    (ss : List Store) (image : List ℕ) (c : ℕ) → Laid image → c < count image → all_inside (slot_size image) ss ≡ true → InSlot ss image c
unfolding all_stored put_all all_inside
all-stored [] image c laid below inside = record { header = same_header image; own = refl; other = λ k apart. refl }
all-stored (store ∷ more) image c laid below inside =
    let parts = both (pick (in_front store) true (is_behind (slot_size image) store)) (all_inside (slot_size image) more) inside in
    let one = one_stored image c laid below store _ refl parts.0 in
    let rest =
    all-stored more (stored image c store) c (same_laid (stored image c store) image one.header laid) (rw one.header.counters below)
    (rw one.header.each parts.1) in
    record {
      header = then_header _ _ _ rest.header one.header;
      own = rest.own ∙ ap (put_all more) one.own;
      other = λ k apart. rest.other k apart ∙ one.other k apart;
    }

-- the first of some stores
pub inside-some : (size : ℕ) (ss : List Store) (j : ℕ) → all_inside size ss ≡ true → all_inside size (take j ss) ≡ true
unfolding all_inside pick
inside-some size ss zero e = refl
inside-some size [] (suc j) e = refl
inside-some size (store ∷ more) (suc j) e =
    let parts = both (pick (in_front store) true (is_behind size store)) (all_inside size more) e in
    rw parts.0 (inside-some size more j parts.1)

-- the stores of every kind of job are inside a slot
pub inside-slot : (size : ℕ) (kind : Kind) (frame : List ℕ) (kept : ℕ) → all_inside size (stores kind frame kept) ≡ true
unfolding all_inside key_stores pick
inside-slot size RootKeyAndCounter frame kept = refl
inside-slot size RootKey frame kept = refl
inside-slot size TemporaryKeyAndCounter frame kept = refl
inside-slot size TemporaryKey frame kept = refl
inside-slot size SessionKey frame kept = refl
inside-slot size Increment frame kept = refl
inside-slot size Request frame kept = refl

-- so this is what they make of the image: all of them, and the first of them
module _ (kind : Kind) (frame : List ℕ) (kept : ℕ) (image : List ℕ) (c : ℕ) (laid : Laid image) (below : c < count image) where
  abbrev plan : List Store
  plan = stores kind frame kept

  pub made : InSlot plan image c
  made = all-stored plan image c laid below (inside-slot (slot_size image) kind frame kept)

  pub some_made : (j : ℕ) → InSlot (take j plan) image c
  some_made j =
      all-stored (take j plan) image c laid below (inside-some (slot_size image) plan j (inside-slot (slot_size image) kind frame kept))
