-- A counter grows: a set counter stays set and its value never falls, a set root stays set and its key never changes. So it is by the
-- stores of a job, from some of them to more, and from some of them to all. Assumes nothing.
use Prim.Native.Nat.{ℕ, ◌+◌, ◌%◌, ◌^◌, ◌≤◌, ◌<◌}
use mathlib.Core.Path.{◌≡◌, refl, sym, ◌∙◌}
use mathlib.Core.Bool.{true, false}
use mathlib.Core.List.{List}
use native.Mathlib.Omega.{arith}
use borrow.Author.Tests.{ltb-true, ltb-false}
use lib.Dec.{ltb}
use Rattle.words.specs.Choice.{pick}
use Rattle.words.proofs.Choice.{never, either}
use Rattle.image.specs.Slot.{is_set}
use Rattle.jobs.specs.declared.Kind.{Kind}
use Rattle.jobs.specs.declared.Kind.TheVariants.{RootKeyAndCounter, RootKey, SessionKey, Increment, Request, TemporaryKeyAndCounter, TemporaryKey}
use Rattle.counters.specs.Compared.{Counter}
use Rattle.counters.proofs.Counters.{read_back, counter_after}
use Rattle.counters.proofs.Cuts.{zeroed, cut_at}

-- what is compared of a counter, before and after; a value is a word
pub record GrowsTo (p q : Counter) : Type 0 where
  pub set : is_set p.counter_state ≡ true → is_set q.counter_state ≡ true
  pub value : p.value < 2 ^ 32 → (p.value ≤ q.value) × (q.value < 2 ^ 32)
  pub root : is_set p.root_state ≡ true → is_set q.root_state ≡ true
  pub key : is_set p.root_state ≡ true → q.key ≡ p.key

pub grows_self : (p : Counter) → GrowsTo p p
grows_self p = record { set = λ e. e; value = λ word. (omega arith, word); root = λ e. e; key = λ _. refl }

pub grows_then : (p q r : Counter) → GrowsTo p q → GrowsTo q r → GrowsTo p r
grows_then p q r a b =
    record {
      set = λ e. b.set (a.set e);
      value =
          λ word.
          let one = a.value word in
          let two = b.value one.1 in
          (omega (arith, one.0, two.0), two.1);
      root = λ e. b.root (a.root e);
      key = λ e. b.key (a.root e) ∙ a.key e;
    }

-- what is known of a counter when a kind of job starts
abbrev pub Starts : Kind → Counter → Type 0
Starts RootKeyAndCounter p = (is_set p.root_state ≡ false) × (is_set p.counter_state ≡ false) × (p.value ≡ 0)
Starts RootKey p = is_set p.root_state ≡ false
Starts TemporaryKeyAndCounter p = (is_set p.counter_state ≡ false) × (p.value ≡ 0)
Starts TemporaryKey p = Unit {0}
Starts SessionKey p = Unit {0}
Starts Increment p = is_set p.counter_state ≡ true
Starts Request p = Unit {0}

-- and of the word that an increment stores, once its checks are passed
abbrev pub Stores : Kind → ℕ → Counter → Type 0
Stores RootKeyAndCounter kept p = Unit {0}
Stores RootKey kept p = Unit {0}
Stores TemporaryKeyAndCounter kept p = Unit {0}
Stores TemporaryKey kept p = Unit {0}
Stores SessionKey kept p = Unit {0}
Stores Increment kept p = (kept ≡ (p.value + 1) % 2 ^ 32) × (p.value ≡ 0xFFFFFFFF → ⊥)
Stores Request kept p = Unit {0}

-- a word is read back as it was stored
pub read_back_lem : (w : ℕ) → read_back w ≡ w
read_back_lem w = omega arith

-- the successor of a value that is not at its end
pub next_value : (v kept : ℕ) → kept ≡ (v + 1) % 2 ^ 32 → (v ≡ 0xFFFFFFFF → ⊥) → v < 2 ^ 32 → read_back kept ≡ v + 1
next_value v kept e end word = read_back_lem kept ∙ e ∙ omega (arith, end)

-- a counter that is set at 0
set_at_0 : (p : Counter) → is_set p.counter_state ≡ false → p.value ≡ 0 → GrowsTo p (zeroed p)
set_at_0 p unset none =
    record { set = λ e. refl; value = λ word. (omega (arith, none), omega arith); root = λ e. e; key = λ e. refl }

-- all stores
grows_whole : (kind : Kind) (frame : List ℕ) (kept : ℕ) (p : Counter) → Starts kind p → Stores kind kept p → GrowsTo p (counter_after kind frame kept p)
unfolding pick
grows_whole RootKeyAndCounter frame kept p (root, unset, none) _ =
    record {
      set = λ e. refl;
      value = λ word. (omega (arith, none), omega arith);
      root = λ e. refl;
      key = λ e. absurd (never (sym root ∙ e));
    }
grows_whole RootKey frame kept p root _ =
    record { set = λ e. e; value = λ word. (omega arith, word); root = λ e. refl; key = λ e. absurd (never (sym root ∙ e)) }
grows_whole TemporaryKeyAndCounter frame kept p (unset, none) _ = set_at_0 p unset none
grows_whole TemporaryKey frame kept p _ _ = grows_self p
grows_whole SessionKey frame kept p _ _ = grows_self p
grows_whole Increment frame kept p set (next, end) =
    record { set = λ e. e; value = λ word. by_one word; root = λ e. e; key = λ e. refl }
  where
    by_one : p.value < 2 ^ 32 → (p.value ≤ pick (is_set p.counter_state) (read_back kept) 0) × (pick (is_set p.counter_state) (read_back kept) 0 < 2 ^ 32)
    by_one word = rw (set, next_value p.value kept next end word) (omega arith, omega (arith, end))
grows_whole Request frame kept p _ _ = grows_self p

-- more of them
pub grows_on : (kind : Kind) (p : Counter) → Starts kind p → (i j : ℕ) → i ≤ j → GrowsTo (cut_at kind i p) (cut_at kind j p)
grows_on RootKeyAndCounter p (root, unset, none) i j h =
    either (λ q. GrowsTo q (cut_at RootKeyAndCounter j p)) (ltb 9 i) (zeroed p) p
    (λ before.
    either (GrowsTo (zeroed p)) (ltb 9 j) (zeroed p) p (λ _. grows_self (zeroed p))
    (λ after. absurd (omega (arith, h, ltb-true 9 i before, ltb-false 9 j after))))
    (λ _. either (GrowsTo p) (ltb 9 j) (zeroed p) p (λ _. set_at_0 p unset none) (λ _. grows_self p))
grows_on RootKey p _ i j h = grows_self p
grows_on TemporaryKeyAndCounter p _ i j h = grows_self p
grows_on TemporaryKey p _ i j h = grows_self p
grows_on SessionKey p _ i j h = grows_self p
grows_on Increment p _ i j h = grows_self p
grows_on Request p _ i j h = grows_self p

-- from some of them to all
pub grows_out :
    (kind : Kind) (frame : List ℕ) (kept : ℕ) (p : Counter) → Starts kind p → Stores kind kept p → (j : ℕ) →
    GrowsTo (cut_at kind j p) (counter_after kind frame kept p)
grows_out RootKeyAndCounter frame kept p (root, unset, none) _ j =
    either (λ q. GrowsTo q (counter_after RootKeyAndCounter frame kept p)) (ltb 9 j) (zeroed p) p
    (λ _.
    record { set = λ e. refl; value = λ word. (omega arith, omega arith); root = λ e. refl; key = λ e. absurd (never (sym root ∙ e)) })
    (λ _. grows_whole RootKeyAndCounter frame kept p (root, unset, none) tt)
grows_out RootKey frame kept p starts stores j = grows_whole RootKey frame kept p starts stores
grows_out TemporaryKeyAndCounter frame kept p starts stores j = grows_whole TemporaryKeyAndCounter frame kept p starts stores
grows_out TemporaryKey frame kept p starts stores j = grows_whole TemporaryKey frame kept p starts stores
grows_out SessionKey frame kept p starts stores j = grows_whole SessionKey frame kept p starts stores
grows_out Increment frame kept p starts stores j = grows_whole Increment frame kept p starts stores
grows_out Request frame kept p starts stores j = grows_whole Request frame kept p starts stores

-- the value shown changes by no store but that of an increment
pub value_on : (kind : Kind) (p : Counter) → Starts kind p → (i j : ℕ) → (cut_at kind j p).value ≡ (cut_at kind i p).value
value_on RootKeyAndCounter p (root, unset, none) i j =
    either (λ (q : Counter). q.value ≡ (cut_at RootKeyAndCounter i p).value) (ltb 9 j) (zeroed p) p
    (λ _. either (λ (q : Counter). 0 ≡ q.value) (ltb 9 i) (zeroed p) p (λ _. refl) (λ _. sym none))
    (λ _. either (λ (q : Counter). p.value ≡ q.value) (ltb 9 i) (zeroed p) p (λ _. none) (λ _. refl))
value_on RootKey p _ i j = refl
value_on TemporaryKeyAndCounter p _ i j = refl
value_on TemporaryKey p _ i j = refl
value_on SessionKey p _ i j = refl
value_on Increment p _ i j = refl
value_on Request p _ i j = refl

-- the kinds of job that are no increment
abbrev pub NoIncrement : Kind → Type 0
NoIncrement RootKeyAndCounter = Unit {0}
NoIncrement RootKey = Unit {0}
NoIncrement TemporaryKeyAndCounter = Unit {0}
NoIncrement TemporaryKey = Unit {0}
NoIncrement SessionKey = Unit {0}
NoIncrement Increment = ⊥
NoIncrement Request = Unit {0}

pub value_out :
    (kind : Kind) → NoIncrement kind → (frame : List ℕ) (kept : ℕ) (p : Counter) → Starts kind p → (j : ℕ) →
    (counter_after kind frame kept p).value ≡ (cut_at kind j p).value
value_out RootKeyAndCounter _ frame kept p (root, unset, none) j =
    either (λ (q : Counter). 0 ≡ q.value) (ltb 9 j) (zeroed p) p (λ _. refl) (λ _. sym none)
value_out RootKey _ frame kept p _ j = refl
value_out TemporaryKeyAndCounter _ frame kept p (unset, none) j = sym none
value_out TemporaryKey _ frame kept p _ j = refl
value_out SessionKey _ frame kept p _ j = refl
value_out Increment never frame kept p _ j = absurd never
value_out Request _ frame kept p _ j = refl
