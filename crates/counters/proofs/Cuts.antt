-- The stores of a job that is cut off, by their number: what is compared is as it was, since the first stores of a plan are not seen, or
-- the counter is set at 0. Assumes nothing.
use Prim.Native.Nat.{ℕ, zero, suc, ◌≤◌, ◌<◌}
use mathlib.Core.Path.{◌≡◌, refl}
use mathlib.Core.Bool.{Bool, true, false}
use mathlib.Core.List.{List, []}
use native.Mathlib.Omega.{arith}
use borrow.Author.Tests.{ltb-true, ltb-false}
use lib.Dec.{ltb}
use lib.ListN.{length, take}
use Rattle.words.specs.Choice.{pick}
use Rattle.words.specs.Table.{table}
use Rattle.words.specs.Words.{word_of, put_word}
use Rattle.image.specs.Slot.{is_set}
use Rattle.jobs.specs.declared.Kind.{Kind}
use Rattle.jobs.specs.declared.Kind.TheVariants.{RootKeyAndCounter, RootKey, SessionKey, Increment, Request, TemporaryKeyAndCounter, TemporaryKey}
use Rattle.plan.specs.declared.Store.{Store}
use Rattle.plan.specs.Stores.{key_stores, counter_stores, increment_stores, stores}
use Rattle.plan.proofs.InSlot.{put_all}
use Rattle.counters.specs.Compared.{Counter}
use Rattle.counters.proofs.Counters.{read_counter}
use Rattle.counters.proofs.Unseen.{all_unseen, unseen, some_unseen}

-- a counter set at 0, all else as it was
abbrev pub zeroed : Counter → Counter
zeroed p = record { root_state = p.root_state; counter_state = 0; value = 0; key = p.key }

-- what is compared once so many stores of a job are made, and not all: a root key that sets its counter too does so in the tenth, and no
-- other store but a job's last is seen
abbrev pub cut_at : Kind → ℕ → Counter → Counter
cut_at RootKeyAndCounter made p = pick (ltb 9 made) (zeroed p) p
cut_at RootKey made p = p
cut_at TemporaryKeyAndCounter made p = p
cut_at TemporaryKey made p = p
cut_at SessionKey made p = p
cut_at Increment made p = p
cut_at Request made p = p

module _ (g : ℕ → ℕ) (frame : List ℕ) (kept : ℕ) where
  abbrev pub root_set : Bool
  root_set = is_set (word_of (g 0) (g 1) (g 2) (g 3))

  abbrev pub counter_set : Bool
  counter_set = is_set (word_of (g 4) (g 5) (g 6) (g 7))

  -- after j stores
  abbrev after_some : List Store → ℕ → Counter
  after_some ss j = read_counter (put_all (take j ss) (table g 48))

  abbrev before : Counter
  before = read_counter (table g 48)

  -- the first stores of a plan change nothing of what is compared, as many as are not seen
  not_seen : (ss : List Store) (n j : ℕ) → j ≤ n → all_unseen root_set counter_set (take n ss) ≡ true → after_some ss j ≡ before
  unfolding table
  not_seen ss n j h e = unseen (take j ss) (table g 48) (some_unseen root_set counter_set ss n j h e)

  -- the key words under an unset root, and the value word under an unset counter
  keys_and_value : root_set ≡ false → counter_set ≡ false → all_unseen root_set counter_set (take 9 (stores RootKeyAndCounter frame kept)) ≡ true
  unfolding all_unseen key_stores pick
  keys_and_value r s = rw (r, s)

  keys : root_set ≡ false → all_unseen root_set counter_set (take 8 (stores RootKey frame kept)) ≡ true
  unfolding all_unseen key_stores pick
  keys r = rw r

  value : counter_set ≡ false → all_unseen root_set counter_set (take 1 counter_stores) ≡ true
  unfolding all_unseen pick
  value s = rw s

  -- then the counter is set, and the root state is left
  counter_seen : root_set ≡ false → after_some (stores RootKeyAndCounter frame kept) 10 ≡ zeroed before
  unfolding put_all put_word key_stores table read_counter pick
  counter_seen r = rw r

  cut_both_by :
      root_set ≡ false → counter_set ≡ false → (j : ℕ) → j < 11 → (b : Bool) → ltb 9 j ≡ b →
      after_some (stores RootKeyAndCounter frame kept) j ≡ pick b (zeroed before) before
  unfolding pick
  cut_both_by r s j h true l =
      let ten : j ≡ 10 = omega (arith, h, ltb-true 9 j l) in
      rw ten (counter_seen r)
  cut_both_by r s j h false l =
      not_seen (stores RootKeyAndCounter frame kept) 9 j (omega (arith, ltb-false 9 j l)) (keys_and_value r s)

  none_made : (j : ℕ) → after_some [] j ≡ before
  unfolding put_all
  none_made zero = refl
  none_made (suc j) = refl

  -- what is known of the bytes when a kind of job starts
  abbrev pub Known : Kind → Type 0
  Known RootKeyAndCounter = (root_set ≡ false) × (counter_set ≡ false)
  Known RootKey = root_set ≡ false
  Known TemporaryKeyAndCounter = counter_set ≡ false
  Known TemporaryKey = Unit {0}
  Known SessionKey = Unit {0}
  Known Increment = Unit {0}
  Known Request = Unit {0}

  -- a job that is cut off has a store left
  pub cut_off :
      (kind : Kind) → Known kind → (j : ℕ) → (0 < length (stores kind frame kept) → j < length (stores kind frame kept)) →
      after_some (stores kind frame kept) j ≡ cut_at kind j before
  unfolding key_stores all_unseen
  cut_off RootKeyAndCounter (r, s) j h = cut_both_by r s j (h (omega arith)) _ refl
  cut_off RootKey r j h = let left = h (omega arith) in not_seen (stores RootKey frame kept) 8 j (omega (arith, left)) (keys r)
  cut_off TemporaryKeyAndCounter s j h = let left = h (omega arith) in not_seen counter_stores 1 j (omega (arith, left)) (value s)
  cut_off TemporaryKey _ j h = none_made j
  cut_off SessionKey _ j h = none_made j
  cut_off Increment _ j h = let left = h (omega arith) in not_seen (increment_stores kept) 0 j (omega (arith, left)) refl
  cut_off Request _ j h = none_made j
