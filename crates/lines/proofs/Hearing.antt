-- The conversation that a call of `hear` leaves, and the bytes behind those that it heard. Assumes nothing.
use Prim.Native.Nat.{ℕ, zero, suc, ◌+◌, ◌-◌, ◌≤◌, ◌<◌, min}
use mathlib.Core.Path.{◌≡◌, refl, sym, ap, ◌∙◌}
use mathlib.Core.Bool.{Bool, true, false}
use mathlib.Core.List.{List, [], ◌∷◌, ◌++◌}
use native.Mathlib.Omega.{arith}
use borrow.Author.Tests.{ltb-true, ltb-false}
use lib.Dec.{ltb}
use lib.ListN.{length, take, drop, length-take, length-drop}
use lib.Seq.{take_at}
use Rattle.arrayvec.specs.ArrayVec.{ArrayVec}
use Rattle.state.specs.declared.State.{State}
use Rattle.device.specs.Work.{Device}
use Rattle.device.specs.Calls.{device}
use Rattle.words.specs.Words.{with_front}
use Rattle.lines.specs.declared.Heard.{Heard}
use Rattle.lines.specs.Feeding.{Conversation, conversation, under_way, Fed, answered, feed, before_newline, up_to_newline, keeping_all, GivesFed}
use Rattle.lines.proofs.Feeding.{then, feed-append}
use Rattle.lines.proofs.Turns.{rest}
use Rattle.lines.proofs.Newline.{before_most, feed_line, feed_unended, kept_most}

-- a list is its front, and what is behind that
front_rest : (k : ℕ) (l : List ℕ) → take k l ++ drop (length (take k l)) l ≡ l
front_rest zero l = refl
front_rest (suc k) [] = refl
front_rest (suc k) (x ∷ l) = ap (λ (m : List ℕ). x ∷ m) (front_rest k l)

-- what is left of the bytes is fed behind those that were heard
pub hear_rest :
    (bytes : List ℕ) (c : Conversation) (n : ℕ) → n ≡ length (up_to_newline bytes) →
    feed bytes c ≡ then (feed (up_to_newline bytes) c) (feed (drop n bytes) (feed (up_to_newline bytes) c).after)
hear_rest bytes c n e =
    rw e (ap (λ (l : List ℕ). feed l c) (sym (front_rest (suc (length (before_newline bytes))) bytes)) ∙ feed-append (up_to_newline bytes) _ c)

-- some byte is heard, where there is one
pub hear_some : (bytes : List ℕ) → 0 < length bytes → 0 < length (up_to_newline bytes)
hear_some [] h = absurd (omega arith)
hear_some (byte ∷ bytes) h = omega arith

pub hear_most : (bytes : List ℕ) → length (up_to_newline bytes) ≤ length bytes
hear_most bytes = rw (length-take (suc (length (before_newline bytes))) bytes) (omega arith)

-- bytes that are heard from a place on, as the code takes them: some are used, and no more than there are
pub hear_used :
    (chunk : List ℕ) (at used : ℕ) → used ≡ length (up_to_newline (take (length chunk - at) (drop at chunk))) → at < length chunk →
    (0 < used) × (at + used ≤ length chunk)
hear_used chunk at used e h =
    let as_fed = e ∙ ap (λ (l : List ℕ). length (up_to_newline l)) (rest at chunk) in
    let size = length-drop at chunk in
    let some = hear_some (drop at chunk) (omega arith) in
    let most = hear_most (drop at chunk) in
    (omega (arith, as_fed), omega (arith, as_fed))

module _ (bytes room : List ℕ) (kept : ℕ) (d : Device) where
  abbrev before : List ℕ
  before = take (min kept 515) room

  abbrev line : List ℕ
  line = keeping_all before (before_newline bytes)

  -- what is kept of the next line stands at the front of the room
  kept-front :
      (t : Bool) → ltb (length (before_newline bytes)) (length bytes) ≡ t → let next = (feed (up_to_newline bytes) (conversation d before)).after.kept in
      take (min (length next) 515) (with_front line room) ≡ next
  unfolding answered with_front
  kept-front true e = rw (feed_line bytes (conversation d before) (ltb-true _ (length bytes) e))
  kept-front false e =
      let most = before_most bytes in
      let all : length (before_newline bytes) ≡ length bytes = omega (arith, ltb-false _ (length bytes) e) in
      let few : length before ≤ 515 = rw (length-take (min kept 515) room) (omega arith) in
      let long : length line ≤ 515 = kept_most (before_newline bytes) before few in
      rw (feed_unended bytes (conversation d before) all) (take_at line _ (min (length line) 515) (omega arith))

-- the conversation as a call leaves it, and the other bytes, as the code takes them, are fed behind those that were heard
module _
    (bytes room room' image image' : List ℕ) (s : State) (kept : ℕ) (r : Heard) (out : ArrayVec ℕ)
    (g : GivesFed (feed (up_to_newline bytes) (under_way image s room kept)) r out)
    (i : image' ≡ (feed (up_to_newline bytes) (under_way image s room kept)).after.device.image)
    (l : room' ≡ with_front (keeping_all (take (min kept 515) room) (before_newline bytes)) room) where
  pub hear_after : under_way image' r.state room' r.kept ≡ (feed (up_to_newline bytes) (under_way image s room kept)).after
  hear_after =
      let front = kept-front bytes room kept (device image s) (ltb (length (before_newline bytes)) (length bytes)) refl in
      rw (l, g.kept, g.state, i, front)

  pub hear_on :
      r.used ≡ length (up_to_newline bytes) →
      (feed (take (length bytes - r.used) (drop r.used bytes)) (under_way image' r.state room' r.kept)).after ≡
      (feed bytes (under_way image s room kept)).after
  hear_on e =
      rw (hear_after, rest r.used bytes) (sym (ap (λ (f : Fed). f.after) (hear_rest bytes (under_way image s room kept) r.used e)))
