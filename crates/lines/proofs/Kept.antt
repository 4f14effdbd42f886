-- What is kept of a line, all bytes at once: the front of the bytes that there is room for. And where its newline is. Assumes nothing.
use Prim.Native.Nat.{ℕ, suc, ◌+◌, ◌-◌, ◌≤◌, ◌<◌, min}
use mathlib.Core.Path.{◌≡◌, refl, sym}
use mathlib.Core.Bool.{Bool, true, false, cond}
use mathlib.Core.List.{List, [], ◌∷◌, ◌++◌, append-nil, append_assoc}
use native.Mathlib.Omega.{arith}
use borrow.Author.Tests.{ltb-true, ltb-false}
use lib.Dec.{ltb, eqb}
use borrow.Rule.Slice.PartMut.{post_of, Post-is}
use lib.ListN.{length, take, drop, length-append}
use Rattle.std.proofs.lemmas.List.{length-take-le, take_min}
use Rattle.std.proofs.lemmas.List.Folds.{length-prefix_len}
use lib.Seq.{take-length, take-nil}
use Rattle.std.specs.List.{position_or_len}
use Rattle.std.specs.Prelude.{Option, Some, None, position, MatchOption, unwrap_or}
use Rattle.words.specs.Choice.{pick}
use Rattle.words.specs.Words.{with_front}
use Rattle.text.specs.Printing.{newline}
use Rattle.lines.specs.Feeding.{keeping, before_newline, keeping_all}
use Rattle.lines.proofs.Newline.{before-newline, before_other, before_most, no_newline}

keeping_step :
    (byte : ℕ) (bytes kept : List ℕ) → ((k : List ℕ) → length k ≤ 515 → keeping_all k bytes ≡ k ++ take (515 - length k) bytes) →
    length kept ≤ 515 → (t : Bool) → ltb (length kept) 515 ≡ t → keeping_all kept (byte ∷ bytes) ≡ kept ++ take (515 - length kept) (byte ∷ bytes)
unfolding keeping_all keeping pick
keeping_step byte bytes kept more h true e =
    let few : length kept < 515 = ltb-true (length kept) 515 e in
    let next : length (kept ++ (byte ∷ [])) ≡ suc (length kept) = rw (length-append kept (byte ∷ [])) (omega arith) in
    let room : 515 - length kept ≡ suc (515 - suc (length kept)) = omega arith in
    rw (e, room, more (kept ++ (byte ∷ [])) (omega arith), next) (append_assoc kept (byte ∷ []) _)
keeping_step byte bytes kept more h false e =
    let none : 515 - length kept ≡ 0 = omega (arith, ltb-false (length kept) 515 e) in
    rw (e, more kept h, none)

-- what there is room for
pub keeping_all_is : (bytes kept : List ℕ) → length kept ≤ 515 → keeping_all kept bytes ≡ kept ++ take (515 - length kept) bytes
unfolding keeping_all
keeping_all_is [] kept h = rw (take-nil (515 - length kept)) (sym (append-nil kept))
keeping_all_is (byte ∷ bytes) kept h = keeping_step byte bytes kept (keeping_all_is bytes) h (ltb (length kept) 515) refl

front_step :
    (byte : ℕ) (bytes : List ℕ) → before_newline bytes ≡ take (position_or_len (λ b. eqb b newline) bytes) bytes → (t : Bool) → eqb byte newline ≡ t →
    before_newline (byte ∷ bytes) ≡ take (position_or_len (λ b. eqb b newline) (byte ∷ bytes)) (byte ∷ bytes)
front_step byte bytes more true e = rw (before-newline byte bytes e, e)
front_step byte bytes more false e =
    let next : 1 + position_or_len (λ b. eqb b newline) bytes ≡ suc (position_or_len (λ b. eqb b newline) bytes) = omega arith in
    rw (before_other byte bytes e, e, next, ← more)

-- what stands before the first newline, or all where there is none
pub before_newline_is : (bytes : List ℕ) → before_newline bytes ≡ take (position_or_len (λ b. eqb b newline) bytes) bytes
unfolding before_newline
before_newline_is [] = refl
before_newline_is (byte ∷ bytes) = front_step byte bytes (before_newline_is bytes) (eqb byte newline) refl

-- where it stands, and what stands before it
module _ (bytes : List ℕ) where
  abbrev at : ℕ
  at = position_or_len (λ b. eqb b newline) bytes

  size : length (before_newline bytes) ≡ at
  size = rw (before_newline_is bytes) (length-prefix_len _ bytes)

  found : (t : Bool) → ltb at (length bytes) ≡ t → let r = cond t (Some at) None in
      MatchOption r (before_newline bytes ≡ bytes) (λ n. (n ≡ length (before_newline bytes)) × (n < length bytes)) ×
      (take (unwrap_or r (length bytes)) bytes ≡ before_newline bytes)
  found true e = ((sym size, ltb-true at (length bytes) e), sym (before_newline_is bytes))
  found false e =
      let all : before_newline bytes ≡ bytes = no_newline bytes (omega (arith, size, before_most bytes, ltb-false at (length bytes) e)) in
      (all, rw all (take-length bytes))

  pub newline_is : (r : Option ℕ) (n : ℕ) → r ≡ position (λ b. eqb b newline) bytes → n ≡ unwrap_or r (length bytes) →
      MatchOption r (before_newline bytes ≡ bytes) (λ n. (n ≡ length (before_newline bytes)) × (n < length bytes)) × (take n bytes ≡ before_newline bytes)
  newline_is r n e f = rw (f, e) (found (ltb at (length bytes)) refl)

-- kept at the front of a room: of some bytes k are kept behind the n that were kept before
module _ (bytes room : List ℕ) (kept n k : ℕ) (l : length room ≡ 515) (s : n ≡ min kept 515) (f : k ≡ min (length bytes) (515 - n)) where
  abbrev pub all : List ℕ
  all = keeping_all (take (min kept 515) room) bytes

  front : length (take n room) ≡ n
  front = length-take-le n room (omega arith)

  kept_is : all ≡ take n room ++ take k bytes
  kept_is =
      let fits : k ≡ min (515 - n) (length bytes) = omega arith in
      let same : take k bytes ≡ take (515 - n) bytes = rw fits (take_min (515 - n) bytes) in
      rw (← s, keeping_all_is bytes (take n room) (omega (arith, front)), front, same)

  pub kept_size : n + k ≡ length all
  kept_size = rw (kept_is, length-append (take n room) (take k bytes), front, length-take-le k bytes (omega arith))

  pub kept_stands : take n room ++ (take k bytes ++ post_of n (n + k - n) room) ≡ with_front all room
  unfolding with_front
  kept_stands =
      rw (Post-is n (n + k) room (omega arith), ← kept_size, kept_is) (sym (append_assoc (take n room) (take k bytes) (drop (n + k) room)))
