-- The bytes up to the first newline: feeding them keeps them, and a newline behind them has their line answered. Assumes nothing.
use Prim.Native.Nat.{ℕ, suc, ◌≤◌, ◌<◌}
use mathlib.Core.Path.{◌≡◌, refl, sym, ap, ◌∙◌}
use mathlib.Core.Bool.{Bool, true, false}
use mathlib.Core.List.{List, [], ◌∷◌, ◌++◌, append-nil}
use native.Mathlib.Omega.{arith}
use borrow.Author.Tests.{eqb-true, ltb-true}
use lib.Dec.{ltb, eqb}
use lib.ListN.{length, length-append}
use lib.Seq.{take_all}
use Rattle.words.specs.Choice.{pick}
use Rattle.words.proofs.Choice.{either}
use Rattle.text.specs.Printing.{newline}
use Rattle.lines.specs.Feeding.{Conversation, conversation, fed_to, keeping, answered, fed, feed, before_newline, up_to_newline, keeping_all}
use Rattle.lines.proofs.Feeding.{feed-append}

-- one byte more
pub before-newline : (byte : ℕ) (bytes : List ℕ) → eqb byte newline ≡ true → before_newline (byte ∷ bytes) ≡ []
unfolding before_newline pick
before-newline byte bytes e = rw e

pub before_other : (byte : ℕ) (bytes : List ℕ) → eqb byte newline ≡ false → before_newline (byte ∷ bytes) ≡ byte ∷ before_newline bytes
unfolding before_newline pick
before_other byte bytes e = rw e

-- they stand at the front
pub before_most : (bytes : List ℕ) → length (before_newline bytes) ≤ length bytes
unfolding before_newline
before_most [] = omega arith
before_most (byte ∷ bytes) =
    either (λ (l : List ℕ). length l ≤ length (byte ∷ bytes)) (eqb byte newline) _ _ (λ e. omega arith) (λ e. omega (arith, before_most bytes))

-- where they are not all, a newline is behind them
newline_step :
    (byte : ℕ) (bytes : List ℕ) → (length (before_newline bytes) < length bytes → up_to_newline bytes ≡ before_newline bytes ++ (newline ∷ [])) →
    (t : Bool) → eqb byte newline ≡ t → length (before_newline (byte ∷ bytes)) < length (byte ∷ bytes) →
    up_to_newline (byte ∷ bytes) ≡ before_newline (byte ∷ bytes) ++ (newline ∷ [])
newline_step byte bytes more true e h = rw (before-newline byte bytes e, eqb-true byte newline e)
newline_step byte bytes more false e h =
    let longer = ap length (before_other byte bytes e) in
    rw (before_other byte bytes e) (ap (λ (l : List ℕ). byte ∷ l) (more (omega (arith, longer, h))))

pub newline_behind : (bytes : List ℕ) → length (before_newline bytes) < length bytes → up_to_newline bytes ≡ before_newline bytes ++ (newline ∷ [])
newline_behind [] h = absurd (omega arith)
newline_behind (byte ∷ bytes) h = newline_step byte bytes (newline_behind bytes) (eqb byte newline) refl h

-- else there is none
all_step :
    (byte : ℕ) (bytes : List ℕ) → (length (before_newline bytes) ≡ length bytes → before_newline bytes ≡ bytes) → (t : Bool) → eqb byte newline ≡ t →
    length (before_newline (byte ∷ bytes)) ≡ length (byte ∷ bytes) → before_newline (byte ∷ bytes) ≡ byte ∷ bytes
all_step byte bytes more true e h = absurd (omega (arith, ap length (before-newline byte bytes e), h))
all_step byte bytes more false e h =
    let longer = ap length (before_other byte bytes e) in
    before_other byte bytes e ∙ ap (λ (l : List ℕ). byte ∷ l) (more (omega (arith, longer, h)))

pub no_newline : (bytes : List ℕ) → length (before_newline bytes) ≡ length bytes → before_newline bytes ≡ bytes
unfolding before_newline
no_newline [] h = refl
no_newline (byte ∷ bytes) h = all_step byte bytes (no_newline bytes) (eqb byte newline) refl h

feed_step :
    (byte : ℕ) (bytes : List ℕ) (c : Conversation) →
    ((k : Conversation) → feed (before_newline bytes) k ≡ fed_to [] (conversation k.device (keeping_all k.kept (before_newline bytes)))) →
    (t : Bool) → eqb byte newline ≡ t →
    feed (before_newline (byte ∷ bytes)) c ≡ fed_to [] (conversation c.device (keeping_all c.kept (before_newline (byte ∷ bytes))))
unfolding feed fed keeping_all pick
feed_step byte bytes c more true e = rw (before-newline byte bytes e)
feed_step byte bytes c more false e = rw (before_other byte bytes e, e) (more (conversation c.device (keeping c.kept byte)))

-- nothing is printed for them
pub feed-before :
    (bytes : List ℕ) (c : Conversation) → feed (before_newline bytes) c ≡ fed_to [] (conversation c.device (keeping_all c.kept (before_newline bytes)))
unfolding feed before_newline keeping_all
feed-before [] c = refl
feed-before (byte ∷ bytes) c = feed_step byte bytes c (feed-before bytes) (eqb byte newline) refl

module _ (bytes : List ℕ) (c : Conversation) where
  abbrev line : List ℕ
  line = keeping_all c.kept (before_newline bytes)

  -- with the newline behind them their line is answered
  pub feed_line : length (before_newline bytes) < length bytes → feed (up_to_newline bytes) c ≡ answered (conversation c.device line)
  unfolding feed fed pick
  feed_line h =
      rw (newline_behind bytes h, feed-append (before_newline bytes) (newline ∷ []) c, feed-before bytes c)
      (ap (λ (text : List ℕ). fed_to text (answered (conversation c.device line)).after) (append-nil _))

  pub feed_unended : length (before_newline bytes) ≡ length bytes → feed (up_to_newline bytes) c ≡ fed_to [] (conversation c.device line)
  feed_unended e =
      let all : up_to_newline bytes ≡ before_newline bytes = take_all (suc (length (before_newline bytes))) bytes (omega arith) ∙ sym (no_newline bytes e) in
      rw all (feed-before bytes c)

-- no more than 515 bytes of a line are kept
keeping_most : (kept : List ℕ) (byte : ℕ) → length kept ≤ 515 → length (keeping kept byte) ≤ 515
unfolding keeping
keeping_most kept byte h =
    either (λ (l : List ℕ). length l ≤ 515) (ltb (length kept) 515) _ _
    (λ e. omega (arith, length-append kept (byte ∷ []), ltb-true (length kept) 515 e)) (λ e. h)

pub kept_most : (bytes kept : List ℕ) → length kept ≤ 515 → length (keeping_all kept bytes) ≤ 515
unfolding keeping_all
kept_most [] kept h = h
kept_most (byte ∷ bytes) kept h = kept_most bytes (keeping kept byte) (keeping_most kept byte h)
