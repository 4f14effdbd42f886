-- Feeding bytes one at a time answers the lines of the input in order, each as it stands there and not as it is kept; and it does
-- not matter in which parts the bytes come. Assumes nothing.
use Prim.Native.Nat.{ℕ, ◌≤◌, ◌<◌}
use mathlib.Core.Path.{◌≡◌, refl, sym, ap}
use mathlib.Core.Bool.{Bool, true, false}
use mathlib.Core.List.{List, [], ◌∷◌, ◌++◌, append_assoc, append-nil}
use native.Mathlib.Omega.{arith}
use borrow.Author.Tests.{eqb-true, ne_eqb, ltb-true, ltb-false}
use lib.Dec.{ltb, eqb}
use lib.ListN.{length, take, length-append}
use lib.Seq.{append_snoc, take_all, take-append-le, length-take-le}
use Rattle.words.specs.Choice.{pick}
use Rattle.device.specs.Work.{Device}
use Rattle.text.specs.Printing.{newline}
use Rattle.lines.specs.Turn.{turn}
use Rattle.lines.specs.Feeding.{Conversation, conversation, Fed, fed_to, keeping, answered, fed, feed, ended}
use Rattle.lines.specs.Feeding.{Lines, lines_as, lines_from, lines_of, all_lines, answers, after_all}
use Rattle.lines.proofs.TooLong.{cut_alike}

-- what is fed in two parts
abbrev pub then : Fed → Fed → Fed
then f g = fed_to (f.text ++ g.text) g.after

pub feed-append : (xs ys : List ℕ) (c : Conversation) → feed (xs ++ ys) c ≡ then (feed xs c) (feed ys (feed xs c).after)
unfolding feed
feed-append [] ys c = refl
feed-append (x ∷ xs) ys c =
    rw (feed-append xs ys (fed x c).after)
    (ap (λ (text : List ℕ). fed_to text (feed ys (feed xs (fed x c).after).after).after) (sym (append_assoc (fed x c).text _ _)))

-- the bytes kept of a line
abbrev pub front : List ℕ → List ℕ
front line = take 515 line

-- are answered as the line itself
front-answered : (d : Device) (line : List ℕ) → turn d (front line) ≡ turn d line
front-answered d line = by_length (ltb 514 (length line)) refl
  where
    by_length : (long : Bool) → ltb 514 (length line) ≡ long → turn d (front line) ≡ turn d line
    by_length true e = cut_alike d line (ltb-true 514 (length line) e)
    by_length false e = ap (turn d) (take_all 515 line (omega (arith, ltb-false 514 (length line) e)))

-- and a byte more is kept as of the line itself
front-keeping : (line : List ℕ) (byte : ℕ) → keeping (front line) byte ≡ front (line ++ (byte ∷ []))
unfolding keeping pick
front-keeping line byte = by_length (ltb (length line) 515) refl
  where
    by_length :
        (short : Bool) → ltb (length line) 515 ≡ short →
        pick (ltb (length (front line)) 515) (front line ++ (byte ∷ [])) (front line) ≡ front (line ++ (byte ∷ []))
    by_length true e =
        let few : length line < 515 = ltb-true (length line) 515 e in
        let more : length (line ++ (byte ∷ [])) ≤ 515 = rw (length-append line (byte ∷ [])) (omega arith) in
        rw (take_all 515 line (omega arith), e, take_all 515 (line ++ (byte ∷ [])) more)
    by_length false e =
        let many : 515 ≤ length line = ltb-false (length line) 515 e in
        rw (length-take-le 515 line many) (sym (take-append-le 515 line (byte ∷ []) many))

-- what an input of these lines does: those that a newline ends are answered in order, and of the last one the front is kept
unfoldable pub told : Device → Lines → Fed
told d lines = fed_to (answers d lines.whole) (conversation (after_all d lines.whole) (front lines.last))

feed_step :
    (byte : ℕ) (bytes line : List ℕ) (d : Device) → ((l : List ℕ) (e : Device) → feed bytes (conversation e (front l)) ≡ told e (lines_from l bytes)) →
    (t : Bool) → eqb byte newline ≡ t → feed (byte ∷ bytes) (conversation d (front line)) ≡ told d (lines_from line (byte ∷ bytes))
unfolding feed fed answered lines_from answers after_all told pick
feed_step byte bytes line d more true e = rw (e, front-answered d line, more [] (turn d line).after)
feed_step byte bytes line d more false e = rw (e, front-keeping line byte, more (line ++ (byte ∷ [])) d)

feed_from : (bytes line : List ℕ) (d : Device) → feed bytes (conversation d (front line)) ≡ told d (lines_from line bytes)
unfolding feed lines_from answers after_all told
feed_from [] line d = refl
feed_from (byte ∷ bytes) line d = feed_step byte bytes line d (λ l e. feed_from bytes l e) (eqb byte newline) refl

-- the law
pub feed_lines : (bytes : List ℕ) (d : Device) → feed bytes (conversation d []) ≡ told d (lines_of bytes)
feed_lines bytes d = feed_from bytes [] d

answers-last : (lines : List (List ℕ)) (line : List ℕ) (d : Device) → answers d (lines ++ (line ∷ [])) ≡ answers d lines ++ (turn (after_all d lines) line).text
unfolding answers after_all
answers-last [] line d = append-nil (turn d line).text
answers-last (first ∷ lines) line d =
    rw (answers-last lines line (turn d first).after) (sym (append_assoc (turn d first).text _ _))

after_last : (lines : List (List ℕ)) (line : List ℕ) (d : Device) → after_all d (lines ++ (line ∷ [])) ≡ (turn (after_all d lines) line).after
unfolding after_all
after_last [] line d = refl
after_last (first ∷ lines) line d = after_last lines line (turn d first).after

-- an input that has ended: a last line without newline is answered too
told-ended :
    (d : Device) (whole : List (List ℕ)) (last : List ℕ) → let lines = lines_as whole last in
    then (told d lines) (ended (told d lines).after) ≡ fed_to (answers d (all_lines lines)) (conversation (after_all d (all_lines lines)) [])
unfolding told ended answered all_lines pick
told-ended d whole [] = rw (append-nil (answers d whole))
told-ended d whole (x ∷ line) =
    let there : eqb (length (x ∷ line)) 0 ≡ false = ne_eqb (length (x ∷ line)) 0 (λ e. omega arith) in
    let kept : eqb (length (front (x ∷ line))) 0 ≡ false = ne_eqb (length (front (x ∷ line))) 0 (λ e. omega arith) in
    rw (there, kept, answers-last whole (x ∷ line) d, after_last whole (x ∷ line) d, front-answered (after_all d whole) (x ∷ line))

-- the whole input
pub heard : List ℕ → Conversation → Fed
heard bytes c = then (feed bytes c) (ended (feed bytes c).after)

-- all its lines are answered in order
pub heard_lines :
    (bytes : List ℕ) (d : Device) → let lines = all_lines (lines_of bytes) in
    heard bytes (conversation d []) ≡ fed_to (answers d lines) (conversation (after_all d lines) [])
unfolding heard
heard_lines bytes d = rw (feed_lines bytes d) (told-ended d (lines_of bytes).whole (lines_of bytes).last)

-- an input again, from its lines: each with its newline, then the last
unfoldable pub joined : List (List ℕ) → List ℕ → List ℕ
joined [] last = last
joined (line ∷ lines) last = line ++ newline ∷ joined lines last

joined_step :
    (byte : ℕ) (bytes line : List ℕ) → ((l : List ℕ) → joined (lines_from l bytes).whole (lines_from l bytes).last ≡ l ++ bytes) →
    (t : Bool) → eqb byte newline ≡ t →
    joined (lines_from line (byte ∷ bytes)).whole (lines_from line (byte ∷ bytes)).last ≡ line ++ byte ∷ bytes
unfolding joined lines_from pick
joined_step byte bytes line more true e = rw (e, more [], eqb-true byte newline e)
joined_step byte bytes line more false e = rw (e, more (line ++ (byte ∷ []))) (append_snoc line byte bytes)

joined_from : (bytes line : List ℕ) → joined (lines_from line bytes).whole (lines_from line bytes).last ≡ line ++ bytes
unfolding joined lines_from
joined_from [] line = sym (append-nil line)
joined_from (byte ∷ bytes) line = joined_step byte bytes line (λ l. joined_from bytes l) (eqb byte newline) refl

-- no byte is lost, none added
pub joined_lines : (bytes : List ℕ) → joined (lines_of bytes).whole (lines_of bytes).last ≡ bytes
joined_lines bytes = joined_from bytes []
