-- When a reply is read as good, row by row of the table, and what number, part and status a verdict has. Assumes nothing.
use Prim.Native.Nat.{ℕ, ◌%◌}
use mathlib.Core.Path.{◌≡◌, refl, ap, sym, ◌∙◌}
use mathlib.Core.Bool.{false}
use mathlib.Core.List.{List, []}
use borrow.Author.Tests.{eqb-true, eq-eqb, not-false}
use lib.Dec.{eqb}
use lib.ListN.{length, take, drop}
use Rattle.words.specs.Choice.{pick}
use Rattle.words.specs.Rows.{first_of, any_of}
use Rattle.words.proofs.Choice.{never, either}
use Rattle.words.proofs.Rows.{none_holds, no_test}
use Rattle.words.specs.Table.{field}
use Rattle.compare.proofs.Agree.{same_self, same_equal}
use Rattle.hmac.specs.Hmac.{HMAC}
use Rattle.host.specs.declared.Verdict.{Verdict}
use Rattle.host.specs.declared.Verdict.TheVariants.{Refused, Busy, Failed, WrongTag, WrongSignature, Good}
use Rattle.host.specs.Reading.{status_in, same_tag, reply_signed, readings, read_reply, judged, GoodReply, number_of, status_of, part_of, part_start}

-- a reply whose verdict has the number 0, which is in no row, is good
zero_only : (key tag reply : List ℕ) → number_of (read_reply key tag reply) ≡ 0 → GoodReply key tag reply
unfolding read_reply same_tag reply_signed pick
zero_only key tag reply e =
    let row = none_holds (λ v. eqb (number_of v) 0) (readings key tag reply) Good refl (eq-eqb _ 0 e) in
    record {
      key-length = eqb-true (length key) 32 (not-false _ (no_test _ (row 0) 0));
      tag-length = eqb-true (length tag) 12 (not-false _ (no_test _ (row 0) 1));
      reply-length = eqb-true (length reply) 49 (not-false _ (row 1));
      status = eqb-true (status_in reply) 0x80 (not-false _ (row 3));
      same_tag = same_equal (field 1 12 reply) tag (not-false _ (row 4));
      signed = same_equal (field 17 32 reply) (HMAC key (field 1 16 reply)) (not-false _ (row 5));
    }

-- a reply that is read as good is good
pub good_only : (key tag reply : List ℕ) → read_reply key tag reply ≡ Good → GoodReply key tag reply
good_only key tag reply e = zero_only key tag reply (ap number_of e)

-- and a good reply is read as good
pub good_read : (key tag reply : List ℕ) → GoodReply key tag reply → read_reply key tag reply ≡ Good
unfolding read_reply same_tag reply_signed first_of any_of pick
good_read key tag reply g =
    rw (
      g.key-length,
      g.tag-length,
      g.reply-length,
      g.status,
      g.same_tag,
      g.signed,
      same_self tag,
      same_self (HMAC key (field 1 16 reply)),
    )

-- the number of a verdict is 0 exactly when the reply is good
pub good_number :
    (key tag reply : List ℕ) →
    (number_of (read_reply key tag reply) ≡ 0 → GoodReply key tag reply) × (GoodReply key tag reply → number_of (read_reply key tag reply) ≡ 0)
good_number key tag reply = (zero_only key tag reply, λ g. ap number_of (good_read key tag reply g))

empty_unless : (v : Verdict) (reply : List ℕ) → (v ≡ Good → ⊥) → part_of v reply ≡ []
empty_unless (Refused refusal) reply other = refl
empty_unless Busy reply other = refl
empty_unless (Failed status) reply other = refl
empty_unless WrongTag reply other = refl
empty_unless WrongSignature reply other = refl
empty_unless Good reply other = absurd (other refl)

-- the part of a good reply is its counter bytes, where they stand, and of any other it is empty
pub good_part :
    (key tag reply : List ℕ) → GoodReply key tag reply →
    (part_of (read_reply key tag reply) reply ≡ take 4 (drop 13 reply)) × (part_start (read_reply key tag reply) ≡ 13)
good_part key tag reply g =
    let good = good_read key tag reply g in
    (ap (λ v. part_of v reply) good, ap part_start good)

pub no_part : (key tag reply : List ℕ) → (GoodReply key tag reply → ⊥) → part_of (read_reply key tag reply) reply ≡ []
no_part key tag reply other = empty_unless (read_reply key tag reply) reply (λ e. other (good_only key tag reply e))

-- the status that a verdict carries, if it carries one
abbrev carried : ℕ → Verdict → ℕ
carried none (Refused refusal) = none
carried none Busy = none
carried none (Failed status) = status
carried none WrongTag = none
carried none WrongSignature = none
carried none Good = none

-- the status that failed carries is the reply's first byte
pub failed_with :
    (key tag reply : List ℕ) (status : ℕ) → read_reply key tag reply ≡ Failed status → status ≡ status_in reply
unfolding read_reply first_of
failed_with key tag reply status e =
    let first = status_in reply in
    let said : Verdict → Type 0 = λ v. carried first v ≡ first in
    sym (ap (carried first) e)
    ∙ either said _ _ _ (λ _. refl) (λ _.
    either said _ _ _ (λ _. refl) (λ _.
    either said _ _ _ (λ _. refl) (λ _.
    either said _ _ _ (λ _. refl) (λ _.
    either said _ _ _ (λ _. refl) (λ _.
    either said _ _ _ (λ _. refl) (λ _. refl))))))

-- the status of a verdict is the reply's first byte, unless that says busy
pub status_judged : (key tag reply : List ℕ) → eqb (status_in reply % 2) 1 ≡ false → status_of (judged key tag reply) ≡ status_in reply
unfolding judged first_of
status_judged key tag reply idle =
    let said : Verdict → Type 0 = λ v. status_of v ≡ status_in reply in
    either said _ _ _
    (λ busy. absurd (never (sym idle ∙ busy)))
    (λ _. either said _ _ _
    (λ _. refl)
    (λ ok.
    let good = sym (eqb-true (status_in reply) 0x80 (not-false _ ok)) in
    either said _ _ _ (λ _. good) (λ _. either said _ _ _ (λ _. good) (λ _. good))))
