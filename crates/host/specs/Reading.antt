-- Document 01, "Reading a reply at the host": the verdict, in order, and the part with the counter bytes. Assumes nothing.
use Rattle.std.specs.Prelude.{ℕ, ◌+◌, ◌%◌, ◌≡◌, Bool, not, List, [], ◌∷◌, eqb, length, get_or, take, drop}
use Rattle.words.specs.Rows.{Row, ◌gives◌, first_of, any_of}
use Rattle.words.specs.Table.{field}
use Rattle.compare.specs.Compare.{same_bytes}
use Rattle.hmac.specs.Hmac.{HMAC}
use Rattle.refusals.specs.declared.Refusal.TheVariants.{InputLength, ReplyLength}
use Rattle.refusals.specs.Numbers.{number}
use Rattle.host.specs.declared.Verdict.{Verdict}
use Rattle.host.specs.declared.Verdict.TheVariants.{Refused, Busy, Failed, WrongTag, WrongSignature, Good}

-- a reply is status 0, tag 1-12, counter 13-16, signature 17-48
abbrev pub status_in : List ℕ → ℕ
status_in reply = get_or reply 0 0

-- the tag in it is the one sent
unfoldable pub same_tag : List ℕ → List ℕ → Bool
same_tag tag reply = same_bytes (field 1 12 reply) tag

-- its signature is the HMAC, under the session key, of tag then counter value
unfoldable pub reply_signed : List ℕ → List ℕ → Bool
reply_signed key reply = same_bytes (field 17 32 reply) (HMAC key (field 1 16 reply))

-- 6: a key not 32 bytes, tag not 12. 8: reply not 49 bytes. Then: status bit 0 set, busy; status not 80h, failed with that status;
-- tag other than sent; signature wrong
abbrev pub readings : List ℕ → List ℕ → List ℕ → List (Row Verdict)
readings key tag reply =
    (any_of (not (eqb (length key) 32) ∷ not (eqb (length tag) 12) ∷ []) gives Refused InputLength)
    ∷ (not (eqb (length reply) 49) gives Refused ReplyLength)
    ∷ (eqb (status_in reply % 2) 1 gives Busy)
    ∷ (not (eqb (status_in reply) 0x80) gives Failed (status_in reply))
    ∷ (not (same_tag tag reply) gives WrongTag)
    ∷ (not (reply_signed key reply) gives WrongSignature)
    ∷ []

-- the first of these that holds; else good
unfoldable pub read_reply : List ℕ → List ℕ → List ℕ → Verdict
read_reply key tag reply = first_of (readings key tag reply) Good

-- the same without its refusals, for key, tag and reply of the right lengths
unfoldable pub judged : List ℕ → List ℕ → List ℕ → Verdict
judged key tag reply = first_of (drop 2 (readings key tag reply)) Good

-- status 80h, the tag sent, and the signature of tag and counter bytes; key, tag and reply of the right lengths
pub record GoodReply (key tag reply : List ℕ) : Type 0 where
  pub key-length : length key ≡ 32
  pub tag-length : length tag ≡ 12
  pub reply-length : length reply ≡ 49
  pub status : status_in reply ≡ 0x80
  pub same_tag : field 1 12 reply ≡ tag
  pub signed : field 17 32 reply ≡ HMAC key (field 1 16 reply)

-- the number of a verdict: document 01's for a refusal, 0 for good, and what a C program is told for the others
abbrev pub number_of : Verdict → ℕ
number_of (Refused refusal) = number refusal
number_of Busy = 16
number_of (Failed status) = 17
number_of WrongTag = 18
number_of WrongSignature = 19
number_of Good = 0

-- the status that a verdict stands for; unless busy, the first byte of the reply (`status_judged` in proofs/Verdicts.antt)
abbrev pub status_of : Verdict → ℕ
status_of (Refused refusal) = 0
status_of Busy = 0x01
status_of (Failed status) = status
status_of WrongTag = 0x80
status_of WrongSignature = 0x80
status_of Good = 0x80

-- the reader hands back the four counter bytes as the part of the reply where they stand; empty unless good
abbrev pub part_of : Verdict → List ℕ → List ℕ
part_of (Refused refusal) reply = []
part_of Busy reply = []
part_of (Failed status) reply = []
part_of WrongTag reply = []
part_of WrongSignature reply = []
part_of Good reply = take 4 (drop 13 reply)

-- which byte of the reply the part starts at; an empty one is at the front
abbrev pub part_start : Verdict → ℕ
part_start (Refused refusal) = 0
part_start Busy = 0
part_start (Failed status) = 0
part_start WrongTag = 0
part_start WrongSignature = 0
part_start Good = 13

-- a place in memory, a buffer and an offset in it, so many bytes further on
abbrev pub further : ℕ → ℕ × ℕ → ℕ × ℕ
further bytes place = (place.0, place.1 + bytes)
