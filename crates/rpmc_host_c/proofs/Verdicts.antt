-- What a C program may rely on, by the contracts of the reader's two entries alone: 0 is returned exactly for a good reply, and the part
-- is then the four counter bytes where they stand, else empty. Assumes nothing.
use mathlib.Core.Path.{◌≡◌, ap, sym, ◌∙◌}
use mathlib.Core.List.{[]}
use lib.ListN.{take, drop}
use Rattle.host.specs.Reading.{GoodReply, further}
use Rattle.host.proofs.Verdicts.{good_number, good_part, no_part}
use Rattle.rpmc_host_c.proofs.rpmc_read_reply.Reads as read-reply-reads
use Rattle.rpmc_host_c.proofs.rpmc_part.Reads as part-reads

-- what holds of every call, whatever its lifetimes, arguments, result and what is lent at exit, if its contract does
abbrev Always :
    {K : Type 0} {A R S : K → Type 0} → ((κs : K) → A κs → R κs → S κs → Type 0) → ((κs : K) → A κs → R κs → S κs → Type 0) → Type 0
Always {K} {A} {R} {S} Post Says = (κs : K) (a : A κs) (x : R κs) (s : S κs) → Post κs a x s → Says κs a x s

-- a call of rpmc_read_reply that returns 0 has a good reply
pub zero_is_good : Always read-reply-reads.Post (λ κs a x s. x ≡ 0 → GoodReply a.0.now a.1.0.now a.1.1.0.now)
zero_is_good κs a x s p zero = (good_number a.0.now a.1.0.now a.1.1.0.now).0 (sym p ∙ zero)

-- and one with a good reply returns 0
pub good_is_zero : Always read-reply-reads.Post (λ κs a x s. GoodReply a.0.now a.1.0.now a.1.1.0.now → x ≡ 0)
good_is_zero κs a x s p good = p ∙ (good_number a.0.now a.1.0.now a.1.1.0.now).1 good

-- a call of rpmc_part with a good reply leaves bytes 13 to 16 of the reply, and their place in it
pub good_part_is_left :
    Always part-reads.Post (λ κs a x s.
    GoodReply a.0.now a.1.0.now a.1.1.0.now →
    (s.1.1.1.0.now.now ≡ take 4 (drop 13 a.1.1.0.now)) × (s.1.1.1.0.now.ref_ptr ≡ further 13 a.1.1.0.ref_ptr))
good_part_is_left κs a x s p good =
    let part = good_part a.0.now a.1.0.now a.1.1.0.now good in
    (p.0 ∙ part.0, p.1 ∙ ap (λ start. further start a.1.1.0.ref_ptr) part.1)

-- and with any other reply an empty part
pub no_part_is_left :
    Always part-reads.Post (λ κs a x s. (GoodReply a.0.now a.1.0.now a.1.1.0.now → ⊥) → s.1.1.1.0.now.now ≡ [])
no_part_is_left κs a x s p other = p.0 ∙ no_part a.0.now a.1.0.now a.1.1.0.now other
