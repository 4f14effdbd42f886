-- The C entry that reads a reply returns 0 exactly for a good one, by its contract alone. Assumes nothing.
use Prim.Native.Nat.{ℕ}
use mathlib.Core.Path.{◌≡◌, sym, ◌∙◌}
use mathlib.Core.List.{List}
use Rattle.host.specs.Reading.{GoodReply}
use Rattle.rpmc_host.proofs.Verdicts.{zero_is_good, good_is_zero}
use Rattle.promises.specs.Functions.{ReplyRead}

pub entry_says_good :
    (key tag reply : List ℕ) (number : ℕ) → ReplyRead key tag reply number →
    (number ≡ 0 → GoodReply key tag reply) × (GoodReply key tag reply → number ≡ 0)
entry_says_good key tag reply number c =
    let zero = zero_is_good c.lifetimes c.args c.result c.exit c.contract in
    let good = good_is_zero c.lifetimes c.args c.result c.exit c.contract in (
      λ e. rw (c.given.0, c.given.1, c.given.2) at (zero (c.left ∙ e)),
      λ g. sym c.left ∙ good (rw (c.given.0, c.given.1, c.given.2) g),
    )
