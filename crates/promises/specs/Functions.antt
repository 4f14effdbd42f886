-- Document 01, "Steps": a run made of calls of the functions power_up, frame and work, each handed the state and the image that the one
-- before it left. Of a function only its contract is used, as the prover reads it from the source. Assumes nothing.
use Rattle.std.specs.Prelude.{ℕ, ◌≡◌, List, [], ◌∷◌}
use Rattle.device.specs.Work.{Device}
use Rattle.device.specs.Calls.{device, answer_of, After, leaving, Call, PowerUp, Frame, Work}
use Rattle.device.proofs.power_up.Reads as power-up-reads
use Rattle.device.proofs.frame.Reads as frame-reads
use Rattle.device.proofs.work.Reads as work-reads
use Rattle.rpmc_host.proofs.rpmc_read_reply.Reads as read-reply-reads

-- a call of a function: lifetimes, arguments, result and what is lent at exit, as its contract has them
module _
    {K : Type 0} {A R S : K → Type 0} (Post : (κs : K) → A κs → R κs → S κs → Type 0) (Given : (κs : K) → A κs → Type 0)
    (Left : (κs : K) → A κs → R κs → S κs → Type 0) where
  pub record Called : Type 0 where
    pub lifetimes : K
    pub args : A lifetimes
    pub result : R lifetimes
    pub exit : S lifetimes
    pub contract : Post lifetimes args result exit
    pub given : Given lifetimes args
    pub left : Left lifetimes args result exit

-- a function was called: what it was handed, and what it left
abbrev pub Did : Call → Device → After → Type 0
Did PowerUp d r = Called power-up-reads.Post (λ κs a. a.0.now ≡ d.image) (λ κs a x s. leaving (answer_of x) [] a.0.now ≡ r)
Did (Frame bytes output) d r =
    Called frame-reads.Post
    (λ κs a. (device a.0.now a.1.0 ≡ d) × (a.1.1.0.now ≡ bytes) × (a.1.1.1.0.now ≡ output))
    (λ κs a x s. leaving (answer_of x) s.1.1.1.0.now a.0.now ≡ r)
Did (Work quota) d r =
    Called work-reads.Post (λ κs a. (device a.0.now a.1.0 ≡ d) × (a.1.1.0 ≡ quota))
    (λ κs a x s. leaving (answer_of x) [] s.0.now ≡ r)

-- a run made of calls, and what each of them left, in order
unfoldable pub Ran : List Call → Device → List After → Type 0
Ran [] d [] = Unit {0}
Ran [] d (left ∷ lefts) = ⊥
Ran (call ∷ more) d [] = ⊥
Ran (call ∷ more) d (left ∷ lefts) = Did call d left × Ran more left.device lefts

-- the C entry rpmc_read_reply was called, with this session key, tag and reply, and returned this number
abbrev pub ReplyRead : List ℕ → List ℕ → List ℕ → ℕ → Type 0
ReplyRead key tag reply number =
    Called read-reply-reads.Post (λ κs a. (a.0.now ≡ key) × (a.1.0.now ≡ tag) × (a.1.1.0.now ≡ reply)) (λ κs a x s. x ≡ number)
