-- An exchange: a device takes a frame, work calls bring it to its end, and the reply is read and judged. Assumes nothing.
use Rattle.std.specs.Prelude.{ℕ, ◌≡◌, false, List, [], ◌∷◌}
use Rattle.words.specs.Words.{bytes_of}
use Rattle.image.specs.Refusal.{refusal}
use Rattle.rules.specs.Formed.{Formed}
use Rattle.device.specs.Work.{Device}
use Rattle.device.specs.Calls.{Frame, Work, after, called, is_busy}
use Rattle.host.specs.declared.Verdict.TheVariants.{Good}
use Rattle.host.specs.Reading.{read_reply, part_of}

-- an idle device: no job, an accepted image, and the session keys that every state of the type has
pub record AtRest (d : Device) : Type 0 where
  pub none : is_busy d ≡ false
  pub accepted : refusal d.image ≡ 0
  pub formed : Formed d.image d.state.keys

-- work calls, one after the other, each with a quota
unfoldable pub all_worked : List ℕ → Device → Device
all_worked [] d = d
all_worked (quota ∷ more) d = all_worked more (called (Work quota) d)

-- a device takes a frame, and some work calls, of any quotas, leave it idle
pub record Ends (frame : List ℕ) (d e : Device) : Type 0 where
  pub output : List ℕ
  pub quotas : List ℕ
  pub worked : all_worked quotas (called (Frame frame output) d) ≡ e
  pub none : is_busy e ≡ false

-- the read, 96h and one dummy byte: what it leaves in a buffer
abbrev pub read_from : Device → ℕ → List ℕ → List ℕ
read_from d dummy buffer = (after (Frame (0x96 ∷ dummy ∷ []) buffer) d).output

-- a host that holds this session key and sent this tag reads the reply as good, and is handed this value
abbrev pub ReadsGood : List ℕ → List ℕ → List ℕ → ℕ → Type 0
ReadsGood key tag reply value = (read_reply key tag reply ≡ Good) × (part_of (read_reply key tag reply) reply ≡ bytes_of value)
