-- The type of a command is the type of the frame that started its job, and two commands of a type are one. Assumes nothing.
use Prim.Native.Nat.{ℕ, zero, suc, ◌≤◌}
use mathlib.Core.Path.{◌≡◌, refl, ap, sym, ◌∙◌}
use mathlib.Core.Bool.{Bool}
use native.Mathlib.Omega.{arith}
use Rattle.words.specs.Choice.{pick}
use Rattle.words.proofs.Choice.{either}
use Rattle.std.specs.Prelude.{Result, Ok, Err}
use Rattle.jobs.specs.declared.Command.{Command}
use Rattle.jobs.specs.declared.Command.TheVariants.{WriteRootKey, UpdateSessionKey, IncrementCounter, RequestCounter}
use Rattle.jobs.specs.declared.Kind.{Kind}
use Rattle.jobs.specs.declared.UnknownType.{UnknownType}
use Rattle.jobs.specs.Jobs.{command_of, command_type, IsTyped, root_kind, kind_of}

-- every kind of job of a root key frame writes the root key
root_type : (temporary : Bool) (counter_state : ℕ) → command_type (command_of (root_kind temporary counter_state)) ≡ 0
unfolding root_kind
root_type temporary counter_state =
    let writes : Kind → Type 0 = λ kind. command_type (command_of kind) ≡ 0 in
    either writes _ _ _ (λ _. either writes _ _ _ (λ _. refl) (λ _. refl)) (λ _. either writes _ _ _ (λ _. refl) (λ _. refl))

pub type_kept :
    (type : ℕ) (temporary : Bool) (counter_state : ℕ) → type ≤ 3 → command_type (command_of (kind_of type temporary counter_state)) ≡ type
unfolding kind_of pick
type_kept zero temporary counter_state h = root_type temporary counter_state
type_kept (suc zero) temporary counter_state h = refl
type_kept (suc (suc zero)) temporary counter_state h = refl
type_kept (suc (suc (suc zero))) temporary counter_state h = refl
type_kept (suc (suc (suc (suc n)))) temporary counter_state h = absurd (omega arith)

-- none is above 03
within : (command : Command) → command_type command ≤ 3
within WriteRootKey = omega arith
within UpdateSessionKey = omega arith
within IncrementCounter = omega arith
within RequestCounter = omega arith

-- the command of a type below 04
typed : ℕ → Command
typed zero = WriteRootKey
typed (suc zero) = UpdateSessionKey
typed (suc (suc zero)) = IncrementCounter
typed (suc (suc (suc n))) = RequestCounter

typed_back : (command : Command) → typed (command_type command) ≡ command
unfolding typed
typed_back WriteRootKey = refl
typed_back UpdateSessionKey = refl
typed_back IncrementCounter = refl
typed_back RequestCounter = refl

pub typed_one : (type : ℕ) (x y : Result Command UnknownType) → IsTyped type x → IsTyped type y → x ≡ y
typed_one type (Ok x) (Ok y) p q = ap (λ (c : Command). let r : Result Command UnknownType = Ok c in r) (sym (typed_back x) ∙ ap typed (p ∙ sym q) ∙ typed_back y)
typed_one type (Ok x) (Err y) p q = absurd (omega (arith, within x, p, q))
typed_one type (Err x) (Ok y) p q = absurd (omega (arith, within y, p, q))
typed_one type (Err x) (Err y) p q = refl
