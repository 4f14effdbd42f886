-- One of two, by a test. Assumes nothing.
use Rattle.std.specs.Prelude.{ℕ, Bool, true, false, eqb}

-- the first where the test holds, else the second
unfoldable pub pick : {A : Type 0} → Bool → A → A → A
pick true a b = a
pick false a b = b

-- the first of two numbers that is not 0: a status, or that of the checks after it; a refusal, or that of the tests after it
abbrev pub or_else : ℕ → ℕ → ℕ
or_else first second = pick (eqb first 0) second first
