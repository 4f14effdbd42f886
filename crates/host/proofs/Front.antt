-- Head, data and signature stored one behind the other are a frame at the front of the output. Assumes nothing.
use Prim.Native.Nat.{ℕ, ◌+◌, ◌≤◌}
use mathlib.Core.Path.{◌≡◌, ap, ◌∙◌}
use mathlib.Core.List.{List, ◌++◌}
use native.Mathlib.Omega.{arith}
use lib.ListN.{length, take, length-append}
use Rattle.words.specs.Words.{with_bytes, with_front}
use Rattle.words.proofs.Runs.{place-append, place-front, take-front}
use Rattle.hmac.specs.Hmac.{HMAC}
use Rattle.host.specs.Frames.{signed_by}

-- one run at the front
pub one_run : (out a : List ℕ) → length a ≤ length out → with_bytes out 0 a ≡ with_front a out
unfolding with_front
one_run out a fits = place-front out a fits

-- two runs at the front
two_runs :
    (out a b o₁ o₂ : List ℕ) (n : ℕ) → length a ≡ n → n + length b ≤ length out → o₁ ≡ with_bytes out 0 a → o₂ ≡ with_bytes o₁ n b →
    o₂ ≡ with_bytes out 0 (a ++ b)
two_runs out a b o₁ o₂ n e fits p q =
    let place : 0 + n ≡ n = omega arith in
    q ∙ rw p (rw place at (place-append out 0 n a b e (omega (arith, fits))))

-- three runs at the front
pub front_three :
    (out a b s o₁ o₂ o₃ : List ℕ) (n m : ℕ) → length a ≡ n → n + length b ≡ m → m + length s ≤ length out →
    o₁ ≡ with_bytes out 0 a → o₂ ≡ with_bytes o₁ n b → o₃ ≡ with_bytes o₂ m s → o₃ ≡ with_front ((a ++ b) ++ s) out
unfolding with_front
front_three out a b s o₁ o₂ o₃ n m ea eb fits p q r =
    let size : length (a ++ b) ≡ m = length-append a b ∙ omega (arith, ea, eb) in
    let whole : length ((a ++ b) ++ s) ≤ length out = omega (arith, length-append (a ++ b) s, size, fits) in
    two_runs out (a ++ b) s o₂ o₃ m size fits (two_runs out a b o₁ o₂ n ea (omega (arith, eb, fits)) p q) r ∙ place-front out ((a ++ b) ++ s) whole

-- what is signed stands at the front of the output, and its signature is stored behind it
pub front-signed :
    (out key a b o₁ o₂ o₃ sig : List ℕ) (n m : ℕ) → length a ≡ n → n + length b ≡ m → length sig ≡ 32 → m + 32 ≤ length out →
    o₁ ≡ with_bytes out 0 a → o₂ ≡ with_bytes o₁ n b → sig ≡ HMAC key (take m o₂) → o₃ ≡ with_bytes o₂ m sig →
    o₃ ≡ with_front (signed_by key (a ++ b)) out
unfolding signed_by
front-signed out key a b o₁ o₂ o₃ sig n m ea eb es fits p q s r =
    let size : length (a ++ b) ≡ m = length-append a b ∙ omega (arith, ea, eb) in
    let body = two_runs out a b o₁ o₂ n ea (omega (arith, eb, fits)) p q in
    let signed : sig ≡ HMAC key (a ++ b) = s ∙ ap (λ (x : List ℕ). HMAC key (take m x)) body ∙ ap (HMAC key) (take-front out (a ++ b) m size (omega (arith, fits))) in
    rw (← signed) (front_three out a b sig o₁ o₂ o₃ n m ea eb (omega (arith, es, fits)) p q r)
