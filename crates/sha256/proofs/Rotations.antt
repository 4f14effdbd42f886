-- Rotations compose by adding their places, and a rotation of an xor is the xor of the rotations: a rotation exchanges the
-- high and the low part of a word. Assumes nothing.
use Rattle.std.proofs.Common.{◌≡◌, ℕ, ◌+◌, ◌-◌, ◌*◌, ◌/◌, ◌%◌, ◌^◌, ◌<◌, ◌≤◌, sym, ap, ◌∙◌, subst, add_assoc, mod-lt, mul_assoc, add-mul, add_comm, arith, pow_pos, pow-add, shl_lt, shr-shr, shr_lt}
use lib.Pow.{split, high, low}
use lib.Arith.{digits_lt}
use lib.Bits.{bit_or, bit_xor, xor_block, or_shifted_r, xor_lt}
use Rattle.sha256.specs.Functions.{ROTR}

-- a word of m + n bits, rotated right by n places; at m + n = 32 this is ROTR n
abbrev pub turn : ℕ → ℕ → ℕ → ℕ
turn m n x = bit_or (x / 2 ^ n) (x * 2 ^ m % 2 ^ (m + n))

module _ (m n : ℕ) where
  shifted : (a b : ℕ) → (a * 2 ^ n + b) * 2 ^ m ≡ a * 2 ^ (m + n) + b * 2 ^ m
  shifted a b = rw (add-mul (a * 2 ^ n) b (2 ^ m), mul_assoc a (2 ^ n) (2 ^ m), add_comm m n, pow-add 2 n m)

  above : (b : ℕ) → b < 2 ^ n → b * 2 ^ m < 2 ^ (m + n)
  above b hb = rw (add_comm m n) (shl_lt n m hb)

  -- what lies below place n goes on top
  turn_parts : (a b : ℕ) → a < 2 ^ m → b < 2 ^ n → turn m n (a * 2 ^ n + b) ≡ b * 2 ^ m + a
  turn_parts a b ha hb =
      ap (λ (x : ℕ). bit_or x ((a * 2 ^ n + b) * 2 ^ m % 2 ^ (m + n))) (high a n hb)
      ∙ ap (bit_or a) (ap (λ (x : ℕ). x % 2 ^ (m + n)) (shifted a b) ∙ low a (m + n) (above b hb))
      ∙ or_shifted_r b m a ha

  turn_of : (x : ℕ) → x < 2 ^ (m + n) → turn m n x ≡ x % 2 ^ n * 2 ^ m + x / 2 ^ n
  turn_of x hx = ap (turn m n) (sym (split x n)) ∙ turn_parts (x / 2 ^ n) (x % 2 ^ n) (shr_lt m n hx) (mod-lt x (pow_pos n))

  pub turn_lt : (x : ℕ) → x < 2 ^ (m + n) → turn m n x < 2 ^ (m + n)
  turn_lt x hx = rw (turn_of x hx, add_comm m n, pow-add 2 n m) (digits_lt (mod-lt x (pow_pos n)) (shr_lt m n hx))

  pub turn-xor : (x y : ℕ) → x < 2 ^ (m + n) → y < 2 ^ (m + n) → turn m n (bit_xor x y) ≡ bit_xor (turn m n x) (turn m n y)
  turn-xor x y hx hy =
      let a : x / 2 ^ n < 2 ^ m = shr_lt m n hx in
      let c : y / 2 ^ n < 2 ^ m = shr_lt m n hy in
      let b : x % 2 ^ n < 2 ^ n = mod-lt x (pow_pos n) in
      let d : y % 2 ^ n < 2 ^ n = mod-lt y (pow_pos n) in
      ap (turn m n) (ap (λ (v : ℕ). bit_xor v y) (sym (split x n)) ∙ ap (bit_xor (x / 2 ^ n * 2 ^ n + x % 2 ^ n)) (sym (split y n)) ∙ xor_block n _ _ _ _ b d)
      ∙ turn_parts _ _ (xor_lt m _ _ a c) (xor_lt n _ _ b d)
      ∙ sym (ap (λ (v : ℕ). bit_xor v (turn m n y)) (turn_of x hx) ∙ ap (bit_xor (x % 2 ^ n * 2 ^ m + x / 2 ^ n)) (turn_of y hy) ∙ xor_block m _ _ _ _ a c)

-- q above s bits, and that above t bits
nested : (s t q r u : ℕ) → (q * 2 ^ s + r) * 2 ^ t + u ≡ q * 2 ^ (t + s) + (r * 2 ^ t + u)
nested s t q r u =
    rw (add-mul (q * 2 ^ s) r (2 ^ t), mul_assoc q (2 ^ s) (2 ^ t), ← pow-add 2 s t, add_comm s t, add_assoc (q * 2 ^ (t + s)) (r * 2 ^ t) u)

nested_lt : (s t : ℕ) {q r : ℕ} → q < 2 ^ s → r < 2 ^ t → q * 2 ^ t + r < 2 ^ (t + s)
nested_lt s t hq hr = rw (add_comm t s, pow-add 2 s t) (digits_lt hq hr)

module _ (i j p : ℕ) where
  -- of the three parts of a word, of p, j and i bits from the top, each rotation moves one
  turn_turn_parts :
      (a b c : ℕ) → a < 2 ^ p → b < 2 ^ j → c < 2 ^ i →
      turn (p + i) j (turn (j + p) i ((a * 2 ^ j + b) * 2 ^ i + c)) ≡ turn p (i + j) ((a * 2 ^ j + b) * 2 ^ i + c)
  turn_turn_parts a b c ha hb hc =
      ap (turn (p + i) j) (turn_parts (j + p) i (a * 2 ^ j + b) c (nested_lt p j ha hb) hc ∙ sym (nested p j c a b))
      ∙ turn_parts (p + i) j (c * 2 ^ p + a) b (nested_lt i p hc ha) hb
      ∙ sym (nested i p b c a)
      ∙ sym (ap (turn p (i + j)) (nested j i a b c) ∙ turn_parts p (i + j) a (b * 2 ^ i + c) ha (nested_lt j i hb hc))

  -- a rotation by i places and then by j is one by i + j
  pub turn-turn : (x : ℕ) → x < 2 ^ (p + (i + j)) → turn (p + i) j (turn (j + p) i x) ≡ turn p (i + j) x
  turn-turn x hx =
      rw (← split x i, ← split (x / 2 ^ i) j)
      (turn_turn_parts _ _ _ (rw (shr-shr x i j) (shr_lt p (i + j) hx)) (mod-lt (x / 2 ^ i) (pow_pos j)) (mod-lt x (pow_pos i)))

-- The same of ROTR, at 32 bits.

as_turn : (m n x : ℕ) → m + n ≡ 32 → ROTR n x ≡ turn m n x
as_turn m n x e =
    let k : 32 - n ≡ m = omega arith in
    ap (λ (k : ℕ). bit_or (x / 2 ^ n) (x * 2 ^ k % 2 ^ 32)) k ∙ ap (λ (w : ℕ). bit_or (x / 2 ^ n) (x * 2 ^ m % 2 ^ w)) (sym e)

ROTR_lt : (n x : ℕ) → n ≤ 32 → x < 2 ^ 32 → ROTR n x < 2 ^ 32
ROTR_lt n x hn hx =
    let e : 32 - n + n ≡ 32 = omega arith in
    subst (λ (r : ℕ). r < 2 ^ 32) (sym (as_turn (32 - n) n x e)) (subst (λ (w : ℕ). turn (32 - n) n x < 2 ^ w) e (turn_lt (32 - n) n x (subst (λ (w : ℕ). x < 2 ^ w) (sym e) hx)))

ROTR-xor : (n x y : ℕ) → n ≤ 32 → x < 2 ^ 32 → y < 2 ^ 32 → ROTR n (bit_xor x y) ≡ bit_xor (ROTR n x) (ROTR n y)
ROTR-xor n x y hn hx hy =
    let e : 32 - n + n ≡ 32 = omega arith in
    as_turn (32 - n) n (bit_xor x y) e
    ∙ turn-xor (32 - n) n x y (subst (λ (w : ℕ). x < 2 ^ w) (sym e) hx) (subst (λ (w : ℕ). y < 2 ^ w) (sym e) hy)
    ∙ sym (ap (λ (v : ℕ). bit_xor v (ROTR n y)) (as_turn (32 - n) n x e) ∙ ap (bit_xor (turn (32 - n) n x)) (as_turn (32 - n) n y e))

ROTR-ROTR : (i j x : ℕ) → i + j ≤ 32 → x < 2 ^ 32 → ROTR j (ROTR i x) ≡ ROTR (i + j) x
ROTR-ROTR i j x h hx =
    let p : 32 - (i + j) + (i + j) ≡ 32 = omega arith in
    let first : j + (32 - (i + j)) + i ≡ 32 = omega arith in
    let second : 32 - (i + j) + i + j ≡ 32 = omega arith in
    ap (ROTR j) (as_turn (j + (32 - (i + j))) i x first)
    ∙ as_turn (32 - (i + j) + i) j _ second
    ∙ turn-turn i j (32 - (i + j)) x (subst (λ (w : ℕ). x < 2 ^ w) (sym p) hx)
    ∙ sym (as_turn (32 - (i + j)) (i + j) x p)

-- the code's form of Σ0 and Σ1: one rotation of the whole, by the places that the three rotations share
pub shared_rotation :
    (i j k x : ℕ) → j + i ≤ 32 → k + i ≤ 32 → x < 2 ^ 32 →
    ROTR i (bit_xor (bit_xor x (ROTR j x)) (ROTR k x)) ≡ bit_xor (bit_xor (ROTR i x) (ROTR (j + i) x)) (ROTR (k + i) x)
shared_rotation i j k x hj hk hx =
    let rj : ROTR j x < 2 ^ 32 = ROTR_lt j x (omega arith) hx in
    let rk : ROTR k x < 2 ^ 32 = ROTR_lt k x (omega arith) hx in
    ROTR-xor i _ _ (omega arith) (xor_lt 32 x _ hx rj) rk
    ∙ rw (ROTR-xor i x (ROTR j x) (omega arith) hx rj, ROTR-ROTR j i x hj hx, ROTR-ROTR k i x hk hx)
