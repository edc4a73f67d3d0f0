-- Sets as numbers, a bit for each element: what is in a union and in a common part, and that sets with the same elements are one. Each is
-- shown of the lowest bit, and the others are bits of the half. Assumes nothing.
use mathlib.Core.Path.{◌≡◌, refl, sym, ap, ◌∙◌}
use mathlib.Core.Bool.{Bool, true, false, ◌&&◌, ◌||◌}
use Prim.Native.Nat.{ℕ, zero, suc, ◌*◌, ◌/◌, ◌%◌, ◌^◌, ◌<◌, max, min}
use native.Mathlib.Nat.{pow-suc, pow-succ', div-div-eq-div-mul, zero-div}
use native.Mathlib.Omega.{arith}
use lib.Dec.{eqb}
use lib.Bits.{bit_and, bit_or, and_step, or_step, and_shr, or_shr}
use borrow.Author.Tests.{eqb-true, eqb-false, eq-eqb, ne_eqb}
use Rattle.format.specs.Steps.{in_set}

-- ---- the lowest bit
bit_or_lem : (p q : ℕ) → p < 2 → q < 2 → eqb (max p q) 1 ≡ (eqb p 1 || eqb q 1)
bit_or_lem zero zero h g = refl
bit_or_lem zero (suc zero) h g = refl
bit_or_lem zero (suc (suc q)) h g = absurd (let z : ⊥ = omega arith in z)
bit_or_lem (suc zero) zero h g = refl
bit_or_lem (suc zero) (suc zero) h g = refl
bit_or_lem (suc zero) (suc (suc q)) h g = absurd (let z : ⊥ = omega arith in z)
bit_or_lem (suc (suc p)) q h g = absurd (let z : ⊥ = omega arith in z)

bit_and_lem : (p q : ℕ) → p < 2 → q < 2 → eqb (min p q) 1 ≡ (eqb p 1 && eqb q 1)
bit_and_lem zero zero h g = refl
bit_and_lem zero (suc zero) h g = refl
bit_and_lem zero (suc (suc q)) h g = absurd (let z : ⊥ = omega arith in z)
bit_and_lem (suc zero) zero h g = refl
bit_and_lem (suc zero) (suc zero) h g = refl
bit_and_lem (suc zero) (suc (suc q)) h g = absurd (let z : ⊥ = omega arith in z)
bit_and_lem (suc (suc p)) q h g = absurd (let z : ⊥ = omega arith in z)

bit_same : (p q : ℕ) → p < 2 → q < 2 → eqb p 1 ≡ eqb q 1 → p ≡ q
bit_same zero zero h g e = refl
bit_same zero (suc zero) h g e = let z : true ≡ false = sym e in cc
bit_same zero (suc (suc q)) h g e = absurd (let z : ⊥ = omega arith in z)
bit_same (suc zero) zero h g e = let z : true ≡ false = e in cc
bit_same (suc zero) (suc zero) h g e = refl
bit_same (suc zero) (suc (suc q)) h g e = absurd (let z : ⊥ = omega arith in z)
bit_same (suc (suc p)) q h g e = absurd (let z : ⊥ = omega arith in z)

-- ---- any bit
pub in_or : (a b v : ℕ) → in_set (bit_or a b) v ≡ (in_set a v || in_set b v)
in_or a b v =
    let x = a / 2 ^ v in
    let y = b / 2 ^ v in
    let e : bit_or x y % 2 ≡ max (x % 2) (y % 2) = omega (arith, or_step x y) in
    rw (or_shr a b v, e) (bit_or_lem (x % 2) (y % 2) (omega arith) (omega arith))

pub in_and : (a b v : ℕ) → in_set (bit_and a b) v ≡ (in_set a v && in_set b v)
in_and a b v =
    let x = a / 2 ^ v in
    let y = b / 2 ^ v in
    let e : bit_and x y % 2 ≡ min (x % 2) (y % 2) = omega (arith, and_step x y) in
    rw (and_shr a b v, e) (bit_and_lem (x % 2) (y % 2) (omega arith) (omega arith))

-- the bits of the half
half : (m v : ℕ) → in_set m (suc v) ≡ in_set (m / 2) v
half m v = ap (λ (n : ℕ). eqb (n % 2) 1) (ap (λ (n : ℕ). m / n) (pow-succ' 2 v) ∙ sym (div-div-eq-div-mul m 2 (2 ^ v)))

pub in_none : (v : ℕ) → in_set 0 v ≡ false
in_none v = rw (zero-div (2 ^ v))

-- one element
next_same : (u v : ℕ) → eqb u v ≡ eqb (suc u) (suc v)
next_same u v = pick (eqb u v) refl
  where
    pick : (b : Bool) → eqb u v ≡ b → b ≡ eqb (suc u) (suc v)
    pick true e = sym (eq-eqb (suc u) (suc v) (ap suc (eqb-true u v e)))
    pick false e = sym (ne_eqb (suc u) (suc v) (λ z. eqb-false u v e (omega arith)))

pub in_one : (u v : ℕ) → in_set (2 ^ u) v ≡ eqb u v
in_one zero zero = refl
in_one (suc u) zero = rw (pow-succ' 2 u) (ne_eqb (2 * 2 ^ u / 1 % 2) 1 (λ z. omega arith) ∙ sym (ne_eqb (suc u) 0 (λ z. omega arith)))
in_one zero (suc v) = half 1 v ∙ in_none v ∙ sym (ne_eqb 0 (suc v) (λ z. omega arith))
in_one (suc u) (suc v) =
    let e : 2 ^ suc u / 2 ≡ 2 ^ u = omega (arith, pow-succ' 2 u) in
    half (2 ^ suc u) v ∙ ap (λ (n : ℕ). in_set n v) e ∙ in_one u v ∙ next_same u v

-- the same elements: one set
pub same_set : (k a b : ℕ) → a < 2 ^ k → b < 2 ^ k → ((v : ℕ) → v < k → in_set a v ≡ in_set b v) → a ≡ b
same_set zero a b h g e = omega arith
same_set (suc k) a b h g e =
    let low = bit_same (a / 1 % 2) (b / 1 % 2) (omega arith) (omega arith) (e 0 (omega arith)) in
    let high = same_set k (a / 2) (b / 2) (omega (arith, pow-suc 2 k)) (omega (arith, pow-suc 2 k)) (λ v l. sym (half a v) ∙ e (suc v) (omega arith) ∙ half b v) in
    omega arith
