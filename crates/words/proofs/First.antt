-- The first number at which a test fails, and at which one holds: by going up one number at a time, as the definition and each loop do.
-- Assumes nothing.
use Rattle.std.specs.Prelude.{Option, None, Some, MatchOption}
use Rattle.std.specs.Option.{unwrap_or}
use mathlib.Core.Path.{◌≡◌, refl, sym, ap, ◌∙◌}
use mathlib.Core.Bool.{Bool, true, false, cond, not}
use mathlib.Core.Logic.{⊎_elim}
use Prim.Native.Nat.{ℕ, zero, suc, ◌+◌, ◌≤◌, ◌<◌, zero-le}
use native.Mathlib.Omega.{arith}
use native.Mathlib.Nat.{le_refl, eq-or-lt_of_le, le_of_suc-le-suc, not-suc-le-zero}
use native.Mathlib.Numerals.{add-one}
use native.Mathlib.Decide.{le_ind}
use lib.Dec.{T, ltb, eqb→eq, eqb_refl}
use borrow.Author.Tests.{lt-ltb, le-ltb, ltb-true, ltb-false, not-false, eq-eqb}
use Rattle.words.specs.Lists.{first_bad, every, first, first_failing}
use Rattle.words.proofs.Truth.{no, is_T}

module _ (ok : ℕ → Bool) where
  -- nothing below 0
  pub first_none : first_bad ok 0 ≡ 0
  unfolding first_bad
  first_none = refl

  -- good up to i and at i: good up to i + 1
  pub first_more : (i : ℕ) → first_bad ok i ≡ i → ok i ≡ true → first_bad ok (i + 1) ≡ i + 1
  unfolding first_bad
  first_more i e t = rw (add-one i) (simp (e, le-ltb i i (le_refl i), t))

  -- good up to i and bad at i: i is the first, however many there are
  pub first_stops : (i n : ℕ) → first_bad ok i ≡ i → ok i ≡ false → i < n → first_bad ok n ≡ i
  unfolding first_bad
  first_stops i n e b h =
      le_ind (λ (m : ℕ). first_bad ok m ≡ i) (simp (e, le-ltb i i (le_refl i), b)) (λ m l q. simp (q, lt-ltb i m l)) n h

  pub first_le : (n : ℕ) → first_bad ok n ≤ n
  unfolding first_bad
  first_le zero = zero-le
  first_le (suc n) = step (first_bad ok n) n (ltb (first_bad ok n) n) (ok n) (first_le n)
    where
      step : (f n : ℕ) (a b : Bool) → f ≤ n → cond a f (cond b (suc n) n) ≤ suc n
      step f n true b h = omega arith
      step f n false true h = le_refl (suc n)
      step f n false false h = omega arith

  -- the test holds below it
  below_more : (n k : ℕ) → ((j : ℕ) → j < first_bad ok n → ok j ≡ true) → first_bad ok n ≤ n
      → (a : Bool) → ltb (first_bad ok n) n ≡ a → (b : Bool) → ok n ≡ b → k < cond a (first_bad ok n) (cond b (suc n) n) → ok k ≡ true
  below_more n k ih l true e b f h = ih k h
  below_more n k ih l false e true f h =
      let g = ltb-false (first_bad ok n) n e in
      ⊎_elim (λ q. ap ok q ∙ f) (λ q. ih k (omega arith)) (eq-or-lt_of_le (le_of_suc-le-suc h))
  below_more n k ih l false e false f h = let g = ltb-false (first_bad ok n) n e in ih k (omega arith)

  pub first_below : (n k : ℕ) → k < first_bad ok n → ok k ≡ true
  unfolding first_bad
  first_below zero k h = absurd (not-suc-le-zero h)
  first_below (suc n) k h = below_more n k (first_below n) (first_le n) (ltb (first_bad ok n) n) refl (ok n) refl h

  -- and fails at it
  at_more : (n : ℕ) → (first_bad ok n < n → ok (first_bad ok n) ≡ false)
      → (a : Bool) → ltb (first_bad ok n) n ≡ a → (b : Bool) → ok n ≡ b
      → cond a (first_bad ok n) (cond b (suc n) n) < suc n → ok (cond a (first_bad ok n) (cond b (suc n) n)) ≡ false
  at_more n ih true e b f h = ih (ltb-true (first_bad ok n) n e)
  at_more n ih false e true f h = absurd (let z : ⊥ = omega arith in z)
  at_more n ih false e false f h = f

  pub first_at : (n : ℕ) → first_bad ok n < n → ok (first_bad ok n) ≡ false
  unfolding first_bad
  first_at zero h = absurd (not-suc-le-zero h)
  first_at (suc n) h = at_more n (first_at n) (ltb (first_bad ok n) n) refl (ok n) refl h

  pub every_at : (n : ℕ) → T (every ok n) → (k : ℕ) → k < n → ok k ≡ true
  every_at n t k h = let e = eqb→eq (first_bad ok n) n t in first_below n k (omega arith)

  pub every_of : (n : ℕ) → ((k : ℕ) → k < n → ok k ≡ true) → T (every ok n)
  every_of n f =
      ⊎_elim {C = T (every ok n)} (λ e. rw e (eqb_refl n)) (λ h. no (let p = first_at n h in let q = f (first_bad ok n) h in cc)) (eq-or-lt_of_le (first_le n))

-- ---- the first good
pub found_at : (ok : ℕ → Bool) (n k : ℕ) → first ok n ≡ Some k → (k < n) × (ok k ≡ true)
unfolding first
found_at ok n k e = pick (first_bad bad n) (ltb (first_bad bad n) n) refl (first_at bad n) e
  where
    bad : ℕ → Bool
    bad j = not (ok j)

    pick : (f : ℕ) (b : Bool) → ltb f n ≡ b → (f < n → not (ok f) ≡ false) → cond b (Some f) None ≡ Some k → (k < n) × (ok k ≡ true)
    pick f true p g e =
        let h : f ≡ k = cc in
        let l = ltb-true f n p in
        rw (← h) (l, not-false (ok f) (g l))
    pick f false p g e = no (cc)

-- none before i is good, and i is: i is the first
pub found_here : (ok : ℕ → Bool) (i n : ℕ) → first_bad (λ j. not (ok j)) i ≡ i → ok i ≡ true → i < n → first ok n ≡ Some i
unfolding first
found_here ok i n e t h = rw (first_stops (λ j. not (ok j)) i n e (ap not t) h, lt-ltb i n h)

-- none is good
pub found_none : (ok : ℕ → Bool) (n : ℕ) → first_bad (λ j. not (ok j)) n ≡ n → first ok n ≡ None
unfolding first
found_none ok n e = rw (e, le-ltb n n (le_refl n))

-- ---- the first bad, where there is one
pub failing_none : (ok : ℕ → Bool) (n : ℕ) → first_bad ok n ≡ n → first_failing ok n ≡ None
failing_none ok n e = rw (e, le-ltb n n (le_refl n))

-- good up to k and bad at k: k is the first
pub failing_here : (ok : ℕ → Bool) (k n : ℕ) → first_bad ok k ≡ k → ok k ≡ false → k < n → first_failing ok n ≡ Some k
failing_here ok k n e b h = rw (first_stops ok k n e b h, lt-ltb k n h)

-- the first that fails is below n and fails, and all before it are good
pub failing_at : (ok : ℕ → Bool) (n k : ℕ) → first_failing ok n ≡ Some k → (k < n) × (ok k ≡ false) × (first_bad ok n ≡ k)
failing_at ok n k e = pick (first_bad ok n) (ltb (first_bad ok n) n) refl (first_at ok n) e
  where
    pick : (f : ℕ) (b : Bool) → ltb f n ≡ b → (f < n → ok f ≡ false) → cond b (Some f) None ≡ Some k → (k < n) × (ok k ≡ false) × (f ≡ k)
    pick f true p g e =
        let h : f ≡ k = cc in
        let l = ltb-true f n p in
        rw (← h) (l, g l, refl)
    pick f false p g e = no (cc)

-- where none is found to fail, all are good
pub failing_nowhere : (ok : ℕ → Bool) (n : ℕ) → first_failing ok n ≡ None → T (every ok n)
failing_nowhere ok n e = pick (ltb (first_bad ok n) n) refl e
  where
    pick : (b : Bool) → ltb (first_bad ok n) n ≡ b → cond b (Some (first_bad ok n)) None ≡ None → T (every ok n)
    pick true p e = no (cc)
    pick false p e = is_T _ (eq-eqb (first_bad ok n) n (let l = ltb-false (first_bad ok n) n p in let m = first_le ok n in omega arith))

-- good below k, and bad at k if there is a k: k is the first
pub first_is : (ok : ℕ → Bool) (n k : ℕ) → k ≤ n → ((j : ℕ) → j < k → ok j ≡ true) → (k < n → ok k ≡ false) → first_bad ok n ≡ k
first_is ok n k h below at =
    let e = eqb→eq (first_bad ok k) k (every_of ok k below) in
    ⊎_elim (λ q. ap (first_bad ok) (sym q) ∙ e ∙ refl) (λ l. first_stops ok k n e (at l) l) (eq-or-lt_of_le h)

-- below a, or from it on
either_side : {P : Type 0} (k a : ℕ) → (k < a → P) → (a ≤ k → P) → P
either_side {P} k a f g = pick (ltb k a) refl
  where
    pick : (b : Bool) → ltb k a ≡ b → P
    pick true e = f (ltb-true k a e)
    pick false e = g (ltb-false k a e)

-- what a search from a on found, or else its end b, where what it seeks isn't before a: it isn't before that, and is there if that isn't the end
pub first_from : (No Yes : ℕ → Type 0) (a b : ℕ) (r : Option ℕ) → a ≤ b → ((k : ℕ) → k < a → No k)
    → MatchOption r ((k : ℕ) → a ≤ k → k < b → No k) (λ i. (a ≤ i) × (i < b) × Yes i × ((k : ℕ) → a ≤ k → k < i → No k))
    → (unwrap_or r b ≤ b) × ((k : ℕ) → k < unwrap_or r b → No k) × (unwrap_or r b < b → Yes (unwrap_or r b))
first_from No Yes a b None h f m = (le_refl b, λ k l. either_side k a (f k) (λ g. m k g l), λ l. absurd (let z : ⊥ = omega arith in z))
first_from No Yes a b (Some i) h f m = let q = m.1 in (omega arith, λ k l. either_side k a (f k) (λ g. m.3 k g l), λ l. m.2)

-- two tests that agree below n have one first
pub first_same : (f g : ℕ → Bool) (n : ℕ) → ((k : ℕ) → k < n → f k ≡ g k) → first_bad f n ≡ first_bad g n
unfolding first_bad
first_same f g zero e = refl
first_same f g (suc n) e = rw (first_same f g n (λ k h. e k (omega arith)), e n (le_refl (suc n)))
