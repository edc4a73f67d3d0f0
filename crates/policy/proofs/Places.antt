-- Lists gone through as the code does: by the numbers of a range, side by side, and as what is left of two lists that hand
-- a value through. Each by induction. Assumes nothing.
use mathlib.Core.Path.{◌≡◌, refl, ap}
use mathlib.Core.Bool.{Bool, false, ◌&&◌, and-false}
use mathlib.Core.List.{List, [], ◌∷◌}
use Prim.Native.Nat.{ℕ, zero, suc, ◌+◌, ◌<◌, min}
use native.Mathlib.Numerals.{add-one}
use native.Mathlib.Omega.{arith}
use lib.ListN.{length, get_or, take, drop, length-take}
use lib.Seq.{drop-cons}
use Rattle.std.specs.List.{list_all, range_with_len, zip}
use Rattle.std.proofs.lemmas.List.{take_min}
use Rattle.words.specs.Lists.{fit_all}
use Rattle.policy.specs.Match.{through}

module _ {A B : Type 0} (fit : A → B → Bool) where
  -- ---- two lists side by side
  pub zip_fits : (l : List A) (m : List B) → length l ≡ length m → list_all (λ p. fit p.0 p.1) (zip l m) ≡ fit_all fit l m
  zip_fits [] [] h = refl
  zip_fits [] (y ∷ m) h = absurd (omega (arith, h))
  zip_fits (x ∷ l) [] h = absurd (omega (arith, h))
  zip_fits (x ∷ l) (y ∷ m) h = ap (λ (b : Bool). fit x y && b) (zip_fits l m (omega (arith, h)))

  -- those of two lengths never fit
  pub fit_lengths : (l : List A) (m : List B) → (length l ≡ length m → ⊥) → fit_all fit l m ≡ false
  fit_lengths [] [] h = absurd (h refl)
  fit_lengths [] (y ∷ m) h = refl
  fit_lengths (x ∷ l) [] h = refl
  fit_lengths (x ∷ l) (y ∷ m) h = rw (fit_lengths l m (λ q. h (ap suc q))) (and-false (fit x y))

  -- the numbers from a on, in both
  module _ (d : A) (e : B) (l : List A) (m : List B) where
    pub range_fits : (test : ℕ → Bool) → ((i : ℕ) → i < length l → i < length m → test i ≡ fit (get_or l i d) (get_or m i e)) → (a n : ℕ)
        → ((i : ℕ) → i < n → (a + i < length l) × (a + i < length m)) → list_all test (range_with_len a n) ≡ fit_all fit (take n (drop a l)) (take n (drop a m))
    range_fits test same a zero h = refl
    range_fits test same a (suc n) h =
        let b : a < length l = omega (arith, (h 0 (omega arith)).0) in
        let c : a < length m = omega (arith, (h 0 (omega arith)).1) in
        rw (
          drop-cons l a d b,
          drop-cons m a e c,
          same a b c,
          range_fits test same (a + 1) n (λ i k. (omega (arith, (h (i + 1) (omega arith)).0), omega (arith, (h (i + 1) (omega arith)).1))),
          add-one a,
        )

-- ---- a value handed through two lists
module _ {A B C : Type 0} (f : A → B → C → C) where
  -- through the first of both, and then the others
  pub through_turn : {l k : List A} {m j : List B} {x : A} {y : B} {b c : C} → l ≡ x ∷ k → m ≡ y ∷ j → b ≡ f x y c → through f k j b ≡ through f l m c
  through_turn e g h = rw (e, g, h)

  -- where either has ended
  pub through_none : (l : List A) (m : List B) (c : C) → min (length l) (length m) ≡ 0 → through f l m c ≡ c
  through_none [] m c h = refl
  through_none (x ∷ l) [] c h = refl
  through_none (x ∷ l) (y ∷ m) c h = absurd (omega arith)

-- the first k of four
pub take_four : {A : Type 0} (k : ℕ) (l : List A) → length l ≡ 4 → take (min k 4) l ≡ take k l
take_four k l h = rw (← h) (take_min k l)

pub length_four : {A : Type 0} (k : ℕ) (l : List A) → length l ≡ 4 → length (take k l) ≡ min k 4
length_four k l h = rw (length-take k l, h)
