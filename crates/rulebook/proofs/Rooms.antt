-- Where owners never fall, "fewer than so many before it have its owner" is a look at one earlier record. Assumes nothing.
use mathlib.Core.Path.{◌≡◌, refl}
use mathlib.Core.Bool.{Bool, true, false, cond, not, ◌||◌}
use mathlib.Core.List.{List}
use mathlib.Core.Logic.{⊎_elim}
use Prim.Native.Nat.{ℕ, zero, suc, ◌+◌, ◌-◌, ◌*◌, ◌≤◌, ◌<◌}
use native.Mathlib.Omega.{arith}
use native.Mathlib.Nat.{le_of_suc-le-suc, not-suc-le-zero, eq-or-lt_of_le}
use lib.Dec.{ltb, eqb}
use lib.ListN.{length, get_or, take}
use borrow.Author.Tests.{ltb-true, ltb-false, lt-ltb, le-ltb, eqb-true, eqb-false}
use Rattle.rulebook.specs.Parts.{owners_in, NeverFall, room_ok}
use Rattle.rulebook.proofs.Owners.{times, times_next, owner_there, owner_is, earlier}

-- an owner is at most each one after it
up_to : (l : List ℕ) (k : ℕ) → NeverFall l k → (i j : ℕ) → i ≤ j → j ≤ k → get_or l i 0 ≤ get_or l j 0
up_to l k f i zero h b = let e : i ≡ 0 = omega arith in rw e (omega arith)
up_to l k f i (suc j) h b =
    ⊎_elim (λ e. rw e (omega arith))
    (λ g. omega (arith, up_to l k f i j (le_of_suc-le-suc g) (omega arith), f (suc j) b))
    (eq-or-lt_of_le h)

module _ (t : ℕ) (l : List ℕ) where
  -- none of them below m: at most the others; all of them from m on: at least those
  times_most : (m k : ℕ) → ((i : ℕ) → i < m → get_or l i 0 ≡ t → ⊥) → k ≤ length l → times t (take k l) ≤ k - m
  times_most m zero f h = omega arith
  times_most m (suc k) f h = rw (times_next t l k h) (pick (eqb (get_or l k 0) t) refl (ltb k m) refl (times_most m k f (omega arith)))
    where
      pick : (b : Bool) → eqb (get_or l k 0) t ≡ b → (c : Bool) → ltb k m ≡ c → times t (take k l) ≤ k - m → times t (take k l) + cond b 1 0 ≤ suc k - m
      pick true e true g ih = absurd (f k (ltb-true k m g) (eqb-true (get_or l k 0) t e))
      pick true e false g ih = omega (arith, ltb-false k m g)
      pick false e c g ih = omega arith

  times_least : (m k : ℕ) → ((i : ℕ) → m ≤ i → i < k → get_or l i 0 ≡ t) → k ≤ length l → k - m ≤ times t (take k l)
  times_least m zero f h = omega arith
  times_least m (suc k) f h =
      rw (times_next t l k h) (pick (eqb (get_or l k 0) t) refl (ltb k m) refl (times_least m k (λ i p q. f i p (omega arith)) (omega arith)))
    where
      pick : (b : Bool) → eqb (get_or l k 0) t ≡ b → (c : Bool) → ltb k m ≡ c → k - m ≤ times t (take k l) → suc k - m ≤ times t (take k l) + cond b 1 0
      pick true e c g ih = omega arith
      pick false e true g ih = omega (arith, ltb-true k m g)
      pick false e false g ih = absurd (eqb-false (get_or l k 0) t e (f k (ltb-false k m g) (omega arith)))

-- the look back
pub room_look : (limit : ℕ) (l : List ℕ) (k : ℕ) → 0 < limit → k < length l → NeverFall l k
    → room_ok limit l k ≡ (ltb k limit || not (eqb (get_or l (k - limit) 0) (get_or l k 0)))
room_look limit l k pos h good = pick (ltb k limit) (eqb (get_or l (k - limit) 0) (get_or l k 0)) refl refl
  where
    t : ℕ
    t = get_or l k 0

    up : (i j : ℕ) → i ≤ j → j ≤ k → get_or l i 0 ≤ get_or l j 0
    up = up_to l k good

    pick : (a b : Bool) → ltb k limit ≡ a → eqb (get_or l (k - limit) 0) t ≡ b → room_ok limit l k ≡ (a || not b)
    pick true b e f = lt-ltb (times t (take k l)) limit (omega (arith, ltb-true k limit e, times_most t l 0 k (λ i q. absurd (not-suc-le-zero q)) (omega arith)))
    pick false true e f =
        le-ltb (times t (take k l)) limit (omega (
          arith,
          ltb-false k limit e,
          times_least t l (k - limit) k (λ i p q.
              omega (arith, eqb-true (get_or l (k - limit) 0) t f, up (k - limit) i p (omega arith), up i k (omega arith) (omega arith))) (omega arith),
        ))
    pick false false e f =
        lt-ltb (times t (take k l)) limit (omega (
          arith,
          ltb-false k limit e,
          times_most t l (suc (k - limit)) k (λ i p q.
              eqb-false (get_or l (k - limit) 0) t f (omega (arith, up i (k - limit) (le_of_suc-le-suc p) (omega arith), up (k - limit) k (omega arith) (omega arith)))) (omega arith),
        ))

-- and of the records themselves
pub room_back : (w : ℕ) (s : List ℕ) (limit k : ℕ) → 0 < w → w * k + w ≤ length s → 0 < limit → NeverFall (owners_in w s) k
    → room_ok limit (owners_in w s) k ≡ (ltb k limit || not (eqb (get_or s (w * (k - limit)) 0) (get_or s (w * k) 0)))
room_back w s limit k p h pos good =
    rw (
      room_look limit (owners_in w s) k pos (owner_there w s k h p) good,
      owner_is w s (k - limit) (earlier w k (k - limit) (length s) (omega arith) h) p,
      owner_is w s k h p,
    )
