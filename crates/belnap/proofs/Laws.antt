-- The laws of the operators: of gather, bit by bit; and that each of the six gives a value. Assumes nothing.
use mathlib.Core.Path.{◌≡◌, refl}
use mathlib.Core.Bool.{Bool, true, false, cond, ◌&&◌}
use mathlib.Core.List.{[], ◌∷◌}
use Prim.Native.Nat.{ℕ, zero, suc, ◌/◌, ◌%◌, ◌<◌, max}
use native.Mathlib.Omega.{arith}
use lib.Dec.{T, ltb, eqb, ltb→lt, lt→ltb, leb→le, eqb→eq}
use borrow.Author.Tests.{le-ltb}
use Rattle.words.proofs.Truth.{is_T, fails, both_T, T_both, same_truth}
use Rattle.words.proofs.Lists.{all_get_d}
use Rattle.belnap.specs.Belnap.{for, against, grants, and_of, or_of, consensus_of, gather_of, implies_of, before_of, operate_of, settles}

max_assoc : (a b c : ℕ) → max (max a b) c ≡ max a (max b c)
max_assoc a b c = omega arith

gather_parts : (p q : ℕ) → (for (gather_of p q) ≡ max (for p) (for q)) × (against (gather_of p q) ≡ max (against p) (against q))
gather_parts p q = omega arith

pub gather_assoc : (p q r : ℕ) → gather_of (gather_of p q) r ≡ gather_of p (gather_of q r)
gather_assoc p q r =
    cc (
      (gather_parts p q).0,
      (gather_parts p q).1,
      (gather_parts q r).0,
      (gather_parts q r).1,
      max_assoc (p % 2) (q % 2) (r % 2),
      max_assoc (p / 2) (q / 2) (r / 2),
    )

pub gather_comm : (p q : ℕ) → gather_of p q ≡ gather_of q p
gather_comm p q = omega arith

pub gather_self : (p : ℕ) → gather_of p p ≡ p
gather_self p = omega arith

pub gather_unit : (p : ℕ) → (gather_of 0 p ≡ p) × (gather_of p 0 ≡ p)
gather_unit p = omega arith

pub gather_lt : (p q : ℕ) → p < 4 → q < 4 → gather_of p q < 4
gather_lt p q hp hq = omega arith

-- what grants gathered with anything grants alone: gathering never turns a value that does not grant into one that does
pub gather_grants : (p q : ℕ) → T (grants (gather_of p q)) → T (grants p) × T (grants q)
gather_grants p q t =
    let h = ltb→lt (gather_of p q) 2 t in
    (lt→ltb p 2 (omega arith), lt→ltb q 2 (omega arith))

pub gather_both : (p q : ℕ) → T (grants p) → T (grants q) → T (grants (gather_of p q))
gather_both p q s t =
    let h = ltb→lt p 2 s in
    let k = ltb→lt q 2 t in
    lt→ltb (gather_of p q) 2 (omega arith)

-- what is gathered grants exactly if each part does
pub grants_gather : (p q : ℕ) → grants (gather_of p q) ≡ (grants p && grants q)
grants_gather p q =
    same_truth (grants (gather_of p q)) (grants p && grants q) (λ t. let h = gather_grants p q t in T_both (grants p) (grants q) h.0 h.1)
    (λ t. let h = both_T (grants p) (grants q) t in gather_both p q h.0 h.1)

-- ---- each operator gives a value
pub either_lt : (b : Bool) (p q : ℕ) → p < 4 → q < 4 → cond b p q < 4
either_lt true p q h g = h
either_lt false p q h g = g

pub operate_lt : (k p q : ℕ) → p < 4 → q < 4 → operate_of k p q < 4
unfolding operate_of
operate_lt k p q h g =
    ltb→lt (operate_of k p q) 4
    (all_get_d (λ v. ltb v 4) (and_of p q ∷ or_of p q ∷ consensus_of p q ∷ gather_of p q ∷ implies_of p q ∷ before_of p q ∷ []) k 0
    (T_both (ltb (and_of p q) 4) _ (lt→ltb (and_of p q) 4 (omega arith))
    (T_both (ltb (or_of p q) 4) _ (lt→ltb (or_of p q) 4 (omega arith))
    (T_both (ltb (consensus_of p q) 4) _ (lt→ltb (consensus_of p q) 4 (omega arith))
    (T_both (ltb (gather_of p q) 4) _ (lt→ltb (gather_of p q) 4 (omega arith))
    (T_both (ltb (implies_of p q) 4) _ (lt→ltb (implies_of p q) 4 (either_lt (grants p) q 1 g (omega arith)))
    (T_both (ltb (before_of p q) 4) _ (lt→ltb (before_of p q) 4 (either_lt (eqb p 0) q p g h)) tt)))))) tt)

-- ---- where the first value decides, the second may be any
pub settles_any : (k p q : ℕ) → p < 4 → q < 4 → settles k p ≡ true → operate_of k p q ≡ operate_of k p p
unfolding settles operate_of
settles_any zero p q h g e = let v = eqb→eq p 2 (is_T _ e) in omega arith
settles_any (suc zero) p q h g e = let v = eqb→eq p 1 (is_T _ e) in omega arith
settles_any (suc (suc zero)) p q h g e = let v = eqb→eq p 0 (is_T _ e) in omega arith
settles_any (suc (suc (suc zero))) p q h g e = let v = eqb→eq p 3 (is_T _ e) in omega arith
settles_any (suc (suc (suc (suc zero)))) p q h g e = let l = leb→le 2 p (is_T _ e) in rw (le-ltb p 2 l)
settles_any (suc (suc (suc (suc (suc zero))))) p q h g e = let f : eqb p 0 ≡ false = fails refl e in rw f
settles_any (suc (suc (suc (suc (suc (suc k)))))) p q h g e = refl
