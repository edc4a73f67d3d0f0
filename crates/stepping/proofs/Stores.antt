-- What a put and a take do to the stores: the row is added last of the target's, and no other store changes. Assumes nothing.
use mathlib.Core.Path.{◌≡◌, refl, ap}
use mathlib.Core.Bool.{Bool, true, false, cond}
use mathlib.Core.List.{List, [], ◌∷◌, ◌++◌}
use Prim.Native.Nat.{ℕ, zero, suc, ◌≤◌, ◌<◌}
use native.Mathlib.Omega.{arith}
use native.Mathlib.Nat.{le_of_suc-le-suc}
use lib.Dec.{T, leb, eqb, leb→le}
use lib.ListN.{length}
use borrow.Author.Tests.{ne_eqb, eq-eqb, leb-false}
use Rattle.words.specs.Lists.{all, insert_at}
use Rattle.words.proofs.Truth.{both_T}
use Rattle.words.proofs.First.{first_at, first_le}
use Rattle.rulebook.proofs.Owners.{Rising}
use Rattle.net.specs.Net.{row_at, store}
use Rattle.format.proofs.Rows.{row_owners}
use Rattle.stepping.specs.Step.{place_for}
use Rattle.net.specs.declared.Row.{Row}

store_none : (t y : ℕ) (l : List Row) → t < y → T (all (leb y) (row_owners l)) → store t l ≡ []
store_none t y [] h a = refl
store_none t y (x ∷ l) h a =
    let p = both_T (leb y x.owner) (all (leb y) (row_owners l)) a in
    rw (ne_eqb x.owner t (λ e. omega (arith, leb→le y x.owner p.0))) (store_none t y l h p.1)

store_last : (t p : ℕ) (x : Row) (l : List Row) → x.owner ≡ t → Rising (row_owners l) → p ≤ length l → (p < length l → t < (row_at l p).owner)
    → store t (insert_at p x l) ≡ store t l ++ (x ∷ [])
store_last t zero x [] e r b g = rw (eq-eqb x.owner t e)
store_last t zero x (y ∷ l) e r b g =
    let h = g (omega arith) in
    rw (eq-eqb x.owner t e, ne_eqb y.owner t (λ q. omega arith), store_none t y.owner l h r.0)
store_last t (suc p) x [] e r b g = rw (eq-eqb x.owner t e)
store_last t (suc p) x (y ∷ l) e r b g =
    pick (eqb y.owner t) (store_last t p x l e r.1 (le_of_suc-le-suc b) (λ h. g (omega arith)))
  where
    pick : (c : Bool) → store t (insert_at p x l) ≡ store t l ++ (x ∷ [])
        → cond c (y ∷ store t (insert_at p x l)) (store t (insert_at p x l)) ≡ cond c (y ∷ store t l) (store t l) ++ (x ∷ [])
    pick true ih = ap (λ (m : List Row). y ∷ m) ih
    pick false ih = ih

-- "the row is added last"
pub put_last : (x : Row) (l : List Row) → Rising (row_owners l) → store x.owner (insert_at (place_for x.owner l) x l) ≡ store x.owner l ++ (x ∷ [])
unfolding place_for
put_last x l r =
    store_last x.owner (place_for x.owner l) x l refl r (first_le up_to (length l))
    (λ h. omega (arith, leb-false (row_at l (place_for x.owner l)).owner x.owner (first_at up_to (length l) h)))
  where
    up_to : ℕ → Bool
    up_to k = leb (row_at l k).owner x.owner

-- and every other store stays
pub others_stay : (u p : ℕ) (x : Row) (l : List Row) → eqb x.owner u ≡ false → store u (insert_at p x l) ≡ store u l
others_stay u zero x l e = rw e
others_stay u (suc p) x [] e = rw e
others_stay u (suc p) x (y ∷ l) e = rw (others_stay u p x l e)
