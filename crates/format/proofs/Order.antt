-- Owners that never fall, record by record, as an order of the list. Assumes nothing.
use mathlib.Core.Path.{◌≡◌, sym, ap, ◌∙◌}
use mathlib.Core.Bool.{Bool, true}
use mathlib.Core.List.{List, map}
use Prim.Native.Nat.{ℕ, suc, ◌≤◌, ◌<◌}
use native.Mathlib.Omega.{arith}
use lib.Dec.{T, ltb, leb→le}
use lib.ListN.{length, get_or, get_or-map}
use Rattle.words.specs.Lists.{first_bad, before}
use Rattle.words.proofs.Truth.{both_T}
use Rattle.words.proofs.First.{first_below}
use Rattle.words.proofs.Groups.{Sorted, sorted_of}
use Rattle.rulebook.specs.Parts.{owner_ok}

-- where the records before record k are good, their owners never fall
pub never_fell : (sites : ℕ) (owners : List ℕ) (k : ℕ) (ok : ℕ → Bool) → ((j : ℕ) → ok j ≡ true → T (owner_ok sites owners j)) → first_bad ok k ≡ k
    → (j : ℕ) → j < k → before owners j ≤ get_or owners j 0
never_fell sites owners k ok good e j h =
    leb→le (before owners j) (get_or owners j 0) (both_T (ltb (get_or owners j 0) sites) _ (good j (first_below ok k j (rw e h)))).1

module _ {A : Type 0} (owner : A → ℕ) (d : A) (none : owner d ≡ 0) where
  pub owner_of : (l : List A) (k : ℕ) → get_or (map owner l) k 0 ≡ owner (get_or l k d)
  owner_of l k = ap (λ (z : ℕ). get_or (map owner l) k z) (sym none) ∙ get_or-map owner l k d

  -- good owners are in order
  pub sorted_owners : (sites : ℕ) (l : List A) → ((k : ℕ) → k < length l → T (owner_ok sites (map owner l) k)) → Sorted owner d l
  sorted_owners sites l f =
      sorted_of owner d l (λ k h.
      let e = leb→le (get_or (map owner l) k 0) (get_or (map owner l) (suc k) 0) (both_T (ltb (get_or (map owner l) (suc k) 0) sites) _ (f (suc k) h)).1 in
      omega (arith, owner_of l k, owner_of l (suc k)))
