-- The records of one owner, in a body whose owners never fall: the stretch between the two places that a search by halving finds.
-- Assumes nothing.
use mathlib.Core.Path.{◌≡◌}
use mathlib.Core.List.{List}
use Prim.Native.Nat.{ℕ, suc, ◌+◌, ◌-◌, ◌/◌, ◌≤◌}
use native.Mathlib.Omega.{arith}
use native.Mathlib.Numerals.{add-one}
use lib.Dec.{eqb}
use lib.ListN.{length, get_or, take, drop}
use Rattle.words.specs.Lists.{those}
use Rattle.words.specs.Tables.{table_of, Ordered, count_below}
use Rattle.words.proofs.Tables.{table_length}
use Rattle.words.proofs.Groups.{Sorted, below, low-high, high-length, group, table_below, table_sorted}
use Rattle.policy.specs.Owners.{Grouped}

-- records that are read with their owner from the first byte
module _ {A : Type 0} (read : List ℕ → ℕ → A) (owner : A → ℕ) (d : A) (front : (s : List ℕ) (i : ℕ) → owner (read s i) ≡ get_or s i 0) (w : ℕ) (s : List ℕ)
    (order : Ordered w s) where
  abbrev records : List A
  records = table_of read w s

  sorted : Sorted owner d records
  sorted = table_sorted owner d read front w s order

  count_is : (t : ℕ) → count_below s w (length s / w) t ≡ below owner d records t
  count_is = table_below owner d read front w s

  -- the two places are in order
  pub owned_inside : (t : ℕ) → (count_below s w (length s / w) t ≤ count_below s w (length s / w) (t + 1)) × (count_below s w (length s / w) (t + 1) ≤ length s / w)
  owned_inside t = rw (add-one t, count_is t, count_is (suc t)) (low-high owner d records sorted t, rw (← table_length read w s) (high-length owner d records sorted t))

  -- and between them stand the records of the owner
  pub owned : (t first count : ℕ) → Grouped w s t first count → those (λ x. eqb (owner x) t) records ≡ take count (drop first records)
  owned t first count g =
      let e : count ≡ below owner d records (suc t) - below owner d records t = rw (← count_is t, ← count_is (suc t), ← add-one t)
      (let p = g.start in let q = g.end in omega arith) in
      rw (e, g.start, count_is t) (group owner d records sorted t)
