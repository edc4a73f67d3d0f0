-- The rows of a well-formed net: owners in order, each row good by itself; a row put in its place or taken out keeps it so. Assumes nothing.
use mathlib.Core.Bool.{Bool}
use mathlib.Core.List.{List, [], ◌∷◌, map}
use Prim.Native.Nat.{ℕ, ◌≤◌, ◌<◌}
use native.Mathlib.Omega.{arith}
use lib.Dec.{T, leb, eqb}
use lib.ListN.{length, length-map, get_or-map}
use borrow.Author.Tests.{leb-true, leb-false}
use Rattle.words.specs.Lists.{first_bad, every, all_of, all, insert_at, remove_at}
use Rattle.words.proofs.Truth.{part, joined, ◌also◌, is_T, T_is}
use Rattle.words.proofs.First.{first_below, first_at, every_at, every_of}
use Rattle.words.proofs.Lists.{all_at, all_of_lem, all_weaken, all_insert, all_remove, map-insert, map-remove, count_map}
use Rattle.net.specs.Records.{no_row, row_fits}
use Rattle.net.specs.Net.{most_sites, most_rows, store_limit, row_at, held}
use Rattle.net.specs.declared.Row.{Row}
use Rattle.rulebook.specs.Parts.{count_ok}
use Rattle.rulebook.proofs.Owners.{Orderly, orderly_of, owner_at, room_at, orderly_insert, orderly_remove, orderly_length}
use Rattle.format.specs.Format.{fields_ok, row_rules, row_ok}

abbrev pub row_owners : List Row → List ℕ
row_owners = map (λ x. x.owner)

abbrev pub good_row : Row → List Bool
good_row x = row_fits x ∷ count_ok x.count ∷ fields_ok x.count x.fields ∷ []

-- where a row of site i goes: after all rows of owners up to it
abbrev pub place_in : ℕ → List Row → ℕ
place_in i l = first_bad (λ k. leb (row_at l k).owner i) (length l)

-- owners in order, and each row good by itself
pub record Rows (n : ℕ) (l : List Row) : Type 0 where
  pub orderly : Orderly n store_limit (row_owners l)
  pub good : T (all (λ x. all_of (good_row x)) l)

module _ (n : ℕ) (l : List Row) where
  pub rows_of : T (all row_fits l) → T (every (row_ok n l) (length l)) → Rows n l
  unfolding row_ok
  rows_of f t = record {
    orderly = orderly_of n store_limit (row_owners l)
        (λ k h. part (row_rules n l k (row_at l k)) (ok k (rw (length-map l (λ x. x.owner)) at h)) 0)
        (λ k h. part (row_rules n l k (row_at l k)) (ok k (rw (length-map l (λ x. x.owner)) at h)) 1);
    good = all_of_lem (λ x. all_of (good_row x)) l no_row (λ k h.
        joined (good_row (row_at l k)) (all_at row_fits l no_row f k h also part (row_rules n l k (row_at l k)) (ok k h) 2 also part (row_rules n l k (row_at l k)) (ok k h) 3));
  }
    where
      ok : (k : ℕ) → k < length l → T (row_ok n l k)
      ok k h = is_T (row_ok n l k) (every_at (row_ok n l) (length l) t k h)

  module _ (g : Rows n l) where
    pub rows_fit : T (all row_fits l)
    rows_fit = all_weaken (λ x. all_of (good_row x)) row_fits (λ x t. part (good_row x) t 0) l g.good

    pub rows_ok : T (every (row_ok n l) (length l))
    unfolding row_ok
    rows_ok = every_of (row_ok n l) (length l) (λ k h.
        let j : k < length (row_owners l) = rw (length-map l (λ x. x.owner)) h in
        let a = all_at (λ x. all_of (good_row x)) l no_row g.good k h in
        T_is (row_ok n l k) (joined (row_rules n l k (row_at l k))
        (owner_at n store_limit (row_owners l) g.orderly k j
        also room_at n store_limit (row_owners l) g.orderly k j
        also part (good_row (row_at l k)) a 1
        also part (good_row (row_at l k)) a 2)))

    -- not too many in all
    pub rows_few : n ≤ most_sites → length l ≤ most_rows
    rows_few h = omega (arith, orderly_length n store_limit (row_owners l) g.orderly, length-map l (λ x. x.owner))

    pub rows-remove : (k : ℕ) → Rows n (remove_at k l)
    rows-remove k = record {
      orderly = rw (map-remove (λ x. x.owner) k l) (orderly_remove n store_limit k (row_owners l) g.orderly);
      good = all_remove (λ x. all_of (good_row x)) k l g.good;
    }

    pub rows-insert : (x : Row) → T (all_of (good_row x)) → x.owner < n → held x.owner l < store_limit → Rows n (insert_at (place_in x.owner l) x l)
    rows-insert x t b m = record {
      orderly = rw (map-insert (λ y. y.owner) (place_in x.owner l) x l)
          (orderly_insert n store_limit x.owner (place_in x.owner l) (row_owners l) g.orderly b (rw (count_map (λ y. y.owner) (λ v. eqb v x.owner) l) m)
          (λ k h j. rw (get_or-map (λ y. y.owner) l k no_row) (leb-true (row_at l k).owner x.owner (first_below up_to (length l) k h)))
          (λ h.
          let p = place_in x.owner l in
          let e = first_at up_to (length l) (rw (length-map l (λ y. y.owner)) at h) in
          rw (get_or-map (λ y. y.owner) l p no_row) (omega (arith, leb-false (row_at l p).owner x.owner e))));
      good = all_insert (λ y. all_of (good_row y)) (place_in x.owner l) x l g.good t;
    }
      where
        up_to : ℕ → Bool
        up_to k = leb (row_at l k).owner x.owner
