-- The records of one owner, in the bytes of a body whose owners never fall: where they begin and end is what the search by halving finds, and
-- from one of the two places on the first bytes of the records tell the other. Assumes nothing.
use mathlib.Core.Path.{◌≡◌, refl, sym, ap, ◌∙◌}
use mathlib.Core.Bool.{Bool, true, false}
use mathlib.Core.List.{List}
use Prim.Native.Nat.{ℕ, suc, ◌+◌, ◌-◌, ◌*◌, ◌/◌, ◌≤◌, ◌<◌}
use native.Mathlib.Numerals.{add-one}
use native.Mathlib.Omega.{arith}
use lib.Dec.{ltb, leb, eqb, ltb→lt, lt→ltb, leb→le, le→leb}
use lib.ListN.{length, get_or, take, drop, length-drop}
use lib.Seq.{get_or-take, get_or-drop, length-take-le}
use borrow.Author.Tests.{ltb-true, ltb-false, leb-true, leb-false, eq-eqb, ne_eqb}
use Rattle.words.specs.Lists.{count, those}
use Rattle.words.specs.Tables.{table_of, Ordered, count_below}
use Rattle.words.proofs.Truth.{same_truth}
use Rattle.words.proofs.First.{first_same}
use Rattle.words.proofs.Tables.{table_length, table_at}
use Rattle.words.proofs.Groups.{Sorted, below, smaller, larger, between, low-high, high-length, group, group_count, table_below, table_sorted}
use Rattle.net.specs.Records.{row_width, no_row, read_action, read_row}
use Rattle.net.specs.Net.{row_at}
use Rattle.net.specs.Image.{rows_in}
use Rattle.stepping.specs.Step.{place_for}

-- ---- any kind of record that begins with its owner
module _ {A : Type 0} (f : A → ℕ) (d : A) (read : List ℕ → ℕ → A) (front : (s : List ℕ) (i : ℕ) → f (read s i) ≡ get_or s i 0) (w : ℕ) (s : List ℕ)
    (order : Ordered w s) (t : ℕ) where
  abbrev records : List A
  records = table_of read w s

  abbrev begins : ℕ
  begins = count_below s w (length s / w) t

  abbrev ends : ℕ
  ends = count_below s w (length s / w) (t + 1)

  begins_is : begins ≡ below f d records t
  begins_is = table_below f d read front w s t

  ends_is : ends ≡ below f d records (suc t)
  ends_is = table_below f d read front w s (t + 1) ∙ ap (below f d records) (add-one t)

  sorted : Sorted f d records
  sorted = table_sorted f d read front w s order

  pub begins-ends : begins ≤ ends
  begins-ends = rw (begins_is, ends_is) (low-high f d records sorted t)

  pub ends_within : ends ≤ length s / w
  ends_within = rw (ends_is, ← table_length read w s) (high-length f d records sorted t)

  -- before the end of the stretch, a record is the owner's exactly if it is not before the stretch
  pub owner_back : (k : ℕ) → k < ends → eqb (get_or s (w * k) 0) t ≡ leb begins k
  owner_back k h = rw (← front s (w * k), ← table_at read w s k d (let b = ends_within in omega arith)) (pick (leb begins k) refl)
    where
      pick : (b : Bool) → leb begins k ≡ b → eqb (f (get_or records k d)) t ≡ b
      pick true e = eq-eqb _ t (between f d records sorted t k (rw begins_is at (leb-true begins k e)) (rw ends_is at h))
      pick false e =
          let g = smaller f d records sorted t k (rw begins_is at (leb-false begins k e)) in
          ne_eqb (f (get_or records k d)) t (λ q. omega arith)

  -- from its beginning on, exactly if it is not after it
  pub owner_on : (k : ℕ) → begins ≤ k → k < length s / w → eqb (get_or s (w * k) 0) t ≡ ltb k ends
  owner_on k h b = rw (← front s (w * k), ← table_at read w s k d b) (pick (ltb k ends) refl)
    where
      pick : (c : Bool) → ltb k ends ≡ c → eqb (f (get_or records k d)) t ≡ c
      pick true e = eq-eqb _ t (between f d records sorted t k (rw begins_is at h) (rw ends_is at (ltb-true k ends e)))
      pick false e =
          let g = larger f d records sorted t (suc t) k (rw ends_is at (ltb-false k ends e)) (rw (table_length read w s) b) in
          ne_eqb (f (get_or records k d)) t (λ q. omega arith)

  owned : those (λ x. eqb (f x) t) records ≡ take (ends - begins) (drop begins records)
  owned = rw (begins_is, ends_is) (group f d records sorted t)

  pub owned_count : count (λ x. eqb (f x) t) records ≡ ends - begins
  owned_count = rw (begins_is, ends_is) (group_count f d records sorted t)

  pub owned_length : length (those (λ x. eqb (f x) t) records) ≡ ends - begins
  owned_length =
      ap length owned
      ∙ length-take-le (ends - begins) (drop begins records) (let a = begins-ends in let b = ends_within in omega (arith, length-drop begins records, table_length read w s))

  pub owned_at : (p : ℕ) → p < ends - begins → get_or (those (λ x. eqb (f x) t) records) p d ≡ read s (w * (begins + p))
  owned_at p h =
      let b = ends_within in
      ap (λ (l : List A). get_or l p d) owned
      ∙ get_or-take (ends - begins) (drop begins records) p d h
      ∙ get_or-drop begins records p d
      ∙ table_at read w s (begins + p) d (omega arith)

-- ---- rows and actions begin with their owners
pub row-front : (s : List ℕ) (i : ℕ) → (read_row s i).owner ≡ get_or s i 0
unfolding read_row
row-front s i = refl

pub action_front : (s : List ℕ) (i : ℕ) → (read_action s i).owner ≡ get_or s i 0
unfolding read_action
action_front s i = refl

up_to : (a t : ℕ) → leb a t ≡ ltb a (suc t)
up_to a t = same_truth (leb a t) (ltb a (suc t)) (λ h. lt→ltb a (suc t) (omega (arith, leb→le a t h))) (λ h. le→leb a t (omega (arith, ltb→lt a (suc t) h)))

-- a put adds its row where the rows of the target end
pub place_ends : (s : List ℕ) → Ordered row_width s → (t : ℕ) → place_for t (rows_in s) ≡ count_below s row_width (length s / row_width) (t + 1)
unfolding place_for
place_ends s order t =
    first_same (λ k. leb (row_at (rows_in s) k).owner t) (λ k. ltb (row_at (rows_in s) k).owner (suc t)) (length (rows_in s)) (λ k h. up_to (row_at (rows_in s) k).owner t)
    ∙ sym (ends_is (λ x. x.owner) no_row read_row row-front row_width s order t)
