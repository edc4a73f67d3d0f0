-- The index of owners: each entry is a count of records, so that a record that comes or goes changes the entries past its owner by one.
-- Assumes nothing.
use mathlib.Core.Path.{◌≡◌, refl, ◌∙◌}
use mathlib.Core.Bool.{Bool, true, false, cond}
use mathlib.Core.List.{List}
use Prim.Native.Nat.{ℕ, ◌+◌, ◌-◌, ◌*◌, ◌/◌, ◌≤◌, ◌<◌}
use native.Mathlib.Omega.{arith}
use lib.Dec.{ltb}
use lib.ListN.{length, get_or, get_or-eq_default}
use borrow.Author.Tests.{ltb-true, ltb-false}
use Rattle.words.specs.Lists.{insert_at, remove_at}
use Rattle.words.specs.Tables.{build, table_of, Ordered, count_below, starts_of, starts_more, starts_less}
use Rattle.words.proofs.First.{first_le}
use Rattle.words.proofs.Groups.{below, below_more, below_less, below-some, table_below, table_sorted}
use Rattle.words.proofs.Over.{changed, more_changed, less_changed}
use Rattle.words.proofs.Tables.{length-build, get_or-build, build_same}

module _ (w : ℕ) (s : List ℕ) where
  pub starts_built : starts_of w s ≡ build 33 (count_below s w (length s / w))
  unfolding starts_of
  starts_built = refl

  pub starts_length : length (starts_of w s) ≡ 33
  unfolding starts_of
  starts_length = length-build 33 (count_below s w (length s / w))

  pub start_at : (t : ℕ) → t < 33 → get_or (starts_of w s) t 0 ≡ count_below s w (length s / w) t
  unfolding starts_of
  start_at t h = get_or-build 33 (count_below s w (length s / w)) t 0 h

  -- no start is past the records
  pub start_most : (t : ℕ) → get_or (starts_of w s) t 0 ≤ length s / w
  start_most t = pick (ltb t 33) refl
    where
      pick : (b : Bool) → ltb t 33 ≡ b → get_or (starts_of w s) t 0 ≤ length s / w
      pick true e = rw (start_at t (ltb-true t 33 e)) (first_le (λ k. ltb (get_or s (w * k) 0) t) (length s / w))
      pick false e = omega (arith, get_or-eq_default (starts_of w s) 0 {n = t} (omega (arith, starts_length, ltb-false t 33 e)))

-- ---- tables whose records begin with their owner
module _ {A : Type 0} (f : A → ℕ) (d : A) (read : List ℕ → ℕ → A) (front : (s : List ℕ) (i : ℕ) → f (read s i) ≡ get_or s i 0) (w : ℕ) (s : List ℕ) (order : Ordered w s) where
  -- past a record's owner no start is 0
  pub start-some : (k : ℕ) → k < length (table_of read w s) → (t : ℕ) → f (get_or (table_of read w s) k d) < t → t < 33 → 0 < get_or (starts_of w s) t 0
  start-some k h t o b = rw (start_at w s t b, table_below f d read front w s t) (below-some f d (table_of read w s) (table_sorted f d read front w s order) t k h o)

  module _ (r : List ℕ) (order₂ : Ordered w r) where
    -- where the counts change past an owner, so do the starts
    follows : (g : ℕ → ℕ) (owner : ℕ)
        → ((t : ℕ) → below f d (table_of read w r) t ≡ cond (ltb owner t) (g (below f d (table_of read w s) t)) (below f d (table_of read w s) t))
        → starts_of w r ≡ changed g owner (starts_of w s)
    unfolding changed
    follows g owner e =
        starts_built w r
        ∙ build_same 33 (count_below r w (length r / w)) (λ t. cond (ltb owner t) (g (get_or (starts_of w s) t 0)) (get_or (starts_of w s) t 0))
        (λ t h. table_below f d read front w r t ∙ e t ∙ rw (start_at w s t h, table_below f d read front w s t))

    -- one record more, and one less
    pub starts_more_lem : (k : ℕ) (x : A) → table_of read w r ≡ insert_at k x (table_of read w s) → starts_of w r ≡ starts_more (f x) (starts_of w s)
    starts_more_lem k x e =
        follows (λ n. n + 1) (f x)
        (below_more f d (table_of read w s) (table_of read w r) k x (table_sorted f d read front w s order) (table_sorted f d read front w r order₂) e)
        ∙ more_changed (f x) (starts_of w s)

    pub starts_less_lem : (k : ℕ) → k < length (table_of read w s) → table_of read w r ≡ remove_at k (table_of read w s)
        → starts_of w r ≡ starts_less (f (get_or (table_of read w s) k d)) (starts_of w s)
    starts_less_lem k h e =
        follows (λ n. n - 1) (f (get_or (table_of read w s) k d))
        (below_less f d (table_of read w s) (table_of read w r) k h (table_sorted f d read front w s order) (table_sorted f d read front w r order₂) e)
        ∙ less_changed (f (get_or (table_of read w s) k d)) (starts_of w s)
