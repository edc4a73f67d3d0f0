-- The names of good sites rise, and the owners of good aspects, actions and rows never fall, in the list and in the first bytes of the
-- records. Assumes nothing.
use Rattle.std.specs.Prelude.{Ok}
use mathlib.Core.Path.{◌≡◌, refl}
use mathlib.Core.List.{List}
use Prim.Native.Nat.{ℕ, suc, ◌<◌}
use native.Mathlib.Omega.{arith}
use lib.Dec.{T, ltb→lt}
use lib.ListN.{length, get_or, length-map}
use Rattle.words.specs.Lists.{every}
use Rattle.words.specs.Tables.{Ordered}
use Rattle.words.proofs.Truth.{is_T, part}
use Rattle.words.proofs.First.{every_at}
use Rattle.words.proofs.Groups.{Sorted, sorted_of, bytes_sorted}
use Rattle.net.specs.Records.{aspect_width, action_width, row_width, no_aspect, no_action, no_row, read_aspect, read_action, read_row}
use Rattle.net.specs.Net.{names, Rising, aspect_at, action_at, row_at}
use Rattle.net.specs.Image.{body_in, sites_in, aspects_in, actions_in, rows_in}
use Rattle.net.specs.declared.Site.{Site}
use Rattle.net.specs.declared.Node.{Node}
use Rattle.net.specs.declared.Aspect.{Aspect}
use Rattle.net.specs.declared.Action.{Action}
use Rattle.net.specs.declared.Row.{Row}
use Rattle.rulebook.specs.Rulebook.{aspect_rules, aspect_ok}
use Rattle.format.specs.Format.{site_rules, site_ok, action_rules, action_ok, row_rules, row_ok}
use Rattle.format.specs.Verdict.{verdict_of}
use Rattle.format.proofs.Order.{sorted_owners}
use Rattle.format.proofs.Verdicts.{accepted_right}

-- ---- of lists
pub names_rise : (l : List Site) → T (every (site_ok l) (length l)) → Rising (names l)
unfolding site_ok
names_rise l t i j h b =
    let n : length (names l) ≡ length l = length-map l (λ x. x.name) in
    let e : (k : ℕ) → suc k < length (names l) → get_or (names l) k 0 < get_or (names l) (suc k) 0 =
    λ k c. ltb→lt _ _ (part (site_rules l (suc k)) (is_T _ (every_at (site_ok l) (length l) t (suc k) (rw (← n) c))) 0) in
    omega (arith, e i (omega arith), sorted_of (λ (x : ℕ). x) 0 (names l) (λ k c. let q = e k c in omega arith) (suc i) j h b)

module _ (sites : ℕ) where
  pub aspects_sorted : (nodes : List Node) (l : List Aspect) → T (every (aspect_ok sites nodes l) (length l)) → Sorted (λ x. x.owner) no_aspect l
  unfolding aspect_ok
  aspects_sorted nodes l t =
      sorted_owners (λ x. x.owner) no_aspect refl sites l
      (λ k h. part (aspect_rules sites nodes l k (aspect_at l k)) (is_T _ (every_at (aspect_ok sites nodes l) (length l) t k h)) 0)

  pub actions_sorted : (l : List Action) → T (every (action_ok sites l) (length l)) → Sorted (λ x. x.owner) no_action l
  unfolding action_ok
  actions_sorted l t =
      sorted_owners (λ x. x.owner) no_action refl sites l
      (λ k h. part (action_rules sites l k (action_at l k)) (is_T _ (every_at (action_ok sites l) (length l) t k h)) 0)

  pub rows_sorted : (l : List Row) → T (every (row_ok sites l) (length l)) → Sorted (λ x. x.owner) no_row l
  unfolding row_ok
  rows_sorted l t =
      sorted_owners (λ x. x.owner) no_row refl sites l
      (λ k h. part (row_rules sites l k (row_at l k)) (is_T _ (every_at (row_ok sites l) (length l) t k h)) 0)

-- ---- of bytes
pub aspects_ordered : (s : List ℕ) → Sorted (λ x. x.owner) no_aspect (aspects_in s) → Ordered aspect_width s
unfolding read_aspect
aspects_ordered = bytes_sorted (λ x. x.owner) no_aspect read_aspect (λ s i. refl) aspect_width

pub actions_ordered : (s : List ℕ) → Sorted (λ x. x.owner) no_action (actions_in s) → Ordered action_width s
unfolding read_action
actions_ordered = bytes_sorted (λ x. x.owner) no_action read_action (λ s i. refl) action_width

pub rows_ordered : (s : List ℕ) → Sorted (λ x. x.owner) no_row (rows_in s) → Ordered row_width s
unfolding read_row
rows_ordered = bytes_sorted (λ x. x.owner) no_row read_row (λ s i. refl) row_width

-- ---- of an accepted image
module _ (b : List ℕ) (e : verdict_of b ≡ Ok tt) where
  pub accepted_names : Rising (names (sites_in (body_in b 1)))
  accepted_names = names_rise _ (accepted_right b e).records.sites

  pub accepted_aspects : Ordered aspect_width (body_in b 3)
  accepted_aspects = aspects_ordered (body_in b 3) (aspects_sorted _ _ _ (accepted_right b e).records.aspects)

  pub accepted_actions : Ordered action_width (body_in b 4)
  accepted_actions = actions_ordered (body_in b 4) (actions_sorted _ _ (accepted_right b e).records.actions)

  pub accepted_rows : Ordered row_width (body_in b 5)
  accepted_rows = rows_ordered (body_in b 5) (rows_sorted _ _ (accepted_right b e).records.rows)
