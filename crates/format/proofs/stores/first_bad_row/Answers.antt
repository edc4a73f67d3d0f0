-- `format::stores::first_bad_row` meets its contract: up to k every row is good, so that their owners never fall. Assumes nothing.
use mathlib.Core.Path.{◌≡◌, refl, ◌∙◌}
use mathlib.Core.Bool.{Bool, true, ◌&&◌, and_assoc}
use mathlib.Core.List.{List, map}
use Prim.Native.Nat.{ℕ, ◌*◌, ◌/◌, ◌≤◌, ◌<◌}
use native.Mathlib.Omega.{arith}
use lib.Dec.{T}
use lib.ListN.{length, get_or}
use Rattle.words.specs.Lists.{first_bad, before}
use Rattle.words.proofs.First.{first_none, first_more}
use Rattle.words.proofs.Tables.{table_at}
use Rattle.words.proofs.Truth.{is_T, part, so}
use Rattle.net.specs.Records.{row_width, no_row, read_row}
use Rattle.net.specs.Net.{store_limit, row_at}
use Rattle.net.specs.Image.{rows_in}
use Rattle.net.specs.declared.Row.{Row}
use Rattle.rulebook.specs.Parts.{count_ok, owners_in, owner_ok, room_ok}
use Rattle.rulebook.proofs.Chains.{both}
use Rattle.rulebook.proofs.Owners.{owners_of}
use Rattle.format.specs.Format.{fields_ok, row_rules, row_ok}
use Rattle.format.proofs.Order.{never_fell}
use Rattle.format.proofs.Searches.{stopped, ended}
use Rattle.format.proofs.stores.first_bad_row.Goals as goal

module _ (s : List ℕ) (sites k : ℕ) where
  owners-are : map (λ x. x.owner) (rows_in s) ≡ owners_in row_width s
  unfolding read_row
  owners-are = owners_of (λ x. x.owner) read_row row_width s (λ i. refl)

  owner_good : (j : ℕ) → row_ok sites (rows_in s) j ≡ true → T (owner_ok sites (owners_in row_width s) j)
  unfolding row_ok
  owner_good j e = rw (← owners-are) (part (row_rules sites (rows_in s) j (row_at (rows_in s) j)) (is_T _ e) 0)

  ordered : first_bad (row_ok sites (rows_in s)) k ≡ k → (j : ℕ) → j < k → before (owners_in row_width s) j ≤ get_or (owners_in row_width s) j 0
  ordered = never_fell sites (owners_in row_width s) k (row_ok sites (rows_in s)) owner_good

  -- what was tested of row k is its rule
  tested : k < length s / row_width → {x : Row} {r : Bool} → x ≡ read_row s (row_width * k)
      → r ≡ ((owner_ok sites (owners_in row_width s) k && room_ok store_limit (owners_in row_width s) k) && (count_ok x.count && fields_ok x.count x.fields))
      → r ≡ row_ok sites (rows_in s) k
  unfolding row_ok
  tested h p g = g ∙ rw (p, ← table_at read_row row_width s k no_row h, ← owners-are) (simp and_assoc)

pub loop-k-init : goal.loop-k-init
loop-k-init c = first_none _

pub place_ok-requires : goal.place_ok-requires
place_ok-requires c = (omega arith, omega arith, ordered c.args.rows.now c.args.sites c.loop-k.k c.loop-k.invariant)

pub returns-then-not-good : goal.returns-then-not-good
returns-then-not-good c =
    let s = c.args.rows.now in
    let k = c.loop-k.k in
    let e = tested s c.args.sites k (omega arith) c.nth-x.ensures (both c.place_ok.ensures c.form_ok.ensures) in
    stopped read_row row_width s (row_ok c.args.sites (rows_in s)) k _ c.count-k-end.ensures c.loop-k.invariant (so e c.if-not-good.true) (omega arith)

pub loop-k-preserved : goal.loop-k-preserved
loop-k-preserved c =
    let s = c.args.rows.now in
    let k = c.loop-k.k in
    let e = tested s c.args.sites k (omega arith) c.nth-x.ensures (both c.place_ok.ensures c.form_ok.ensures) in
    first_more (row_ok c.args.sites (rows_in s)) k c.loop-k.invariant (so e c.if-not-good.false)

pub returns : goal.returns
returns c =
    let s = c.args.rows.now in
    ended read_row row_width s (row_ok c.args.sites (rows_in s)) c.loop-k.k _ c.count-k-end.ensures c.loop-k.invariant (omega arith) (omega arith)
