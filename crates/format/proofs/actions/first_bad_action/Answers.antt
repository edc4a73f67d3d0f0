-- `format::actions::first_bad_action` meets its contract: what is known of the actions before action k is `Earlier`. Assumes nothing.
use mathlib.Core.Path.{◌≡◌, refl, sym, ◌∙◌}
use mathlib.Core.Bool.{Bool, true, cond, ◌&&◌}
use mathlib.Core.List.{List}
use Prim.Native.Nat.{ℕ, ◌+◌, ◌*◌, ◌/◌, ◌≤◌, ◌<◌}
use native.Mathlib.Omega.{arith}
use lib.Bits.{bit_or}
use lib.Dec.{T, eqb}
use lib.ListN.{length, get_or}
use Rattle.words.specs.Lists.{before, all_of}
use Rattle.words.proofs.Tables.{table_length, table_at}
use Rattle.words.proofs.Truth.{so}
use Rattle.net.specs.Records.{action_width, no_action, read_action}
use Rattle.net.specs.Net.{program_limit}
use Rattle.net.specs.Image.{actions_in}
use Rattle.net.specs.declared.Action.{Action}
use Rattle.rulebook.specs.Parts.{owners_in, owner_ok, room_ok}
use Rattle.rulebook.proofs.Chains.{both}
use Rattle.rulebook.proofs.Owners.{owners_of}
use Rattle.format.specs.Format.{action_ok}
use Rattle.format.specs.Steps.{set_of, operands_good, form_rules}
use Rattle.format.proofs.Binding.{fields-ranged, fields-set}
use Rattle.format.proofs.Earlier.{Earlier, owners, action_good, rules_with, in_order, bound-now, earlier_more, earlier_none}
use Rattle.format.proofs.Searches.{stopped, ended}
use Rattle.format.proofs.actions.first_bad_action.Goals as goal

module _ (s : List ℕ) (sites k last bound : ℕ) (e : Earlier sites (actions_in s) k last bound) (h : k < length s / action_width) where
  owners-are : owners (actions_in s) ≡ owners_in action_width s
  unfolding read_action
  owners-are = owners_of (λ x. x.owner) read_action action_width s (λ i. refl)

  inside : k < length (actions_in s)
  inside = rw (table_length read_action action_width s) h

  ordered : (j : ℕ) → j < k → before (owners_in action_width s) j ≤ get_or (owners_in action_width s) j 0
  ordered j b = rw (← owners-are) (in_order sites (actions_in s) k last bound e j b)

  -- what was tested of action k is its rule
  tested : {x : Action} {b : ℕ} {r : Bool} → x ≡ read_action s (action_width * k) → b ≡ cond (eqb x.owner last) bound 0
      → r ≡ ((owner_ok sites (owners_in action_width s) k && room_ok program_limit (owners_in action_width s) k) && all_of (form_rules b x))
      → r ≡ action_ok sites (actions_in s) k
  tested p q g =
      g ∙ rw (q, p, ← table_at read_action action_width s k no_action h, ← owners-are)
      (rules_with sites (actions_in s) k _ (bound-now sites (actions_in s) k last bound e inside))

  -- where it holds the operands are good
  good : {x : Action} → action_ok sites (actions_in s) k ≡ true → x ≡ read_action s (action_width * k) → T (operands_good x)
  good ok p = rw (p, ← table_at read_action action_width s k no_action h) (action_good sites (actions_in s) k ok)

  -- and one action more
  next : {x : Action} {b after : ℕ} → action_ok sites (actions_in s) k ≡ true → x ≡ read_action s (action_width * k)
      → b ≡ cond (eqb x.owner last) bound 0 → after ≡ bit_or b (set_of 2 x.fields) → Earlier sites (actions_in s) (k + 1) x.owner after
  next {x} {b} {after} ok p q g =
      let i : x ≡ get_or (actions_in s) k no_action = p ∙ sym (table_at read_action action_width s k no_action h) in
      rw i (earlier_more sites (actions_in s) k last bound e inside ok (g ∙ rw (fields-set x (good ok p), q, i)))

pub loop-k-init : goal.loop-k-init
loop-k-init c = earlier_none _ _

pub place_ok-requires : goal.place_ok-requires
place_ok-requires c = (omega arith, omega arith, ordered c.args.actions.now c.args.sites c.loop-k.k c.loop-k.last c.loop-k.bound c.loop-k.invariant (omega arith))

pub returns-then-not-good : goal.returns-then-not-good
returns-then-not-good c =
    let s = c.args.actions.now in
    let l = c.loop-k in
    let e = tested s c.args.sites l.k l.last l.bound l.invariant (omega arith) c.nth-x.ensures c.bound_for-earlier.ensures (both c.place_ok.ensures c.form_ok.ensures) in
    stopped read_action action_width s (action_ok c.args.sites (actions_in s)) l.k _ c.count-k-end.ensures l.invariant.good (so e c.if-not-good.true) (omega arith)

-- action k is good where the loop goes on
pub invariant_of-bound_too : goal.invariant_of-bound_too
invariant_of-bound_too c =
    let s = c.args.actions.now in
    let l = c.loop-k in
    let e = tested s c.args.sites l.k l.last l.bound l.invariant (omega arith) c.nth-x.ensures c.bound_for-earlier.ensures (both c.place_ok.ensures c.form_ok.ensures) in
    let x = c.nth-x in
    record { ranged = fields-ranged x.result (good s c.args.sites l.k l.last l.bound l.invariant (omega arith) (so e c.if-not-good.false) x.ensures) }

pub loop-k-preserved : goal.loop-k-preserved
loop-k-preserved c =
    let s = c.args.actions.now in
    let l = c.loop-k in
    let e = tested s c.args.sites l.k l.last l.bound l.invariant (omega arith) c.nth-x.ensures c.bound_for-earlier.ensures (both c.place_ok.ensures c.form_ok.ensures) in
    next s c.args.sites l.k l.last l.bound l.invariant (omega arith)
    (so e c.if-not-good.false) c.nth-x.ensures c.bound_for-earlier.ensures c.bound_too-bound.ensures

pub returns : goal.returns
returns c =
    let s = c.args.actions.now in
    ended read_action action_width s (action_ok c.args.sites (actions_in s)) c.loop-k.k _ c.count-k-end.ensures c.loop-k.invariant.good (omega arith) (omega arith)
