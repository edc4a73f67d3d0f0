-- `format::states::Programs::bound_by` meets its contract: after j actions the set has what these bind. Assumes nothing.
use mathlib.Core.Path.{◌≡◌, sym, ◌∙◌}
use mathlib.Core.Bool.{true}
use mathlib.Core.List.{List}
use Prim.Native.Nat.{ℕ, ◌+◌, ◌*◌, ◌/◌, ◌≤◌, ◌<◌}
use native.Mathlib.Omega.{arith}
use lib.Bits.{bit_or}
use lib.Dec.{T}
use lib.ListN.{length, get_or, take, drop, length-drop}
use lib.Seq.{get_or-drop}
use Rattle.words.specs.Lists.{all}
use Rattle.words.proofs.Lists.{all_get_d}
use Rattle.words.proofs.Truth.{is_T}
use Rattle.words.proofs.Tables.{table_length, table_at}
use Rattle.net.specs.Records.{action_width, no_action, read_action}
use Rattle.net.specs.Image.{actions_in}
use Rattle.net.specs.declared.Action.{Action}
use Rattle.format.specs.Steps.{set_of, bound_by, operands_good}
use Rattle.format.proofs.Binding.{fields-ranged, fields-set}
use Rattle.format.proofs.Programs.{bound_none, bound_next}
use Rattle.format.proofs.states.Programs.bound_by.Goals as goal

-- one action more; the operands of each are good
module _ (s : List ℕ) (from j : ℕ) (h : action_width * (from + j) + action_width ≤ length s) (ok : all operands_good (actions_in s) ≡ true) where
  within : from + j < length s / action_width
  within = omega arith

  action_is : get_or (drop from (actions_in s)) j no_action ≡ read_action s (action_width * (from + j))
  action_is = get_or-drop from (actions_in s) j no_action ∙ table_at read_action action_width s (from + j) no_action within

  good : {x : Action} → x ≡ read_action s (action_width * (from + j)) → T (operands_good x)
  good q = rw (q, ← table_at read_action action_width s (from + j) no_action within) (all_get_d operands_good (actions_in s) (from + j) no_action (is_T _ ok) tt)

  next : {bound after : ℕ} {x : Action} → bound ≡ bound_by (take j (drop from (actions_in s))) → x ≡ read_action s (action_width * (from + j))
      → after ≡ bit_or bound (set_of 2 x.fields) → after ≡ bound_by (take (j + 1) (drop from (actions_in s)))
  next {x = x} p q r =
      let b = within in
      let k : j < length (drop from (actions_in s)) = simp (length-drop, table_length) (omega arith) in
      r ∙ rw (fields-set x (good q), p, q, ← action_is) (bound_next (drop from (actions_in s)) j no_action k)

pub loop-j-init : goal.loop-j-init
loop-j-init c = sym bound_none

pub invariant_of-bound_too : goal.invariant_of-bound_too
invariant_of-bound_too c =
    record { ranged = fields-ranged c.nth.result (good c.args.self.actions.now c.args.from c.loop-j.j (omega arith) c.args.self.good c.nth.ensures) }

pub loop-j-preserved : goal.loop-j-preserved
loop-j-preserved c = next c.args.self.actions.now c.args.from c.loop-j.j (omega arith) c.args.self.good c.loop-j.invariant c.nth.ensures c.bound_too-bound.ensures
