-- The values of nodes and their sorts: what a condition's and a recommendation's value says, and that in an accepted table no default is
-- reached: a child that is lower and of the sort asked for is read as its own node says. Common to conditions and recommendations: a node's
-- value in any row is worked out from the row below the node. Assumes nothing.
use mathlib.Core.Path.{◌≡◌, refl, ap, ◌∙◌}
use mathlib.Core.Bool.{Bool, true, false, cond}
use mathlib.Core.List.{List}
use Prim.Native.Nat.{ℕ, ◌+◌, ◌-◌, ◌%◌, ◌≤◌, ◌<◌}
use native.Mathlib.Omega.{arith}
use lib.Dec.{eqb}
use lib.ListN.{get_or}
use borrow.Author.Tests.{lt-ltb, le-ltb, ne_eqb}
use Rattle.belnap.specs.Belnap.{not_of, operate_of}
use Rattle.belnap.proofs.Laws.{either_lt, operate_lt}
use Rattle.words.proofs.Lists.{fill_at}
use Rattle.net.specs.Net.{node_at}
use Rattle.net.specs.declared.Node.{Node}
use Rattle.policy.specs.House.{Ask, yes, advice, condition_of, advice_of, value_of, row_of}

-- the value of a lower node, in the row of the lowest k
pub value_read : (q : Ask) (nodes : List Node) (k j : ℕ) → j < k → get_or (row_of q nodes k) j 0 ≡ value_of q (node_at nodes j) (row_of q nodes j)
value_read q nodes k j h = fill_at (λ i row. value_of q (node_at nodes i) row) k j h

-- what a recommendation advises is one of the four values
pub advice_lt : (x : Node) (row : List ℕ) → advice_of x row < 4
unfolding advice_of
advice_lt x row =
    let a = advice (get_or row x.a 0) in
    let b = advice (get_or row x.b 0) in
    either_lt (eqb x.kind 16) (x.a % 4) _ (omega arith)
    (either_lt (eqb x.kind 17) (cond (yes (get_or row x.a 0)) 1 2) _ (either_lt (yes (get_or row x.a 0)) 1 2 (omega arith) (omega arith))
    (either_lt (eqb x.kind 18) (not_of a) (operate_of (x.kind - 19) a b) (omega arith) (operate_lt (x.kind - 19) a b (omega arith) (omega arith))))

yes-cond : (b : Bool) → yes (cond b 1 0) ≡ b
yes-cond true = refl
yes-cond false = refl

advice-cond : (b : Bool) → advice (cond b 1 0) ≡ 0
advice-cond true = refl
advice-cond false = refl

module _ (q : Ask) (x : Node) (row : List ℕ) where
  -- a condition's value says whether it holds, and advises nothing
  pub yes_read : x.kind < 16 → yes (value_of q x row) ≡ condition_of q x row
  unfolding value_of
  yes_read h = rw (lt-ltb x.kind 16 h) (yes-cond (condition_of q x row))

  pub advice_none : x.kind < 16 → advice (value_of q x row) ≡ 0
  unfolding value_of
  advice_none h = rw (lt-ltb x.kind 16 h) (advice-cond (condition_of q x row))

  -- a recommendation's value says what it advises, and is no condition that holds
  pub advice_read : 16 ≤ x.kind → advice (value_of q x row) ≡ advice_of x row
  unfolding value_of
  advice_read h = rw (le-ltb x.kind 16 h) (omega (arith, advice_lt x row))

  pub yes_none : 16 ≤ x.kind → yes (value_of q x row) ≡ false
  unfolding value_of
  yes_none h = rw (le-ltb x.kind 16 h) (ne_eqb (4 + advice_of x row) 1 (λ e. omega arith))

-- ---- no default is reached
module _ (q : Ask) (nodes : List Node) (k j : ℕ) (h : j < k) where
  pub condition_child : (node_at nodes j).kind < 16 → yes (get_or (row_of q nodes k) j 0) ≡ condition_of q (node_at nodes j) (row_of q nodes j)
  condition_child s = ap yes (value_read q nodes k j h) ∙ yes_read q (node_at nodes j) (row_of q nodes j) s

  pub advice_child : 16 ≤ (node_at nodes j).kind → advice (get_or (row_of q nodes k) j 0) ≡ advice_of (node_at nodes j) (row_of q nodes j)
  advice_child s = ap advice (value_read q nodes k j h) ∙ advice_read q (node_at nodes j) (row_of q nodes j) s
