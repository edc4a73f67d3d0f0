-- `format::states::Programs::state_ok` meets its contract: a position within the program, and the variables bound before it. Assumes nothing.
use mathlib.Core.Path.{◌≡◌, sym, ap, ◌∙◌}
use mathlib.Core.Bool.{Bool, not, beq}
use mathlib.Core.List.{List}
use Prim.Native.Nat.{ℕ, ◌*◌, ◌-◌, ◌≤◌}
use native.Mathlib.Omega.{arith}
use lib.Dec.{eqb}
use lib.ListN.{length, get_or, take, drop, length-drop}
use lib.Seq.{length-take-le, take-take}
use borrow.Author.Tests.{le-leb}
use Rattle.words.specs.Lists.{every, all_of}
use Rattle.words.proofs.First.{first_same}
use Rattle.words.proofs.Tables.{table_length}
use Rattle.net.specs.Records.{action_width}
use Rattle.net.specs.Image.{actions_in}
use Rattle.net.specs.declared.Action.{Action}
use Rattle.format.specs.Format.{binds, placed}
use Rattle.format.specs.Steps.{in_set, bound_by}
use Rattle.format.proofs.Programs.{in_bound}
use Rattle.format.proofs.states.Programs.state_ok.Goals as goal

-- each variable is set exactly if it is in the set of those bound
rightly : (vars : List ℕ) (q : List Action)
    → every (λ v. beq (not (eqb (get_or vars v 0) 0)) (in_set (bound_by q) v)) 8 ≡ every (λ v. beq (not (eqb (get_or vars v 0) 0)) (binds q v)) 8
rightly vars q =
    ap (λ (n : ℕ). eqb n 8) (first_same _ (λ v. beq (not (eqb (get_or vars v 0) 0)) (binds q v)) 8 (λ v h. ap (beq (not (eqb (get_or vars v 0) 0))) (in_bound q v h)))

module _ (s : List ℕ) (from to position : ℕ) (vars : List ℕ) (a : from ≤ to) (b : action_width * to ≤ length s) where
  abbrev program : List Action
  program = take (to - from) (drop from (actions_in s))

  program-length : length program ≡ to - from
  program-length = length-take-le (to - from) (drop from (actions_in s)) (simp (length-drop, table_length) (omega arith))

  inside : position ≤ to - from → {bound : ℕ} {r : Bool} → bound ≡ bound_by (take position (drop from (actions_in s)))
      → r ≡ every (λ v. beq (not (eqb (get_or vars v 0) 0)) (in_set bound v)) 8 → r ≡ all_of (placed program position vars)
  inside h e f = rw (program-length, le-leb position (to - from) h) (f ∙ rw e (rightly vars (take position (drop from (actions_in s)))
      ∙ ap (λ (q : List Action). every (λ v. beq (not (eqb (get_or vars v 0) 0)) (binds q v)) 8) (sym (take-take position (to - from) (drop from (actions_in s)) h))))

pub returns-then-position-to : goal.returns-then-position-to
returns-then-position-to c =
    let x = c.args.x in
    inside c.args.self.actions.now c.args.from c.args.to x.position x.vars c.requires.0 c.requires.1
    (omega (arith, c.from-position.ensures)) (rw (← c.from-position.ensures) c.bound_by.ensures) c.set_right.ensures
