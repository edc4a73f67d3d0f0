-- `format::states::set_right` meets its contract: each variable with its number. Assumes nothing.
use Rattle.std.proofs.Common.{ℕ, ◌∙◌, not, eqb, rules, tests}
use Rattle.std.specs.Bool.{beq}
use Rattle.std.proofs.lemmas.Iterator.{YieldsList-from_slice}
use Rattle.std.proofs.lemmas.Iterator.Consumers.{YieldsList-from_enumerate}
use Rattle.std.proofs.lemmas.Iterator.Search.{all_from_yields_List}
use Rattle.format.specs.Steps.{in_set}
use Rattle.format.proofs.Numbered.{each_numbered}
use Rattle.format.proofs.states.set_right.Goals as goal

pub returns : goal.returns
returns c =
    let test = λ (p : ℕ × ℕ). beq (not (eqb p.1 0)) (in_set c.args.bound p.0) in
    all_from_yields_List test _ _ _ c.all.ensures.ran (YieldsList-from_enumerate (YieldsList-from_slice c.args.vars (cc)) (cc)) (λ x b q k. search (rules, tests))
    ∙ each_numbered test c.args.vars 8 (search rules)
