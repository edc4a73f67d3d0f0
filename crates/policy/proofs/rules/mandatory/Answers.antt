-- `policy::mandatory` meets its contract: the rules are asked in order, and one that says no decides. Assumes nothing.
use Rattle.std.proofs.Common.{rules, ◌≡◌, cond, eqb, arith, tests}
use Rattle.std.proofs.lemmas.Iterator.{YieldsList-from_slice}
use Rattle.std.proofs.lemmas.Iterator.Search.{all_from_yields_List}
use Rattle.policy.specs.House.{rule_gives, mandatory_rules, mandatory}
use Rattle.policy.proofs.Mandatory.{mandatory_is}
use Rattle.policy.proofs.rules.mandatory.Goals.{After-all-undecided}
use Rattle.policy.proofs.rules.mandatory.Goals as goal

-- what it comes to, by whether each rule left it undecided
settled : (c : After-all-undecided) → cond c.all-undecided.result 0 2 ≡ mandatory c.args.capability c.args.terms.now
settled c =
    let a = c.args in
    rw (all_from_yields_List (λ x. eqb (rule_gives a.capability a.terms.now x) 0) _ _ c.all-undecided.result c.all-undecided.ensures.ran
    (YieldsList-from_slice mandatory_rules cc) (λ x b q k. search (rules, tests))) (mandatory_is a.capability a.terms.now)

pub returns-then-undecided : goal.returns-then-undecided
returns-then-undecided c = (rw c.if-undecided.true at (settled (goal.at.returns-then-undecided c).After-all-undecided), omega arith)

pub returns-else-undecided : goal.returns-else-undecided
returns-else-undecided c = (rw c.if-undecided.false at (settled (goal.at.returns-else-undecided c).After-all-undecided), omega arith)
