-- `rulebook::once_each` meets its contract: it looks from each operand at those after it. Assumes nothing.
use Rattle.std.proofs.Common.{rules, ◌∙◌}
use Rattle.rulebook.proofs.Chains.{both}
use Rattle.rulebook.proofs.Cuts.{once_four}
use Rattle.rulebook.proofs.parts.once_each.Goals as goal

pub returns : goal.returns
returns c =
    both c.is_alone.ensures (both c.is_alone-2.ensures c.is_alone-3.ensures) ∙ once_four c.args.tag c.args.l (search rules)
