-- `rulebook::cut_ok` meets its contract: the tests are the rules in their order, and the last looks at operands that are good. Assumes nothing.
use Rattle.std.proofs.Common.{◌∙◌, [], ◌∷◌}
use Rattle.words.proofs.Truth.{so}
use Rattle.rulebook.specs.Steps.{cut_ok}
use Rattle.rulebook.proofs.Cuts.{cut_once}
use Rattle.rulebook.proofs.aspects.cut_ok.Goals as goal

pub returns-then-allow_first : goal.returns-then-allow_first
unfolding cut_ok
returns-then-allow_first c =
    let source = so c.allow.ensures c.if-allow.true in
    let target = so c.allow-then-allow.ensures c.if-allow-2.true in
    let fields = so c.allow_first.ensures c.if-allow_first.true in
    simp (source, target, fields) (c.takes_once.ensures ∙ cut_once c.args.x (0 ∷ 1 ∷ 3 ∷ []) (0 ∷ 1 ∷ 3 ∷ 4 ∷ []) source target fields)
