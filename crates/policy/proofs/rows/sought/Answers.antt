-- `policy::rows::sought` meets its contract: the rows are tried one by one. Assumes nothing.
use Rattle.std.proofs.Common.{rules, tests, sym, ◌∙◌}
use Rattle.std.proofs.lemmas.Iterator.{YieldsList-from_slice}
use Rattle.std.proofs.lemmas.Iterator.Search.{any_from_yields_List}
use Rattle.words.proofs.Lists.{some-map}
use Rattle.net.specs.Records.{read_node, read_row}
use Rattle.policy.specs.House.{wanted}
use Rattle.policy.proofs.rows.sought.Goals as goal

pub returns : goal.returns
returns c =
    let a = c.args in
    any_from_yields_List (λ row. wanted a.vars.now (read_node a.node.now 0) (read_row row 0)) c.any.new.self _ _ c.any.ensures.ran
    (YieldsList-from_slice a.rows.now cc) (λ x b q k. search (rules, tests))
    ∙ sym (some-map (λ row. read_row row 0) (wanted a.vars.now (read_node a.node.now 0)) a.rows.now)
