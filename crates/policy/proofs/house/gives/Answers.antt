-- `policy::house::gives` meets its contract: the evaluators are asked with the terms of the action, what the cut took, and the whole table. Assumes nothing.
use Rattle.std.proofs.Common.{◌≡◌, sym, ap, ◌∙◌, arith}
use Rattle.net.specs.Records.{read_aspect}
use Rattle.net.specs.Image.{sites_in, nodes_in, rows_in}
use Rattle.policy.specs.House.{ask_of, yes, advice, value_at}
use Rattle.policy.proofs.Bodies.{condition_in, recommendation_in}
use Rattle.policy.proofs.Given.{value_asked, gives_untrapped, gives_unless, gives_trapped}
use Rattle.policy.proofs.house.gives.Goals.{After-holds}
use Rattle.policy.proofs.house.gives.Goals as goal

-- the condition that was looked at is the aspect's own
condition : (c : After-holds)
    → (let t = c.args.case.now.tables in
    let x = read_aspect c.args.aspect.now 0 in
    c.holds.result ≡ yes (value_at (ask_of (sites_in t.sites.now) (rows_in t.rows.now) c.args.case.now.act x) (nodes_in t.nodes.now) x.condition))
condition c =
    let a = c.args in
    let t = a.case.now.tables in
    let x = read_aspect a.aspect.now 0 in
    c.holds.ensures
    ∙ ap yes (value_asked (sites_in t.sites.now) (rows_in t.rows.now) a.case.now.act x t.nodes.now c.size_at.result
    a.case.now.acting.with_terms c.taken-vars.ensures a.case.now.nodes_divided.many
    ∙ ap (value_at (ask_of (sites_in t.sites.now) (rows_in t.rows.now) a.case.now.act x) (nodes_in t.nodes.now)) (c.size_at.ensures.0 ∙ sym (condition_in a.aspect.now 0)))

pub returns-then-not-traps : goal.returns-then-not-traps
returns-then-not-traps c = (sym (gives_untrapped _ _ _ _ _ (sym c.traps.ensures ∙ c.if-not-traps.true)), omega arith)

pub returns-else-holds : goal.returns-else-holds
returns-else-holds c =
    (sym (gives_unless _ _ _ _ _ (sym c.traps.ensures ∙ c.if-not-traps.false) (sym (condition (goal.at.returns-else-holds c).After-holds) ∙ c.if-holds.false)), omega arith)

pub returns-then-holds : goal.returns-then-holds
returns-then-holds c =
    let a = c.args in
    let t = a.case.now.tables in
    let x = read_aspect a.aspect.now 0 in
    let k = c.size_at-then-holds.ensures.0 ∙ sym (recommendation_in a.aspect.now 0) in (
      c.advises.ensures
          ∙ ap advice (value_asked (sites_in t.sites.now) (rows_in t.rows.now) a.case.now.act x t.nodes.now c.size_at-then-holds.result
          a.case.now.acting.with_terms c.taken-vars.ensures a.case.now.nodes_divided.many
          ∙ ap (value_at (ask_of (sites_in t.sites.now) (rows_in t.rows.now) a.case.now.act x) (nodes_in t.nodes.now)) k)
          ∙ sym (gives_trapped _ _ _ _ _ (sym c.traps.ensures ∙ c.if-not-traps.false) (sym (condition (goal.at.returns-then-holds c).After-holds) ∙ c.if-holds.true)),
      omega (arith, c.advises.ensures),
    )
