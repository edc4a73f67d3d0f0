-- `policy::rows::test` meets its contract: a place that was found is one of 32, and its rows are the stretch that was looked at. Assumes nothing.
use Rattle.std.proofs.Common.{◌-◌, sym, ap, ◌∙◌, arith}
use Rattle.words.specs.Lists.{some}
use Rattle.net.specs.Records.{row_width, no_row, read_node, read_row}
use Rattle.net.specs.Image.{sites_in, rows_in}
use Rattle.policy.specs.House.{wanted}
use Rattle.policy.proofs.Bodies.{row_owner}
use Rattle.policy.proofs.Chunks.{rows_of}
use Rattle.policy.proofs.Owned.{owned}
use Rattle.policy.proofs.Tested.{place_there, test_nowhere, test_there}
use Rattle.policy.proofs.rows.test.Goals as goal

pub returns-in_default : goal.returns-in_default
unfolding read_node
returns-in_default c =
    let t = c.args.case.now.tables in
    sym (test_nowhere (sites_in t.sites.now) (rows_in t.rows.now) c.args.vars.now (read_node c.args.node.now 0) (rw (← c.word.ensures, ← c.place_of.ensures) c.in_default.is))

pub rows_at-requires : goal.rows_at-requires
rows_at-requires c =
    let t = c.args.case.now.tables in
    let f = t.placed.few in
    omega (arith, place_there t.sites.now c.word.result c.in-Some.place (sym c.place_of.ensures ∙ c.in-Some.is))

pub returns : goal.returns
unfolding read_node
returns c =
    let t = c.args.case.now.tables in
    let rows = c.rows_at.result in
    let x = read_node c.args.node.now 0 in
    c.sought.ensures
    ∙ ap (some (wanted c.args.vars.now x)) (rows_of t.rows.now c.args.case.now.rows_divided rows.start (rows.end - rows.start))
    ∙ ap (some (wanted c.args.vars.now x)) (sym (owned read_row (λ r. r.owner) no_row row_owner row_width t.rows.now t.placed.ordered c.in-Some.place
    rows.start (rows.end - rows.start) c.rows_at.ensures.grouped))
    ∙ sym (test_there (sites_in t.sites.now) (rows_in t.rows.now) c.args.vars.now x c.in-Some.place (rw (← c.word.ensures, ← c.place_of.ensures) c.in-Some.is))
