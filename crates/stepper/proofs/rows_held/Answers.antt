-- `stepper::rows_held` meets its contract: it counts the rows whose owner is the site. Assumes nothing.
use Rattle.std.proofs.Common.{ℕ, ◌*◌, ◌/◌, rules, arith, tests, length, ◌∙◌}
use Rattle.std.proofs.Math.Dec.{eqb}
use Rattle.std.proofs.lemmas.Iterator.{YieldsList-from_range}
use Rattle.std.proofs.lemmas.Iterator.Consumers.{YieldsList-from_filter, count_from_yields_List}
use Rattle.net.specs.Records.{row_width, read_row}
use Rattle.stepper.proofs.Printing.{held_by}
use Rattle.stepper.proofs.rows_held.Goals as goal

pub returns : goal.returns
returns c =
    let rows = c.args.rows.now in
    let n = length rows / row_width in
    let is_held = λ (k : ℕ). eqb (read_row rows (row_width * k)).owner c.args.site in
    count_from_yields_List c.filter.result c.count-2.result c.count-2.ensures.ran
    (YieldsList-from_filter _ is_held (YieldsList-from_range 0 n n (cc) (omega arith)) c.filter.ensures.closure (λ x b q k. search (rules, tests)))
    ∙ held_by rows c.args.site
