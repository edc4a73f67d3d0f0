-- `Page::number` meets its contract: the fewest digits that hold a number are its decimal. Assumes nothing.
use Rattle.std.proofs.Common.{◌∙◌, arith}
use Rattle.lines.proofs.Texts.{twenty, decimal_is}
use Rattle.lines.proofs.Pages.{adds_same}
use Rattle.lines.proofs.Page.number.Goals as goal

pub returns : goal.returns
returns c =
    let d = c.decimal-k in
    let n = c.args.n in
    let e = d.ensures.digits ∙ decimal_is n d.result d.ensures.len (twenty n d.result d.ensures.len (omega arith)) in
    adds_same e c.text.ensures
