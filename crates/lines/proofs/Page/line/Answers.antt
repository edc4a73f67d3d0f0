-- `Page::line` meets its contract: the word, then the numbers, then the end. Assumes nothing.
use Rattle.std.proofs.Common.{arith}
use Rattle.lines.specs.Lines.{line}
use Rattle.lines.proofs.Texts.{spaced-length}
use Rattle.lines.proofs.Pages.{adds_then}
use Rattle.lines.proofs.Page.line.Goals as goal

pub text-requires-2 : goal.text-requires-2
text-requires-2 c = omega (arith, spaced-length c.args.numbers.now)

pub returns : goal.returns
unfolding line
returns c = adds_then c.text.ensures (adds_then c.spaced.ensures c.text-2.ensures)
