-- `Page::gap` meets its contract: a space, then the number. Assumes nothing.
use mathlib.Core.List.{append-nil}
use Rattle.lines.specs.Lines.{spaced}
use Rattle.lines.proofs.Pages.{adds_then}
use Rattle.lines.proofs.Page.gap.Goals as goal

pub returns : goal.returns
unfolding spaced
returns c = rw append-nil (adds_then c.text.ensures c.number.ensures)
