-- `Page::spaced` meets its contract. The invariant: the numbers so far are put. Assumes nothing.
use Rattle.std.proofs.Common.{take}
use Rattle.lines.specs.Lines.{spaced}
use Rattle.lines.specs.Pages.{Adds}
use Rattle.lines.proofs.Page.spaced.Given as goal

abbrev pub invariant-loop-n : goal.invariant-loop-n
invariant-loop-n l = Adds (spaced (take l.n-index l.numbers)) l.initial.self l.self
