-- `stepper::step_line` meets its contract: the index, then the two numbers. Assumes nothing.
use Rattle.std.proofs.Common.{arith}
use Rattle.lines.proofs.Texts.{decimal-length}
use Rattle.lines.proofs.Pages.{adds_then}
use Rattle.stepper.specs.Farmstep.{step_line}
use Rattle.stepper.proofs.step_line.Goals as goal

pub line-requires : goal.line-requires
line-requires c = omega (arith, decimal-length c.args.index)

pub returns : goal.returns
unfolding step_line
returns c = rw (← c.from.ensures, ← c.from-2.ensures) (adds_then c.number.ensures c.line.ensures)
