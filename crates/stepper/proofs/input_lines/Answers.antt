-- `stepper::input_lines` meets its contract: an input that is right is an image and steps. Assumes nothing.
use Rattle.stepper.specs.Farmstep.{printed}
use Rattle.stepper.proofs.input_lines.Goals as goal

pub returns-in-Some : goal.returns-in-Some
unfolding printed
returns-in-Some c = let p = c.in-Some.ensures in rw (p.0, ← p.1, ← p.2) c.loaded.ensures

pub returns-in-None : goal.returns-in-None
unfolding printed
returns-in-None c = rw c.in-None.ensures c.line.ensures
