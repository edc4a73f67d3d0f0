-- `stepper::loaded` meets its contract: memory that was loaded holds the net of the image. Assumes nothing.
use Rattle.std.proofs.Common.{arith}
use Rattle.lines.proofs.Pages.{adds_same}
use Rattle.stepper.specs.Farmstep.{load_line}
use Rattle.stepper.proofs.Nets.{refused_text, holds_loaded, loaded_text_lem}
use Rattle.stepper.proofs.loaded.Goals as goal

pub returns-in_default : goal.returns-in_default
unfolding load_line
returns-in_default c =
    adds_same (refused_text c.args.image.now c.large_buffer-memory.result c.args.steps.now (omega arith) c.load-verdict.ensures.value c.in_default.is)
    (rw (c.from.ensures, c.from-in_default.ensures, c.number.ensures, c.record.ensures) at c.line.ensures)

pub ran-requires : goal.ran-requires
ran-requires c =
    (holds_loaded c.args.image.now c.large_buffer-memory.result c.args.steps.now (omega arith) c.load-verdict.ensures.value c.in-Ok.is c.load-verdict.ensures.memory_after, omega arith)

pub returns : goal.returns
returns c =
    adds_same
    (loaded_text_lem c.args.image.now c.large_buffer-memory.result c.args.steps.now (omega arith) c.load-verdict.ensures.value c.in-Ok.is c.load-verdict.ensures.memory_after)
    c.ran.ensures
