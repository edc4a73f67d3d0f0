-- `stepper::parts` meets its contract: its tests are the definition's, and it splits after the length and after the image. Assumes nothing.
use Rattle.std.proofs.Common.{arith}
use Rattle.stepper.proofs.Printing.{long_refused, short_refused, split_right}
use Rattle.stepper.proofs.parts.Goals as goal

pub returns-then-input-gt-MOST_INPUT : goal.returns-then-input-gt-MOST_INPUT
returns-then-input-gt-MOST_INPUT c = long_refused c.args.input.now (omega arith)

pub returns-in_err-length : goal.returns-in_err-length
returns-in_err-length c = rw c.from_residual.ensures (short_refused c.args.input.now c.in_err-length.ensures.cases)

pub returns : goal.returns
returns c =
    let parts = c.in_ok-length.ensures.cases in
    split_right c.args.input.now c.in_ok-length.rest.now _ (omega arith) parts.0 parts.2 (rw parts.1 at c.long_at.ensures.0) c.split_at_checked-2.ensures.cases
