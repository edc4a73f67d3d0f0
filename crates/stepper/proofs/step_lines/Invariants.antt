-- `stepper::step_lines` meets its contract. The invariant: the lines of the steps so far are put. Assumes nothing.
use Rattle.std.proofs.Common.{◌≡◌, ◌≤◌, length, get_or, drop}
use Rattle.lines.specs.Lines.{lines}
use Rattle.lines.specs.Pages.{Adds}
use Rattle.stepper.specs.Farmstep.{step_line}
use Rattle.stepper.proofs.step_lines.Given as goal

abbrev pub invariant-loop-i : goal.invariant-loop-i
invariant-loop-i l = record {
  in_range : length l.yielded ≤ length l.steps;
  index : l.i-iterator.count ≡ length l.yielded;
  sites : l.i-iterator.iter.a.rest.now ≡ drop (length l.yielded) l.steps;
  given : l.i-iterator.iter.b.rest.now ≡ drop (length l.yielded) l.answers;
  put : Adds (lines (length l.yielded) (λ i. step_line i (get_or l.steps i 0) (get_or l.answers i 0))) l.initial.page l.page;
}
