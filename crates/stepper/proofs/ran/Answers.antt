-- `stepper::ran` meets its contract: a run that fails is LONG, and one that does not leaves the answers and the net of the steps.
-- Assumes nothing.
use Rattle.std.proofs.Common.{◌≡◌, length, rules, arith}
use Rattle.words.specs.Bytes.{Bytes}
use Rattle.monitor.specs.Memory.{most_steps}
use Rattle.lines.proofs.Pages.{adds_then, adds_same}
use Rattle.stepper.specs.Farmstep.{step_lines}
use Rattle.stepper.proofs.Printing.{steps_length}
use Rattle.stepper.proofs.Nets.{long_text, few_steps, holds_after, ran-text}
use Rattle.stepper.proofs.ran.Goals as goal

pub returns-in_default : goal.returns-in_default
returns-in_default c =
    adds_same
    (long_text c.args.memory.now c.args.steps.now c.buffer-answers.result c.requires.0 (omega arith) c.run.ensures.value (λ q. c.in_default.not-Ok tt q))
    (let seven : c.from-in_default.result ≡ 7 = search rules in rw seven at c.line.ensures)

pub step_lines-requires : goal.step_lines-requires
step_lines-requires c =
    let room : length c.buffer-answers.result ≡ most_steps = omega arith in
    let bytes : Bytes c.args.memory.now = search rules in
    let f = few_steps c.args.memory.now c.args.steps.now c.buffer-answers.result c.requires.0 room bytes c.in-Ok.ensures.value in
    (omega arith, omega arith)

pub net_lines-requires : goal.net_lines-requires
unfolding step_lines
net_lines-requires c =
    let room : length c.buffer-answers.result ≡ most_steps = omega arith in
    let bytes : Bytes c.args.memory.now = search rules in
    let f = few_steps c.args.memory.now c.args.steps.now c.buffer-answers.result c.requires.0 room bytes c.in-Ok.ensures.value in (
      holds_after c.args.memory.now c.args.steps.now c.buffer-answers.result c.requires.0 room bytes c.in-Ok.ensures.value c.run.ensures.memory_after,
      omega (arith, steps_length c.args.steps.now c.run.new.answers (length c.args.steps.now)),
    )

pub returns : goal.returns
returns c =
    let room : length c.buffer-answers.result ≡ most_steps = omega arith in
    let bytes : Bytes c.args.memory.now = search rules in
    adds_same
    (ran-text c.args.memory.now c.args.steps.now c.buffer-answers.result c.requires.0 room bytes c.in-Ok.ensures.value c.run.ensures.answers_after (omega arith) c.run.ensures.memory_after)
    (adds_then c.step_lines.ensures c.net_lines.ensures)
