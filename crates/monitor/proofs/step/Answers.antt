-- `monitor::step` meets its contract: memory is checked, and then the step is tried. Assumes nothing.
use Rattle.std.proofs.Common.{rules, ◌≡◌, true, false}
use Rattle.monitor.specs.Memory.{holds_net, step_memory}
use Rattle.monitor.proofs.Calls.{step_none, step_tried}
use Rattle.monitor.proofs.step.Goals as goal

pub returns-in_default : goal.returns-in_default
returns-in_default c =
    let e : holds_net c.args.memory.now ≡ false = search rules in
    let h = step_none c.args.memory.now c.args.site e in
    record { value = h.0; memory_after = h.1 }

pub returns : goal.returns
returns c =
    let e : holds_net c.args.memory.now ≡ true = search rules in
    let h = step_tried c.args.memory.now c.args.site e c.step.ensures.value c.step.ensures.memory_after in
    let after : c.step.new.self.memory.now ≡ step_memory c.args.memory.now c.args.site = h.1 in
    record { value = h.0; memory_after = search (rules, after) }
