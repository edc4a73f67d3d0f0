-- `monitor::run` meets its contract. The invariant: memory is that of the net after the steps so far, and their answers stand at the front of the
-- answers; the net stays well formed, so memory holds it at each step. Assumes nothing.
use Rattle.std.proofs.Common.{◌≡◌, ◌++◌, drop}
use Rattle.monitor.specs.Memory.{rules_held, state_held, memory_with}
use Rattle.monitor.proofs.Running.{state_at, numbers_at}
use Rattle.monitor.proofs.run.Given as goal

abbrev pub invariant-loop-i : goal.invariant-loop-i
invariant-loop-i l = record {
  memory_is : l.net.memory.now ≡ memory_with (rules_held l.fn.memory) (state_at (rules_held l.fn.memory) (state_held l.fn.memory) l.steps l.i);
  answers_are : l.answers ≡ numbers_at (rules_held l.fn.memory) (state_held l.fn.memory) l.steps l.i ++ drop l.i l.fn.answers;
  same_memory : l.net.memory.ghost_name ≡ l.initial.net.memory.ghost_name;
}
