-- After j actions the set has what these bind.
use Rattle.std.proofs.Common.{◌≡◌, take, drop}
use Rattle.net.specs.Image.{actions_in}
use Rattle.format.specs.Steps.{bound_by}
use Rattle.format.proofs.states.Programs.bound_by.Given as goal

abbrev pub invariant-loop-j : goal.invariant-loop-j
invariant-loop-j l = l.bound ≡ bound_by (take l.j (drop l.from (actions_in l.self.actions.now)))
