-- `vectors::calls::sum` is safe: both parts of the sum stay below 65,521. Assumes nothing.
use Rattle.std.proofs.Common.{◌<◌}
use Rattle.vectors.proofs.calls.sum.Given as goal

abbrev pub invariant-loop-x : goal.invariant-loop-x
invariant-loop-x l = (l.a < 65521) × (l.b < 65521)
