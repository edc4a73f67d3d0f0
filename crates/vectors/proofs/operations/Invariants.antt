-- `vectors::operations` ends: each operation takes at least its number. Assumes nothing.
use Rattle.std.proofs.Common.{length}
use Rattle.vectors.proofs.operations.Given as goal

abbrev pub decreases-loop-script : goal.decreases-loop-script
decreases-loop-script g l = length l.script.rest.now
