-- The six two-place operators by name: where each stands in their order. Assumes nothing.
use Rattle.std.specs.Prelude.{ℕ}
use Rattle.belnap.specs.declared.Operator.{Operator}
use Rattle.belnap.specs.declared.Operator.TheVariants.{And, Or, Consensus, Gather, Implies, Before}

abbrev pub place : Operator → ℕ
place And = 0
place Or = 1
place Consensus = 2
place Gather = 3
place Implies = 4
place Before = 5
