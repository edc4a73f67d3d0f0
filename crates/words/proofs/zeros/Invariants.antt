-- `words::zeros` meets its contract: what is left of the two halves decides with what was seen of them. Assumes nothing.
use Rattle.words.proofs.Halves.{Seen}
use Rattle.words.proofs.zeros.Given as goal

abbrev pub invariant-loop-j : goal.invariant-loop-j
invariant-loop-j l = Seen l.s l.half l.j l.seen
