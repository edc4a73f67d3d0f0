-- `words::move_starts` meets its contract. The invariant: of the starts past the owner those that were gone over have moved. Assumes nothing.
use Rattle.std.proofs.Common.{◌≡◌, ◌-◌, length}
use Rattle.words.proofs.Over.{Moved, by_one, past, up}
use Rattle.words.proofs.move_starts.Given as goal

abbrev pub invariant-loop-start : goal.invariant-loop-start
invariant-loop-start g l = record {
  same_length : length l.start-items ≡ 33 - past l.owner;
  written : Moved (by_one (up g.row.UP)) l.owner l.fn.starts l.start-items l.start-index;
}
