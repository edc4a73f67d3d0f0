-- `words::starts` meets its contract. The invariant: the first starts stand over what were zeros, and the records before k have
-- owners below the next. Assumes nothing.
use Rattle.std.proofs.Common.{◌≡◌, ℕ, ◌*◌, ◌≤◌, ◌<◌, length, get_or}
use Rattle.words.specs.Bytes.{blank}
use Rattle.words.specs.Tables.{starts_of}
use Rattle.words.proofs.Over.{over}
use Rattle.words.proofs.starts.Given as goal

abbrev pub invariant-loop-t : goal.invariant-loop-t
invariant-loop-t l = record {
  records : l.k ≤ l.n;
  same_length : length l.start-items ≡ 33;
  written : l.start-items ≡ over (blank 33) (starts_of l.w l.s) l.t-counter;
  below : (j : ℕ) → j < l.k → get_or l.s (l.w * j) 0 < l.t-counter;
}
