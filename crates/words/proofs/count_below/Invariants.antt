-- `words::count_below` meets its contract. The invariant: every record below `low` begins below the bound, and the one at `high` does not; the
-- order of the records carries this over to a whole half. Assumes nothing.
use Rattle.std.proofs.Common.{ℕ, ◌-◌, ◌*◌, ◌≤◌, ◌<◌, get_or}
use Rattle.words.proofs.count_below.Given as goal

abbrev pub invariant-loop-low : goal.invariant-loop-low
invariant-loop-low l = record {
  ordered : l.low ≤ l.high;
  within : l.high ≤ l.n;
  below : (k : ℕ) → k < l.low → get_or l.s (l.w * k) 0 < l.bound;
  above : l.high < l.n → l.bound ≤ get_or l.s (l.w * l.high) 0;
}

abbrev pub decreases-loop-low : goal.decreases-loop-low
decreases-loop-low l = l.high - l.low
