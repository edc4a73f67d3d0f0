-- The names before `base` are smaller than the wanted one, those from `size` further on are larger; the order of the names carries this over
-- to a whole half.
use Rattle.std.proofs.Common.{ℕ, ◌+◌, ◌*◌, ◌/◌, ◌≤◌, ◌<◌, length}
use Rattle.words.specs.Bytes.{u16_at}
use Rattle.net.proofs.place_of.Given as goal

abbrev pub invariant-loop-size : goal.invariant-loop-size
invariant-loop-size l = record {
  one_left : 0 < l.size;
  in_range : l.base + l.size ≤ length l.sites / 32;
  smaller : (k : ℕ) → k < l.base → u16_at l.sites (32 * k) < l.wanted;
  larger : (k : ℕ) → l.base + l.size ≤ k → k < length l.sites / 32 → l.wanted < u16_at l.sites (32 * k);
}

abbrev pub decreases-loop-size : goal.decreases-loop-size
decreases-loop-size l = l.size
