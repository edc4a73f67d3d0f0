-- The records of one owner, in a body whose owners, the first bytes of its records, never fall. Assumes nothing.
use Rattle.std.specs.Prelude.{ℕ, ◌+◌, ◌/◌, ◌≤◌, ◌≡◌, List, length}
use Rattle.words.specs.Tables.{count_below}

-- the records of owner t are `count` from number `first` on: those before them have smaller owners, and with them no larger
pub record Grouped (w : ℕ) (s : List ℕ) (t first count : ℕ) : Type 0 where
  pub start : first ≡ count_below s w (length s / w) t
  pub end : first + count ≡ count_below s w (length s / w) (t + 1)
  pub inside : first + count ≤ length s / w
