-- Up to k every row is good.
use Rattle.std.proofs.Common.{◌≡◌}
use Rattle.words.specs.Lists.{first_bad}
use Rattle.net.specs.Image.{rows_in}
use Rattle.format.specs.Format.{row_ok}
use Rattle.format.proofs.stores.first_bad_row.Given as goal

abbrev pub invariant-loop-k : goal.invariant-loop-k
invariant-loop-k l = first_bad (row_ok l.sites (rows_in l.rows)) l.k ≡ l.k
