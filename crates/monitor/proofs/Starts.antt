-- The starts of rows bound the rows of each site: those of site t stand from entry t up to entry t + 1, so that the difference says how many
-- they are. Assumes nothing.
use mathlib.Core.Path.{◌≡◌, sym, ap, ◌∙◌}
use mathlib.Core.Bool.{true}
use mathlib.Core.List.{List}
use Prim.Native.Nat.{ℕ, ◌+◌, ◌-◌, ◌/◌, ◌≤◌, ◌<◌}
use native.Mathlib.Omega.{arith}
use lib.ListN.{length, get_or}
use Rattle.words.specs.Tables.{Ordered, count_below, starts_of}
use Rattle.words.proofs.Tables.{table_length, build_same}
use Rattle.words.proofs.Groups.{below, table_below}
use Rattle.words.proofs.Index.{starts_built, start_at, start_most}
use Rattle.net.specs.Records.{row_width, no_row, read_row}
use Rattle.net.specs.Net.{held}
use Rattle.net.specs.Image.{most_of, contents_ok, body_in, rows_in}
use Rattle.net.specs.declared.Row.{Row}
use Rattle.net.proofs.Bodies.{entry_of, rows-count}
use Rattle.monitor.proofs.Stretches.{row-front, begins-ends, owned_count}

module _ (s : List ℕ) (order : Ordered row_width s) (t : ℕ) (h : t < 32) where
  pub starts_begin : get_or (starts_of row_width s) t 0 ≡ count_below s row_width (length s / row_width) t
  starts_begin = start_at row_width s t (omega arith)

  pub starts_end : get_or (starts_of row_width s) (t + 1) 0 ≡ count_below s row_width (length s / row_width) (t + 1)
  starts_end = start_at row_width s (t + 1) (omega arith)

  pub starts_rise : get_or (starts_of row_width s) t 0 ≤ get_or (starts_of row_width s) (t + 1) 0
  starts_rise = rw (starts_begin, starts_end) (begins-ends (λ x. x.owner) no_row read_row row-front row_width s order t)

  pub starts_held_lem : held t (rows_in s) ≡ get_or (starts_of row_width s) (t + 1) 0 - get_or (starts_of row_width s) t 0
  starts_held_lem = rw (starts_begin, starts_end) (owned_count (λ x. x.owner) no_row read_row row-front row_width s order t)

-- the same rows have the same starts
pub starts_same : (s r : List ℕ) → rows_in r ≡ rows_in s → starts_of row_width r ≡ starts_of row_width s
starts_same s r e =
    starts_built row_width r
    ∙ build_same 33 (count_below r row_width (length r / row_width)) (count_below s row_width (length s / row_width))
    (λ t h. table_below (λ x. x.owner) no_row read_row row-front row_width r t
    ∙ ap (λ (l : List Row). below (λ x. x.owner) no_row l t) e
    ∙ sym (table_below (λ x. x.owner) no_row read_row row-front row_width s t))
    ∙ sym (starts_built row_width s)

-- ---- of an image whose contents are in order
module _ (b : List ℕ) (ok : contents_ok b ≡ true) where
  pub few-rows : length (body_in b 5) / row_width ≤ 512
  unfolding most_of
  few-rows = omega (arith, table_length read_row row_width (body_in b 5), rows-count b ok, (entry_of b ok 5 (omega arith) (omega arith)).most)

  pub starts_small : (t : ℕ) → get_or (starts_of row_width (body_in b 5)) t 0 ≤ 512
  starts_small t = let f = few-rows in omega (arith, start_most row_width (body_in b 5) t)
