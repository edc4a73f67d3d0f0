-- `policy::rows::rows_at` meets its contract: the starts are those of the definition, in order since the owners never fall. Assumes nothing.
use Rattle.std.proofs.Common.{◌≡◌, ℕ, ◌/◌, ◌+◌, ◌<◌, List, length, get_or, ap, ◌∙◌, arith}
use Rattle.words.specs.Tables.{count_below}
use Rattle.words.proofs.Index.{start_at}
use Rattle.net.specs.Records.{row_width, no_row, read_row}
use Rattle.policy.specs.Placed.{Placed}
use Rattle.policy.proofs.Bodies.{row_owner}
use Rattle.policy.proofs.Owned.{owned_inside}
use Rattle.policy.proofs.rows.rows_at.Goals as goal

start_is : {sites rows starts : List ℕ} → Placed sites rows starts → (t : ℕ) → t < 33 → get_or starts t 0 ≡ count_below rows row_width (length rows / row_width) t
start_is {rows} p t h = ap (λ (l : List ℕ). get_or l t 0) p.started ∙ start_at row_width rows t h

pub returns : goal.returns
returns c =
    let p = c.args.tables.now.placed in
    let t = c.args.place in
    let e = start_is p t (omega arith) in
    let f = start_is p (t + 1) (omega arith) in
    let o = owned_inside read_row (λ r. r.owner) no_row row_owner row_width c.args.tables.now.rows.now p.ordered t in
    record { grouped = record { start = omega arith; end = omega arith; inside = omega arith }; ordered = omega arith }
