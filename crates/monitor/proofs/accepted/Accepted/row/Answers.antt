-- `monitor::accepted::Accepted::row` meets its contract: the record stands at its place in the body of rows. Assumes nothing.
use Rattle.std.proofs.Common.{arith}
use Rattle.words.proofs.Tables.{table_length, table_at}
use Rattle.net.specs.Records.{row_width, no_row, read_row}
use Rattle.net.specs.Image.{body_in}
use Rattle.monitor.proofs.accepted.Accepted.row.Goals as goal

pub nth-requires : goal.nth-requires
nth-requires c = rw c.body.ensures (omega (arith, c.requires, table_length read_row row_width (body_in c.args.self.bytes.now 5)))

pub returns : goal.returns
returns c =
    let b = body_in c.args.self.bytes.now 5 in
    rw (c.nth.ensures, c.body.ensures, table_at read_row row_width b c.args.k no_row (rw (table_length read_row row_width b) at c.requires))
