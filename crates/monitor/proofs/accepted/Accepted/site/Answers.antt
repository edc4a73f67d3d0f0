-- `monitor::accepted::Accepted::site` meets its contract: the record stands at its place in the body of sites. Assumes nothing.
use Rattle.std.proofs.Common.{arith}
use Rattle.words.proofs.Tables.{table_length, table_at}
use Rattle.net.specs.Records.{site_width, no_site, read_site}
use Rattle.net.specs.Image.{body_in}
use Rattle.monitor.proofs.accepted.Accepted.site.Goals as goal

pub nth-requires : goal.nth-requires
nth-requires c = rw c.body.ensures (omega (arith, c.requires, table_length read_site site_width (body_in c.args.self.bytes.now 1)))

pub returns : goal.returns
returns c =
    let b = body_in c.args.self.bytes.now 1 in
    rw (c.nth.ensures, c.body.ensures, table_at read_site site_width b c.args.i no_site (rw (table_length read_site site_width b) at c.requires))
