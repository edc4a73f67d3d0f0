-- `monitor::ask::Net::judged` meets its contract: by whether the rules let the action pass. Assumes nothing.
use Rattle.std.proofs.Common.{arith}
use Rattle.words.proofs.Tables.{table_length}
use Rattle.net.specs.Records.{site_width, read_site}
use Rattle.net.specs.Image.{body_in}
use Rattle.format.proofs.Ordered.{accepted_names, accepted_aspects, accepted_rows}
use Rattle.monitor.proofs.Asking.{most_sites_lem, few-sites}
use Rattle.monitor.proofs.ask.Net.judged.Goals as goal

pub invariant_of-tables : goal.invariant_of-tables
invariant_of-tables c =
    let net = c.args.self.now in
    let b = net.image.bytes.now in
    let l = table_length read_site site_width (body_in b 1) in
    record {
      placed = rw (c.body-2.ensures, c.body-3.ensures) (record {
        rising = accepted_names b net.image.accepted;
        few = omega (arith, l, most_sites_lem b net.image.accepted);
        ordered = accepted_rows b net.image.accepted;
        started = net.started;
      });
    }

pub permits-passes-requires : goal.permits-passes-requires
permits-passes-requires c =
    let net = c.args.self.now in
    let b = net.image.bytes.now in
    let p = c.body-2.ensures in
    let l = table_length read_site site_width (body_in b 1) in
    (rw p (omega (arith, l, c.requires.0)), rw p (omega (arith, l, c.requires.1)), rw c.body-4.ensures (accepted_aspects b net.image.accepted))

pub allowed-requires : goal.allowed-requires
allowed-requires c = few-sites c.args.self.now.image.bytes.now c.args.self.now.image.accepted c.requires.1
