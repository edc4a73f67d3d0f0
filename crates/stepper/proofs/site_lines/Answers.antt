-- A turn of `stepper::site_lines` puts one line more, for which there is room. Assumes nothing.
use Rattle.std.proofs.Common.{◌≡◌, ℕ, List, length, sym, ◌∙◌, arith}
use Rattle.words.proofs.Tables.{table_length, table_at}
use Rattle.net.specs.Records.{site_width, no_site, read_site}
use Rattle.net.specs.Net.{site_at, held}
use Rattle.net.specs.Image.{sites_in, rows_in}
use Rattle.lines.proofs.Texts.{lines_none, lines_more}
use Rattle.lines.proofs.Pages.{adds_then, adds_none}
use Rattle.stepper.specs.Farmstep.{site_line}
use Rattle.stepper.specs.Bodies.{site_lines_of}
use Rattle.stepper.proofs.Printing.{sites_length}
use Rattle.stepper.proofs.site_lines.Goals as goal

abbrev text : List ℕ → List ℕ → ℕ → List ℕ
text sites rows k = site_line (site_at (sites_in sites) k) (held k (rows_in rows))

pub loop-k-init : goal.loop-k-init
loop-k-init c = rw (lines_none (text c.args.sites.now c.args.rows.now)) (adds_none _ (omega arith))

pub site_line-requires : goal.site_line-requires
site_line-requires c = omega (arith, sites_length c.args.sites.now c.args.rows.now c.loop-k.k)

pub loop-k-preserved : goal.loop-k-preserved
loop-k-preserved c =
    let e = c.nth-site.ensures ∙ sym (table_at read_site site_width c.args.sites.now c.loop-k.k no_site (omega arith)) in
    let q = c.rows_held.ensures in
    rw (lines_more (text c.args.sites.now c.args.rows.now)) (adds_then c.loop-k.invariant (rw (e, q) at c.site_line.ensures))

pub returns : goal.returns
unfolding site_lines_of
returns c =
    let sites = c.args.sites.now in
    let e : c.loop-k.k ≡ length (sites_in sites) = omega (arith, table_length read_site site_width sites) in
    rw e at c.loop-k.invariant
