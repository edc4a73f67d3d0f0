-- `stepper::site_lines` meets its contract. The invariant: the lines of the sites so far are put. Assumes nothing.
use Rattle.net.specs.Net.{site_at, held}
use Rattle.net.specs.Image.{sites_in, rows_in}
use Rattle.lines.specs.Lines.{lines}
use Rattle.lines.specs.Pages.{Adds}
use Rattle.stepper.specs.Farmstep.{site_line}
use Rattle.stepper.proofs.site_lines.Given as goal

abbrev pub invariant-loop-k : goal.invariant-loop-k
invariant-loop-k l = Adds (lines l.k (λ k. site_line (site_at (sites_in l.sites) k) (held k (rows_in l.rows)))) l.initial.page l.page
