-- The site lines as the code makes them, from the bodies of sites and rows, for its contracts. Assumes nothing.
use Rattle.std.specs.Prelude.{ℕ, List, length}
use Rattle.net.specs.Net.{site_at, held}
use Rattle.net.specs.Image.{sites_in, rows_in}
use Rattle.lines.specs.Lines.{lines}
use Rattle.stepper.specs.Farmstep.{site_line}

unfoldable pub site_lines_of : List ℕ → List ℕ → List ℕ
site_lines_of sites rows = lines (length (sites_in sites)) (λ k. site_line (site_at (sites_in sites) k) (held k (rows_in rows)))
