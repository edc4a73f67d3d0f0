-- What was worked out of the sites and rows before the rules are asked. Assumes nothing.
use Rattle.std.specs.Prelude.{ℕ, ◌/◌, ◌≤◌, ◌≡◌, List, length}
use Rattle.words.specs.Tables.{Ordered, starts_of}
use Rattle.net.specs.Records.{site_width, row_width}
use Rattle.net.specs.Net.{most_sites, names, Rising}
use Rattle.net.specs.Image.{sites_in}

-- names that rise and owners of rows that never fall, of at most 32 sites; and where the rows of each site start
pub record Placed (sites rows starts : List ℕ) : Type 0 where
  pub rising : Rising (names (sites_in sites))
  pub few : length sites / site_width ≤ most_sites
  pub ordered : Ordered row_width rows
  pub started : starts ≡ starts_of row_width rows
