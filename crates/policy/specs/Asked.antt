-- What the evaluators ask of an action before the rules of the house. Assumes nothing.
use Rattle.std.specs.Prelude.{ℕ, ◌/◌, ◌<◌, ◌≡◌, List, length}
use Rattle.std.specs.Simd.{first_chunks}
use Rattle.net.specs.Records.{site_width}
use Rattle.net.specs.Image.{sites_in}
use Rattle.policy.specs.House.{terms_in}
use Rattle.policy.specs.declared.Act.{Act}

-- an action between two sites that are there, with its terms
pub record Acting (act : Act) (sites terms : List ℕ) : Type 0 where
  pub source_there : act.source < length sites / site_width
  pub target_there : act.target < length sites / site_width
  pub with_terms : terms ≡ terms_in (sites_in sites) act

-- a body of records of width w, divided into the bytes of each
pub record Divided (w : ℕ) (s : List ℕ) (records : List (List ℕ)) : Type 0 where
  pub parts : records ≡ first_chunks w (length s / w) s
  pub many : length records ≡ length s / w
