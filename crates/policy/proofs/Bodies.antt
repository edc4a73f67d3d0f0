-- The records of a body by their number: record k is the one that starts at byte w * k. Assumes nothing.
use mathlib.Core.Path.{◌≡◌, refl, ap}
use mathlib.Core.List.{List}
use Prim.Native.Nat.{ℕ, ◌+◌, ◌*◌, ◌/◌, ◌<◌}
use lib.ListN.{length, get_or}
use Rattle.words.specs.Bytes.{u16_at}
use Rattle.words.proofs.Tables.{table_at}
use Rattle.net.specs.Records.{site_width, no_site, read_site, read_aspect, read_row}
use Rattle.net.specs.Net.{site_at}
use Rattle.net.specs.Image.{sites_in}

pub site_in : (s : List ℕ) (k : ℕ) → k < length s / site_width → site_at (sites_in s) k ≡ read_site s (site_width * k)
site_in s k h = table_at read_site site_width s k no_site h

-- a site's name stands at the front of its record
pub name_in : (s : List ℕ) (k : ℕ) → k < length s / site_width → (site_at (sites_in s) k).name ≡ u16_at s (site_width * k)
unfolding read_site
name_in s k h = ap (λ x. x.name) (site_in s k h)

-- the owner of an aspect and of a row stands in the first byte
pub aspect_owner : (s : List ℕ) (i : ℕ) → (read_aspect s i).owner ≡ get_or s i 0
unfolding read_aspect
aspect_owner s i = refl

pub row_owner : (s : List ℕ) (i : ℕ) → (read_row s i).owner ≡ get_or s i 0
unfolding read_row
row_owner s i = refl

-- an aspect's condition and recommendation stand at its end
pub condition_in : (s : List ℕ) (i : ℕ) → (read_aspect s i).condition ≡ u16_at s (i + 28)
unfolding read_aspect
condition_in s i = refl

pub recommendation_in : (s : List ℕ) (i : ℕ) → (read_aspect s i).recommendation ≡ u16_at s (i + 30)
unfolding read_aspect
recommendation_in s i = refl
