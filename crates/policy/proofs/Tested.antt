-- What a test comes to: nothing where the named place is no site, and else a look at the rows of that site alone. Assumes nothing.
use Rattle.std.specs.Prelude.{None, Some}
use mathlib.Core.Path.{◌≡◌, refl, ap}
use mathlib.Core.Bool.{Bool, true, false, cond, ◌&&◌, ◌||◌}
use mathlib.Core.List.{List, [], ◌∷◌}
use Prim.Native.Nat.{ℕ, ◌/◌, ◌<◌}
use lib.Dec.{eqb}
use lib.ListN.{length, length-map}
use Rattle.words.specs.Lists.{some, those}
use Rattle.words.proofs.First.{found_at}
use Rattle.words.proofs.Tables.{table_length}
use Rattle.net.specs.Records.{site_width, read_site}
use Rattle.net.specs.Net.{names, place_of, store}
use Rattle.net.specs.Image.{sites_in}
use Rattle.net.specs.declared.Node.{Node}
use Rattle.net.specs.declared.Row.{Row}
use Rattle.net.specs.declared.Site.{Site}
use Rattle.policy.specs.House.{wanted, test_of}

-- a place that was found is a site's number
pub place_there : (s : List ℕ) (wanted place : ℕ) → place_of (names (sites_in s)) wanted ≡ Some place → place < length s / site_width
unfolding place_of
place_there s wanted place e =
    let h = (found_at _ (length (names (sites_in s))) place e).0 in
    rw (length-map (sites_in s) (λ x. x.name), table_length read_site site_width s) at h

-- some element of one key
some-those : {A : Type 0} (f : A → ℕ) (t : ℕ) (p : A → Bool) (l : List A) → some (λ x. eqb (f x) t && p x) l ≡ some p (those (λ x. eqb (f x) t) l)
some-those f t p [] = refl
some-those f t p (x ∷ l) = pick (eqb (f x) t) (those (λ y. eqb (f y) t) l) (some-those f t p l)
  where
    pick : {b : Bool} (a : Bool) (m : List _) → b ≡ some p m → ((a && p x) || b) ≡ some p (cond a (x ∷ m) m)
    pick true m e = ap (λ (b : Bool). p x || b) e
    pick false m e = e

some_none : {A : Type 0} (l : List A) → some (λ x. false) l ≡ false
some_none [] = refl
some_none (x ∷ l) = some_none l

module _ (sites : List Site) (rows : List Row) (vars : List ℕ) (x : Node) where
  pub test_nowhere : place_of (names sites) x.a ≡ None → test_of sites rows vars x ≡ false
  unfolding test_of
  test_nowhere e = rw e (some_none rows)

  pub test_there : (place : ℕ) → place_of (names sites) x.a ≡ Some place → test_of sites rows vars x ≡ some (wanted vars x) (store place rows)
  unfolding test_of
  test_there place e = rw e (some-those (λ r. r.owner) place (wanted vars x) rows)
