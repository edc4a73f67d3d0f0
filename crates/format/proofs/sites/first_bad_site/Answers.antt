-- `format::sites::first_bad_site` meets its contract: up to k every site is good, and `last` is the name before site k. Assumes nothing.
use mathlib.Core.Path.{◌≡◌, refl, ap, ◌∙◌}
use mathlib.Core.Bool.{Bool, ◌&&◌}
use mathlib.Core.List.{List}
use Prim.Native.Nat.{ℕ, ◌*◌, ◌/◌, ◌<◌}
use native.Mathlib.Numerals.{add-one}
use native.Mathlib.Omega.{arith}
use lib.Dec.{ltb}
use lib.ListN.{length, get_or, get_or-map}
use Rattle.words.specs.Lists.{before}
use Rattle.words.proofs.First.{first_none, first_more}
use Rattle.words.proofs.Tables.{table_at}
use Rattle.words.proofs.Truth.{so}
use Rattle.level.specs.Level.{dominates}
use Rattle.net.specs.Records.{site_width, no_site, read_site}
use Rattle.net.specs.Net.{names}
use Rattle.net.specs.declared.Site.{Site}
use Rattle.net.specs.Image.{sites_in}
use Rattle.format.specs.Format.{site_ok}
use Rattle.format.proofs.Searches.{stopped, ended}
use Rattle.format.proofs.sites.first_bad_site.Goals as goal

-- the name of site k, and the rules of site k, from its record
module _ (s : List ℕ) (k : ℕ) (h : k < length s / site_width) where
  name-is : get_or (names (sites_in s)) k 0 ≡ (read_site s (site_width * k)).name
  name-is = get_or-map (λ x. x.name) (sites_in s) k no_site ∙ ap (λ x. x.name) (table_at read_site site_width s k no_site h)

  abbrev here : Site
  here = read_site s (site_width * k)

  good : site_ok (sites_in s) k ≡ (ltb (before (names (sites_in s)) k) here.name && dominates here.s here.c)
  unfolding site_ok
  good = rw (name-is, table_at read_site site_width s k no_site h)

  -- what was tested of site k is its rule
  tested : {last : ℕ} {x : Site} {r : Bool} → last ≡ before (names (sites_in s)) k → x ≡ read_site s (site_width * k)
      → r ≡ (ltb last x.name && dominates x.s x.c) → r ≡ site_ok (sites_in s) k
  tested e f g = cc good

pub loop-k-init : goal.loop-k-init
loop-k-init c = record { last = refl; good = first_none _ }

pub returns-then-not-site_ok : goal.returns-then-not-site_ok
returns-then-not-site_ok c =
    let s = c.args.sites.now in
    let k = c.loop-k.k in
    let i = c.loop-k.invariant in
    let e = tested s k (omega arith) i.last c.nth-x.ensures c.site_ok.ensures in
    stopped read_site site_width s (site_ok (sites_in s)) k _ c.count-k-end.ensures i.good (so e c.if-not-site_ok.true) (omega arith)

pub loop-k-preserved : goal.loop-k-preserved
loop-k-preserved c =
    let s = c.args.sites.now in
    let k = c.loop-k.k in
    let i = c.loop-k.invariant in
    let e = tested s k (omega arith) i.last c.nth-x.ensures c.site_ok.ensures in
    record {
      last = rw add-one (cc (name-is s k (omega arith)));
      good = first_more (site_ok (sites_in s)) k i.good (so e c.if-not-site_ok.false);
    }

pub returns : goal.returns
returns c =
    let s = c.args.sites.now in
    ended read_site site_width s (site_ok (sites_in s)) c.loop-k.k _ c.count-k-end.ensures c.loop-k.invariant.good (omega arith) (omega arith)
