-- Up to k every site is good, and `last` is the name before site k.
use Rattle.std.proofs.Common.{◌≡◌}
use Rattle.words.specs.Lists.{first_bad, before}
use Rattle.net.specs.Net.{names}
use Rattle.net.specs.Image.{sites_in}
use Rattle.format.specs.Format.{site_ok}
use Rattle.format.proofs.sites.first_bad_site.Given as goal

abbrev pub invariant-loop-k : goal.invariant-loop-k
invariant-loop-k l = record {
  last : l.last ≡ before (names (sites_in l.sites)) l.k;
  good : first_bad (site_ok (sites_in l.sites)) l.k ≡ l.k;
}
