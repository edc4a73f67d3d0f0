-- `policy::house::all_grant` meets its contract: the aspects are tried one by one, and the first that does not grant decides. Assumes nothing.
use Rattle.std.proofs.Common.{rules, map, tests, sym, ◌∙◌}
use Rattle.std.proofs.lemmas.Iterator.{YieldsList-from_slice}
use Rattle.std.proofs.lemmas.Iterator.Search.{all_from_yields_List}
use Rattle.belnap.specs.Belnap.{grants}
use Rattle.words.proofs.Lists.{all_map}
use Rattle.net.specs.Records.{read_aspect}
use Rattle.net.specs.Image.{nodes_in, sites_in, rows_in}
use Rattle.policy.specs.House.{gives}
use Rattle.policy.proofs.Mandatory.{each_grants}
use Rattle.policy.proofs.house.all_grant.Goals as goal

pub returns : goal.returns
returns c =
    let t = c.args.case.now.tables in
    let g = gives (nodes_in t.nodes.now) (sites_in t.sites.now) (rows_in t.rows.now) c.args.case.now.act in
    let l = c.args.aspects.now in
    all_from_yields_List (λ x. grants (g (read_aspect x 0))) c.all.new.self _ _ c.all.ensures.ran (YieldsList-from_slice l cc) (λ x b q k. search (rules, tests))
    ∙ sym (each_grants g (map (λ x. read_aspect x 0) l) ∙ all_map (λ x. read_aspect x 0) (λ x. grants (g x)) l)
