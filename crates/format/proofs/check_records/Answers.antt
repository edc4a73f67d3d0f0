-- `format::check_records` meets its contract: the first bad record of the first kind that has one, in the order of the verdict. Assumes nothing.
use Rattle.std.proofs.lemmas.Result.{err_from_is_err_and}
use Rattle.net.specs.Records.{site_width, node_width, aspect_width, read_site, read_node, read_aspect}
use Rattle.format.specs.Verdict.{records_verdict}
use Rattle.format.specs.Steps.{state_verdict}
use Rattle.format.proofs.Refusals.{nodes_few, small, refused, passed, site_is, then_rising, node_is, aspect_is}
use Rattle.format.proofs.check_records.Goals as goal

pub refuse-requires-clause-small : goal.refuse-requires-clause-small
refuse-requires-clause-small c = small c.args.image.bytes.now c.args.image.in_order read_site site_width 1 _ c.body-sites.ensures.result_value c.first_bad_site.ensures

pub returns-in_err-refuse : goal.returns-in_err-refuse
unfolding records_verdict
returns-in_err-refuse c =
    let p = err_from_is_err_and c.from_residual.result c.from_residual.ensures.1 in
    let bad = refused _ _ _ (site_is c.args.image.bytes.now c.body-sites.ensures.result_value c.first_bad_site.ensures) c.in_err-refuse.ensures in
    rw (p.1, p.2) (simp bad.0 (cc))

pub first_bad_node-requires : goal.first_bad_node-requires
first_bad_node-requires c = nodes_few c.args.image.bytes.now c.args.image.in_order c.body-nodes.ensures.result_value

pub invariant_of-first_bad_node : goal.invariant_of-first_bad_node
invariant_of-first_bad_node c =
    let s = c.args.image.bytes.now in
    let sites = c.body-sites.ensures.result_value in
    record { rising = then_rising s sites (passed _ _ _ (site_is s sites c.first_bad_site.ensures) c.in_ok-refuse.ensures) }

pub refuse-requires-2-clause-small : goal.refuse-requires-2-clause-small
refuse-requires-2-clause-small c = small c.args.image.bytes.now c.args.image.in_order read_node node_width 2 _ c.body-nodes.ensures.result_value c.first_bad_node.ensures

pub returns-in_err-refuse-2 : goal.returns-in_err-refuse-2
unfolding records_verdict
returns-in_err-refuse-2 c =
    let s = c.args.image.bytes.now in
    let sites = c.body-sites.ensures.result_value in
    let p = err_from_is_err_and c.from_residual-in_err-refuse-2.result c.from_residual-in_err-refuse-2.ensures.1 in
    let good = passed _ _ _ (site_is s sites c.first_bad_site.ensures) c.in_ok-refuse.ensures in
    let bad = refused _ _ _ (node_is s sites c.body-nodes.ensures.result_value c.first_bad_node.ensures) c.in_err-refuse-2.ensures in
    rw (p.1, p.2) (simp (good, bad.0) (cc))

pub refuse-requires-3-clause-small : goal.refuse-requires-3-clause-small
refuse-requires-3-clause-small c =
    small c.args.image.bytes.now c.args.image.in_order read_aspect aspect_width 3 _ c.body-aspects.ensures.result_value c.first_bad_aspect.ensures

pub returns-in_err-refuse-3 : goal.returns-in_err-refuse-3
unfolding records_verdict
returns-in_err-refuse-3 c =
    let s = c.args.image.bytes.now in
    let sites = c.body-sites.ensures.result_value in
    let nodes = c.body-nodes.ensures.result_value in
    let p = err_from_is_err_and c.from_residual-in_err-refuse-3.result c.from_residual-in_err-refuse-3.ensures.1 in
    let good = passed _ _ _ (site_is s sites c.first_bad_site.ensures) c.in_ok-refuse.ensures in
    let nodes_good = passed _ _ _ (node_is s sites nodes c.first_bad_node.ensures) c.in_ok-refuse-2.ensures in
    let a = aspect_is s sites nodes c.body-aspects.ensures.result_value c.count.ensures c.first_bad_aspect.ensures in
    let bad = refused _ _ _ a c.in_err-refuse-3.ensures in
    rw (p.1, p.2) (simp (good, nodes_good, bad.0) (cc))

pub returns : goal.returns
unfolding records_verdict state_verdict
returns c =
    let s = c.args.image.bytes.now in
    let sites = c.body-sites.ensures.result_value in
    let nodes = c.body-nodes.ensures.result_value in
    let good = passed _ _ _ (site_is s sites c.first_bad_site.ensures) c.in_ok-refuse.ensures in
    let nodes_good = passed _ _ _ (node_is s sites nodes c.first_bad_node.ensures) c.in_ok-refuse-2.ensures in
    let a = aspect_is s sites nodes c.body-aspects.ensures.result_value c.count.ensures c.first_bad_aspect.ensures in
    simp (good, nodes_good, passed _ _ _ a c.in_ok-refuse-3.ensures) c.check_state.ensures
