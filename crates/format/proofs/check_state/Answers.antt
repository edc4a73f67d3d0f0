-- `format::check_state` meets its contract: the first bad record of the first kind that has one, in the order of the verdict. Assumes nothing.
use Rattle.std.proofs.lemmas.Result.{err_from_is_err_and}
use Rattle.net.specs.Records.{site_width, action_width, row_width, read_site, read_action, read_row}
use Rattle.format.specs.Steps.{state_verdict}
use Rattle.format.proofs.Refusals.{small, step, refused, passed, action_is, then_ordered, then_good, row_is, state_is}
use Rattle.format.proofs.check_state.Goals as goal

pub refuse-requires-clause-small : goal.refuse-requires-clause-small
refuse-requires-clause-small c =
    small c.args.image.bytes.now c.args.image.in_order read_action action_width 4 _ c.body-actions.ensures.result_value c.first_bad_action.ensures

pub returns-in_err-refuse : goal.returns-in_err-refuse
unfolding state_verdict
returns-in_err-refuse c =
    let s = c.args.image.bytes.now in
    let a = action_is s c.body-sites.ensures.result_value c.body-actions.ensures.result_value c.count-n.ensures c.first_bad_action.ensures in
    let p = err_from_is_err_and c.from_residual.result c.from_residual.ensures.1 in
    let bad = refused _ _ _ a c.in_err-refuse.ensures in
    rw (p.1, p.2) (simp bad.0 (cc))

pub refuse-requires-2-clause-small : goal.refuse-requires-2-clause-small
refuse-requires-2-clause-small c = small c.args.image.bytes.now c.args.image.in_order read_row row_width 5 _ c.body.ensures.result_value c.first_bad_row.ensures

pub returns-in_err-refuse-2 : goal.returns-in_err-refuse-2
unfolding state_verdict
returns-in_err-refuse-2 c =
    let s = c.args.image.bytes.now in
    let sites = c.body-sites.ensures.result_value in
    let a = action_is s sites c.body-actions.ensures.result_value c.count-n.ensures c.first_bad_action.ensures in
    let r = row_is s sites c.body.ensures.result_value c.count-n.ensures c.first_bad_row.ensures in
    let p = err_from_is_err_and c.from_residual-in_err-refuse-2.result c.from_residual-in_err-refuse-2.ensures.1 in
    let bad = refused _ _ _ r c.in_err-refuse-2.ensures in
    rw (p.1, p.2) (simp (passed _ _ _ a c.in_ok-refuse.ensures, bad.0) (cc))

pub invariant_of-first_bad_state : goal.invariant_of-first_bad_state
invariant_of-first_bad_state c =
    let s = c.args.image.bytes.now in
    let sites = c.body-sites.ensures.result_value in
    let actions = c.body-actions.ensures.result_value in
    let good = passed _ _ _ (action_is s sites actions c.count-n.ensures c.first_bad_action.ensures) c.in_ok-refuse.ensures in
    record { in_order = then_ordered s sites actions good; good = then_good s sites actions good }

pub refuse-requires-3-clause-small : goal.refuse-requires-3-clause-small
refuse-requires-3-clause-small c = small c.args.image.bytes.now c.args.image.in_order read_site site_width 1 _ c.body-sites.ensures.result_value c.first_bad_state.ensures

pub returns : goal.returns
unfolding state_verdict
returns c =
    let s = c.args.image.bytes.now in
    let sites = c.body-sites.ensures.result_value in
    let actions = c.body-actions.ensures.result_value in
    let a = action_is s sites actions c.count-n.ensures c.first_bad_action.ensures in
    let r = row_is s sites c.body.ensures.result_value c.count-n.ensures c.first_bad_row.ensures in
    simp (passed _ _ _ a c.in_ok-refuse.ensures, passed _ _ _ r c.in_ok-refuse-2.ensures)
    (step _ _ _ (state_is s sites actions c.first_bad_state.ensures) c.refuse-3.ensures)
