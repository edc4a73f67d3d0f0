-- `stepper::net_lines` meets its contract: saving gives the image of the net, and its bodies the sites and rows. Assumes nothing.
use Rattle.std.proofs.Common.{length, sym, rules, arith}
use Rattle.std.proofs.Math.Seq.{length-take-le}
use Rattle.lines.proofs.Pages.{adds_same}
use Rattle.stepper.proofs.Nets.{save_answers, is_saved, lines-saved, few-sites}
use Rattle.stepper.proofs.net_lines.Goals as goal

pub unwrap-n-requires : goal.unwrap-n-requires
unwrap-n-requires c = rw (c.save.ensures.value, save_answers c.args.memory.now c.requires.0 (length c.large_buffer-saved.result) (omega arith)) (search rules)

pub slice_bounds-saved-end : goal.slice_bounds-saved-end
slice_bounds-saved-end c =
    (is_saved c.args.memory.now c.requires.0 c.large_buffer-saved.result (omega arith) c.save.ensures.value c.save.ensures.out_after (omega arith) c.unwrap-n.ensures).within

pub slice_bounds-image-end : goal.slice_bounds-image-end
slice_bounds-image-end c =
    sym (length-take-le _ _ (is_saved c.args.memory.now c.requires.0 c.large_buffer-saved.result (omega arith) c.save.ensures.value c.save.ensures.out_after (omega arith) c.unwrap-n.ensures).within)

pub site_lines-requires : goal.site_lines-requires
site_lines-requires c =
    let m = c.args.memory.now in
    let saved = is_saved m c.requires.0 c.large_buffer-saved.result (omega arith) c.save.ensures.value c.save.ensures.out_after (omega arith) c.unwrap-n.ensures in
    omega (arith, few-sites m c.requires.0 saved.image c.body.ensures.result_value)

pub returns : goal.returns
returns c =
    let m = c.args.memory.now in
    let saved = is_saved m c.requires.0 c.large_buffer-saved.result (omega arith) c.save.ensures.value c.save.ensures.out_after (omega arith) c.unwrap-n.ensures in
    adds_same (lines-saved m c.requires.0 saved.image c.body.ensures.result_value c.body-2.ensures.result_value) c.site_lines.ensures
