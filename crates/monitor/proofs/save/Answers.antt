-- `monitor::save` meets its contract: test by test. Assumes nothing.
use Rattle.std.proofs.Common.{rules, ◌≡◌, ◌∙◌, ap, length, arith, Err, None, Some}
use Rattle.words.specs.Bytes.{splice}
use Rattle.monitor.specs.declared.SaveError.TheVariants.{NoNet}
use Rattle.monitor.proofs.Holding.{holds_parts}
use Rattle.monitor.proofs.Calls.{save_none, save_short, save_whole}
use Rattle.monitor.proofs.save.Goals as goal

pub returns-in_err-image : goal.returns-in_err-image
returns-in_err-image c =
    let a : c.from_residual.result ≡ Err NoNet = search rules in
    let e : c.held.result ≡ None = search rules in
    let h = save_none c.args.memory.now c.args.out.now (rw e at c.held.ensures) in
    record { value = rw a h.0; out_after = h.1 }

pub returns-then-out-image : goal.returns-then-out-image
returns-then-out-image c =
    let e : c.held.result ≡ Some c.in_ok-image.field-0 = search rules in
    let g = rw e at c.held.ensures in
    let h = save_short c.args.memory.now c.args.out.now g.1 (omega (arith, c.if-out-image.true, ap length g.0, (holds_parts c.args.memory.now g.1).whole)) in
    record { value = h.0; out_after = h.1 }

pub returns : goal.returns
returns c =
    let e : c.held.result ≡ Some c.in_ok-image.field-0 = search rules in
    let g = rw e at c.held.ensures in
    let l = ap length g.0 ∙ (holds_parts c.args.memory.now g.1).whole in
    let h = save_whole c.args.memory.now c.args.out.now g.1 (omega (arith, c.if-out-image.false, l)) l (c.put.ensures ∙ ap (splice c.args.out.now 0) g.0) in
    record { value = h.0; out_after = h.1 }
