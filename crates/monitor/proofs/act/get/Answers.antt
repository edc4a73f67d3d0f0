-- `monitor::act::get` meets its contract: the writes make the memory of the net after the take or read. Assumes nothing.
use Rattle.std.proofs.Common.{rules, sym, ap, ◌∙◌, length, arith}
use Rattle.monitor.proofs.Readiness.{space}
use Rattle.monitor.proofs.Acting.{length_site, got_read, got_taken}
use Rattle.monitor.proofs.act.get.Goals as goal

pub invariant_of-of : goal.invariant_of-of
invariant_of-of c = record { long = omega (arith, (space c.args.memory.now (λ k. search rules) _ _ c.requires.0).size) }

pub write_site-requires : goal.write_site-requires
write_site-requires c = (space c.args.memory.now (λ k. search rules) _ _ c.requires.0).source

pub remove-requires : goal.remove-requires
remove-requires c =
    let m = c.args.memory.now in
    let r = space m (λ k. search rules) _ _ c.requires.0 in
    let rows = c.of-rows in
    let l = ap length c.write_site.ensures in (
      omega (arith, c.requires.1, rows.ensures.1, r.counted),
      omega (arith, rows.ensures.1, r.few),
      omega (arith, rows.ensures.0, r.base),
      omega (arith, rows.ensures.0, rows.ensures.1, r.rows, r.end, r.size, l, length_site m c.args.act.now.source c.args.source r.source),
    )

pub returns-then-does : goal.returns-then-does
returns-then-does c =
    got_taken c.args.memory.now (λ k. search rules) c.args.act.now c.requires.0 c.args.k c.requires.1 c.requires.2 c.write_site.ensures
    (sym c.does.ensures ∙ c.if-does.true) c.requires.3 c.of-rows.ensures.0 c.of-rows.ensures.1 c.remove.ensures

pub returns-else-does : goal.returns-else-does
returns-else-does c =
    got_read c.args.memory.now (λ k. search rules) c.args.act.now c.requires.0 c.args.k c.requires.1 c.requires.2 c.write_site.ensures
    (sym c.does.ensures ∙ c.if-does.false)
