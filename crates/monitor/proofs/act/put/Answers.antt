-- `monitor::act::put` meets its contract: the writes make the memory of the net after the put. Assumes nothing.
use Rattle.std.proofs.Common.{rules, ap, length, arith}
use Rattle.monitor.specs.Memory.{state_held}
use Rattle.monitor.proofs.Readiness.{space}
use Rattle.monitor.proofs.Acting.{place_there, length_sites, put-added, put_dropped}
use Rattle.monitor.proofs.act.put.Goals as goal

pub invariant_of-of : goal.invariant_of-of
invariant_of-of c = record { long = omega (arith, (space c.args.memory.now (λ k. search rules) _ _ c.requires.0).size) }

pub write_sites-requires : goal.write_sites-requires
write_sites-requires c = let r = space c.args.memory.now (λ k. search rules) _ _ c.requires.0 in (r.source, r.target)

pub row_put-requires : goal.row_put-requires
row_put-requires c = (space c.args.memory.now (λ k. search rules) _ _ c.requires.0).owner

pub add-requires : goal.add-requires
add-requires c =
    let m = c.args.memory.now in
    let act = c.args.act.now in
    let r = space m (λ k. search rules) act.source act.target c.requires.0 in
    let w = c.args.writes.now in
    let rows = c.of-rows in
    let l = ap length c.write_sites.ensures in (
      omega (arith, place_there (state_held m) act w c.requires.1 c.in-Some.is, rows.ensures.1, r.counted),
      omega (arith, rows.ensures.1, r.few),
      omega (arith, rows.ensures.0, r.base),
      omega (arith, rows.ensures.0, rows.ensures.1, r.rows, r.end, r.size, l, length_sites m act.source w.source act.target w.target r.source r.target),
    )

pub returns-in-Some : goal.returns-in-Some
returns-in-Some c =
    put-added c.args.memory.now (λ k. search rules) c.args.act.now c.requires.0 c.args.writes.now c.requires.1 c.write_sites.ensures c.requires.2
    c.of-rows.ensures.0 c.of-rows.ensures.1 c.row_put.ensures c.in-Some.k c.add.ensures c.in-Some.is

pub returns-in_default : goal.returns-in_default
returns-in_default c =
    put_dropped c.args.memory.now (λ k. search rules) c.args.act.now c.requires.0 c.args.writes.now c.requires.1 c.write_sites.ensures c.in_default.is
