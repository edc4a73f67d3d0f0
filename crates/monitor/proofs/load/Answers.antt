-- `monitor::load` meets its contract: test by test. Assumes nothing.
use Rattle.std.proofs.Common.{rules, ◌≡◌, Ok, Err}
use Rattle.format.specs.Verdict.{verdict_of}
use Rattle.monitor.proofs.Calls.{load_small, load_refused, load_fits, load_accepted}
use Rattle.monitor.proofs.load.Goals as goal

pub returns-then-memory-ne-MEMORY : goal.returns-then-memory-ne-MEMORY
returns-then-memory-ne-MEMORY c = let h = load_small c.args.image.now c.args.memory.now c.if-memory-ne-MEMORY.true in record { value = h.0; memory_after = h.1 }

pub returns-in_err-check : goal.returns-in_err-check
returns-in_err-check c =
    let e : c.from_residual.result ≡ Err c.in_err-check.field-0.0 = search rules in
    let v : verdict_of c.args.image.now ≡ Err c.in_err-check.field-0.0 = search rules in
    let h = load_refused c.args.image.now c.args.memory.now c.if-memory-ne-MEMORY.false v in
    record { value = rw e h.0; memory_after = h.1 }

pub fill-requires : goal.fill-requires
fill-requires c =
    let v : verdict_of c.args.image.now ≡ Ok tt = search rules in
    load_fits c.args.image.now c.args.memory.now c.if-memory-ne-MEMORY.false v

pub returns : goal.returns
returns c =
    let v : verdict_of c.args.image.now ≡ Ok tt = search rules in
    let h = load_accepted c.args.image.now c.args.memory.now c.if-memory-ne-MEMORY.false v c.fill.ensures in
    record { value = h.0; memory_after = h.1 }
