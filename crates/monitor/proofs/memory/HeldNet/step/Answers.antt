-- `monitor::memory::HeldNet::step` meets its contract: what asking found is done if it is a grant. Assumes nothing.
use Rattle.std.proofs.Common.{rules}
use Rattle.monitor.specs.Memory.{rules_held, state_held}
use Rattle.monitor.proofs.Doing.{granted_answer, granted_source, refused_answer, tried_not}
use Rattle.monitor.proofs.memory.HeldNet.step.Goals as goal

pub act-requires : goal.act-requires
act-requires c =
    let m = c.args.self.now.memory.now in
    let p = rw c.net.ensures at c.in-Ok.ensures in
    rw (granted_source (rules_held m) (state_held m) c.args.site c.in-Ok.grant p) p

pub returns-in-Ok : goal.returns-in-Ok
returns-in-Ok c =
    let m = c.args.self.now.memory.now in
    let p = rw c.net.ensures at c.in-Ok.ensures in
    let x = c.in-Ok.grant in
    record {
      value = granted_answer (rules_held m) (state_held m) c.args.site x p;
      memory_after = rw (granted_source (rules_held m) (state_held m) c.args.site x p) at c.act.ensures.memory_after;
      same_memory = c.act.ensures.same_memory;
    }

pub returns-in-Err : goal.returns-in-Err
returns-in-Err c =
    let net = c.args.self.now in
    let m = net.memory.now in
    let p = rw c.net.ensures at c.in-Err.ensures in
    record {
      value = refused_answer (rules_held m) (state_held m) c.args.site c.in-Err.answer p;
      memory_after = tried_not m net.bytes net.holds c.args.site c.in-Err.answer p;
      same_memory = search rules;
    }
