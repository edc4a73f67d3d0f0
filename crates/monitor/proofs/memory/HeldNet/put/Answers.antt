-- `monitor::memory::HeldNet::put` meets its contract: memory is ready for a put, and the starts of rows follow it. Assumes nothing.
use Rattle.std.proofs.Common.{sym, ◌∙◌, true, false}
use Rattle.monitor.specs.Memory.{state_held}
use Rattle.monitor.proofs.Acting.{place_room}
use Rattle.monitor.proofs.Doing.{put_ready, put_fits, put_memory}
use Rattle.monitor.proofs.Recounting.{starts-more, bytes_after, still, put_starts}
use Rattle.monitor.proofs.memory.HeldNet.put.Goals as goal

pub read_put-writes-requires : goal.read_put-writes-requires
read_put-writes-requires c =
    let net = c.args.self.now in
    let act = c.args.act.now in
    rw c.net.ensures (put_ready net.memory.now net.bytes net.holds act.source act c.requires).sited

pub put-requires : goal.put-requires
put-requires c =
    let net = c.args.self.now in
    let act = c.args.act.now in (
      put_ready net.memory.now net.bytes net.holds act.source act c.requires,
      rw c.net.ensures at c.read_put-writes.ensures,
      put_fits net.memory.now net.bytes net.holds act.source act c.requires,
    )

pub move_starts-requires : goal.move_starts-requires
move_starts-requires c = let net = c.args.self.now in rw net.started (starts-more net.memory.now net.bytes net.holds c.args.act.now.source)

pub invariant_of-self : goal.invariant_of-self
invariant_of-self c =
    let net = c.args.self.now in
    let m = net.memory.now in
    let act = c.args.act.now in
    let after = put_memory m net.bytes net.holds act.source act c.requires c.put.ensures in
    let room = sym (place_room (state_held m) act c.read_put-writes.result (rw c.net.ensures at c.read_put-writes.ensures)) ∙ sym c.is_some.ensures ∙ c.if-is_some.true in
    record {
      bytes = bytes_after m net.bytes net.holds act.source after;
      holds = still m net.bytes net.holds act.source after;
      started = c.move_starts.ensures ∙ rw net.started (put_starts m net.bytes net.holds act.source after act c.requires true room);
    }

pub invariant_of-self-else-is_some : goal.invariant_of-self-else-is_some
invariant_of-self-else-is_some c =
    let net = c.args.self.now in
    let m = net.memory.now in
    let act = c.args.act.now in
    let after = put_memory m net.bytes net.holds act.source act c.requires c.put.ensures in
    let room = sym (place_room (state_held m) act c.read_put-writes.result (rw c.net.ensures at c.read_put-writes.ensures)) ∙ sym c.is_some.ensures ∙ c.if-is_some.false in
    record {
      bytes = bytes_after m net.bytes net.holds act.source after;
      holds = still m net.bytes net.holds act.source after;
      started = net.started ∙ put_starts m net.bytes net.holds act.source after act c.requires false room;
    }
