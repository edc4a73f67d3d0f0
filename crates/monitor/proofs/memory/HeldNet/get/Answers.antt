-- `monitor::memory::HeldNet::get` meets its contract: memory is ready for a take or read, and the starts of rows follow it. Assumes nothing.
use Rattle.std.proofs.Common.{sym, ◌∙◌, true, false}
use Rattle.monitor.proofs.Doing.{get_ready, get_row, get_fits, get_memory}
use Rattle.monitor.proofs.Recounting.{starts-fewer, bytes_after, still, get_starts}
use Rattle.monitor.proofs.memory.HeldNet.get.Goals as goal

pub read_get-source-requires : goal.read_get-source-requires
read_get-source-requires c =
    let net = c.args.self.now in
    let m = net.memory.now in
    let act = c.args.act.now in (
      rw c.net.ensures (get_ready m net.bytes net.holds act.source act c.args.k c.requires).sited,
      rw c.net.ensures (get_row m net.bytes net.holds act.source act c.args.k c.requires),
    )

pub get-requires : goal.get-requires
get-requires c =
    let net = c.args.self.now in
    let m = net.memory.now in
    let act = c.args.act.now in (
      get_ready m net.bytes net.holds act.source act c.args.k c.requires,
      get_row m net.bytes net.holds act.source act c.args.k c.requires,
      rw c.net.ensures at c.read_get-source.ensures,
      get_fits m net.bytes net.holds act.source act c.args.k c.requires,
    )

pub move_starts-requires : goal.move_starts-requires
move_starts-requires c =
    let net = c.args.self.now in
    rw net.started (starts-fewer net.memory.now net.bytes net.holds c.args.act.now.source c.args.act.now c.args.k c.requires)

pub invariant_of-self : goal.invariant_of-self
invariant_of-self c =
    let net = c.args.self.now in
    let m = net.memory.now in
    let act = c.args.act.now in
    let after = get_memory m net.bytes net.holds act.source act c.args.k c.requires c.get.ensures in
    record {
      bytes = bytes_after m net.bytes net.holds act.source after;
      holds = still m net.bytes net.holds act.source after;
      started = c.move_starts.ensures ∙ rw net.started (get_starts m net.bytes net.holds act.source after act c.args.k c.requires true (sym c.does.ensures ∙ c.if-does.true));
    }

pub invariant_of-self-else-does : goal.invariant_of-self-else-does
invariant_of-self-else-does c =
    let net = c.args.self.now in
    let m = net.memory.now in
    let act = c.args.act.now in
    let after = get_memory m net.bytes net.holds act.source act c.args.k c.requires c.get.ensures in
    record {
      bytes = bytes_after m net.bytes net.holds act.source after;
      holds = still m net.bytes net.holds act.source after;
      started = net.started ∙ get_starts m net.bytes net.holds act.source after act c.args.k c.requires false (sym c.does.ensures ∙ c.if-does.false);
    }
