-- `monitor::accepted::Accepted::body` meets its contract: the contents of an accepted image are in order. Assumes nothing.
use Rattle.monitor.proofs.Asking.{contents_of}
use Rattle.monitor.proofs.accepted.Accepted.body.Goals as goal

pub invariant_of-body : goal.invariant_of-body
invariant_of-body c = record { in_order = contents_of c.args.self.bytes.now c.args.self.accepted }
