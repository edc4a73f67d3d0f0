-- `monitor::accepted::Accepted::starts` meets its contract: the rows of an image are few. Assumes nothing.
use Rattle.std.proofs.Common.{arith}
use Rattle.monitor.proofs.Asking.{contents_of}
use Rattle.monitor.proofs.Starts.{few-rows}
use Rattle.monitor.proofs.accepted.Accepted.starts.Goals as goal

pub starts-requires : goal.starts-requires
starts-requires c = (omega arith, rw c.body.ensures (omega (arith, few-rows c.args.self.bytes.now (contents_of c.args.self.bytes.now c.args.self.accepted))))
