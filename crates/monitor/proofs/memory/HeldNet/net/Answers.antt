-- `monitor::memory::HeldNet::net` meets its contract: the image ends within memory, where its header says, and is accepted. Assumes nothing.
use Rattle.std.proofs.Common.{arith}
use lib.ListN.{length-take}
use Rattle.monitor.proofs.Holding.{holds_parts}
use Rattle.monitor.proofs.memory.HeldNet.net.Goals as goal

pub invariant_of-end : goal.invariant_of-end
invariant_of-end c = let net = c.args.self.now in record { long = omega (arith, (holds_parts net.memory.now net.holds).size) }

pub slice_bounds-result-end : goal.slice_bounds-result-end
slice_bounds-result-end c =
    let net = c.args.self.now in
    let h = holds_parts net.memory.now net.holds in
    omega (arith, h.size, h.fits, c.end-end.ensures.0, length-take c.end-end.result net.memory.now)

pub invariant_of-result : goal.invariant_of-result
invariant_of-result c = let net = c.args.self.now in record { accepted = rw c.end-end.ensures.0 (holds_parts net.memory.now net.holds).accepted }
