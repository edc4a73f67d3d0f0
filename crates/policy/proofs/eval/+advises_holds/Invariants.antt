-- Each one's measure is `top`: a node's children are asked for below the node itself.
use Rattle.policy.proofs.eval.+advises_holds.Given as goal

abbrev pub decreases-advises : goal.decreases-advises
decreases-advises l = l.top

abbrev pub decreases-holds : goal.decreases-holds
decreases-holds l = l.top
