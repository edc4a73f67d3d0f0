-- What is known of the actions before action k is `Earlier`.
use Rattle.net.specs.Image.{actions_in}
use Rattle.format.proofs.Earlier.{Earlier}
use Rattle.format.proofs.actions.first_bad_action.Given as goal

abbrev pub invariant-loop-k : goal.invariant-loop-k
invariant-loop-k l = Earlier l.sites (actions_in l.actions) l.k l.last l.bound
