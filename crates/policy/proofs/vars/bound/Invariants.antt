-- What is left of the fields and values makes of the variables so far what all of them make of the first variables.
use Rattle.std.proofs.Common.{◌≡◌}
use Rattle.net.specs.Net.{fields_of, values_of}
use Rattle.policy.specs.Match.{through, binds, bound}
use Rattle.policy.proofs.vars.bound.Given as goal

abbrev pub invariant-loop-x : goal.invariant-loop-x
invariant-loop-x l = through binds l.x-iterator.a.rest.now l.x-iterator.b.rest.now l.bound ≡ bound (fields_of l.fn.action) (values_of l.fn.row) l.fn.vars
