-- What is left of the patterns and fields makes of the variables so far what all of them make of the first variables.
use Rattle.std.proofs.Common.{◌≡◌, take, drop}
use Rattle.net.specs.Records.{read_aspect}
use Rattle.net.specs.Net.{fields_of}
use Rattle.policy.specs.Match.{through}
use Rattle.policy.specs.House.{takes}
use Rattle.policy.proofs.cut.fields_take.Given as goal

abbrev pub invariant-loop-i : goal.invariant-loop-i
invariant-loop-i l =
    through takes (drop l.i (take (read_aspect l.aspect 0).count (read_aspect l.aspect 0).fields)) (drop l.i (fields_of l.action)) l.vars
    ≡ through takes (take (read_aspect l.aspect 0).count (read_aspect l.aspect 0).fields) (fields_of l.action) l.fn.vars
