-- `several` builds its list: each call of the closure reads one record. Assumes nothing.
use Rattle.std.proofs.Common.{rules, ◌+◌, ◌*◌}
use Rattle.net.proofs.FromFn.{from_fn_builds}
use Rattle.net.proofs.several.Goals as goal

pub returns : goal.returns
returns g c =
    from_fn_builds _ _ (λ k. g.R.Record.read_of c.args.s.now (c.args.at + g.R.Record.WIDTH * k)) (λ x r f called. search rules) _ _ c.from_fn.ensures.items
