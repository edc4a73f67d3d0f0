-- `policy::owners::group` meets its contract: the two places are those of the definition, in order since the owners never fall. Assumes nothing.
use Rattle.std.proofs.Common.{◌≡◌, ◌+◌, ◌-◌, ◌/◌, length, get_or, refl, ◌∙◌, arith}
use Rattle.words.specs.Tables.{count_below}
use Rattle.policy.proofs.Owned.{owned_inside}
use Rattle.policy.proofs.owners.group.Goals as goal

pub returns : goal.returns
returns g c =
    let s = c.args.body.now in
    let w = g.R.Record.WIDTH in
    let n = length s / w in
    let t = c.args.owner in
    let a : c.count_below.result ≡ count_below s w n t = rw (c.WIDTH.ensures, c.count-n.ensures) at c.count_below.ensures.0 in
    let b : c.count_below-2.result ≡ count_below s w n (t + 1) = rw (c.WIDTH-2.ensures, c.count-n.ensures) at c.count_below-2.ensures.0 in
    let o = owned_inside (λ l i. get_or l i 0) (λ v. v) 0 (λ l i. refl) w s c.requires.2 t in
    let e : c.count_below.result + (c.count_below-2.result - c.count_below.result) ≡ c.count_below-2.result = omega arith in
    record { grouped = record { start = a; end = e ∙ b; inside = rw e (rw b o.1) }; ordered = omega arith }
