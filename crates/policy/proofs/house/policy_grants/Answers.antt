-- `policy::house::policy_grants` meets its contract: the site's aspects are the stretch that `group` finds. Assumes nothing.
use Rattle.std.proofs.Common.{◌-◌}
use Rattle.net.specs.Records.{aspect_width, no_aspect, read_aspect}
use Rattle.policy.specs.House.{policy}
use Rattle.policy.proofs.Bodies.{aspect_owner}
use Rattle.policy.proofs.Chunks.{aspects_of}
use Rattle.policy.proofs.Owned.{owned}
use Rattle.policy.proofs.house.policy_grants.Goals as goal

pub returns : goal.returns
unfolding policy
returns c =
    let own = c.group.result in
    let cut = c.as_chunks.ensures in
    rw (owned read_aspect (λ x. x.owner) no_aspect aspect_owner aspect_width c.args.aspects.now c.requires.1 c.args.site own.start (own.end - own.start) c.group.ensures.grouped)
    (rw (aspects_of c.args.aspects.now (record { parts = cut.front; many = cut.front_len }) own.start (own.end - own.start)) at c.all_grant.ensures)
