-- `rulebook::aspect_ok` meets its contract: the tests are the rules, in groups. Assumes nothing.
use Rattle.net.specs.Image.{nodes_in}
use Rattle.rulebook.proofs.Chains.{last, on, stop}
use Rattle.rulebook.proofs.AspectRules.{aspect_tried}
use Rattle.rulebook.proofs.aspects.aspect_ok.Goals as goal

pub returns-then-cut_ok : goal.returns-then-cut_ok
returns-then-cut_ok c =
    aspect_tried c.args.sites (nodes_in c.args.nodes.now) c.args.aspects.now c.args.k c.nth-x.result c.requires c.nth-x.ensures
    (on c.owner_ok.ensures c.if-owner_ok.true
    (on c.head_ok.ensures c.if-head_ok.true (on c.cut_ok.ensures c.if-cut_ok.true (last c.names_ok.ensures))))

pub returns-else-cut_ok : goal.returns-else-cut_ok
returns-else-cut_ok c =
    aspect_tried c.args.sites (nodes_in c.args.nodes.now) c.args.aspects.now c.args.k c.nth-x.result c.requires c.nth-x.ensures
    (on c.owner_ok.ensures c.if-owner_ok.true (on c.head_ok.ensures c.if-head_ok.true (stop c.cut_ok.ensures c.if-cut_ok.false)))

pub returns-else-head_ok : goal.returns-else-head_ok
returns-else-head_ok c =
    aspect_tried c.args.sites (nodes_in c.args.nodes.now) c.args.aspects.now c.args.k c.nth-x.result c.requires c.nth-x.ensures
    (on c.owner_ok.ensures c.if-owner_ok.true (stop c.head_ok.ensures c.if-head_ok.false))

pub returns-else-owner_ok : goal.returns-else-owner_ok
returns-else-owner_ok c =
    aspect_tried c.args.sites (nodes_in c.args.nodes.now) c.args.aspects.now c.args.k c.nth-x.result c.requires c.nth-x.ensures
    (stop c.owner_ok.ensures c.if-owner_ok.false)
