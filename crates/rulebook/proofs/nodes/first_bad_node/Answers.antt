-- A turn of `rulebook::first_bad_node` at a good node lengthens the row by its depth; a bad node is the first. Assumes nothing.
use Rattle.std.proofs.Common.{arith, ◌≡◌, refl, sym, ◌∙◌, length}
use lib.ListN.{length-set}
use Rattle.words.specs.Lists.{fill}
use Rattle.words.proofs.First.{first_none, first_more, failing_none, failing_here}
use Rattle.words.proofs.Tables.{table_length}
use Rattle.net.specs.Records.{node_width, read_node}
use Rattle.net.specs.Net.{names}
use Rattle.net.specs.Image.{sites_in, nodes_in}
use Rattle.rulebook.specs.Rulebook.{node_ok}
use Rattle.rulebook.proofs.Depths.{bad_here, good_here, row_more}
use Rattle.rulebook.proofs.nodes.first_bad_node.Goals as goal

pub loop-k-init : goal.loop-k-init
unfolding fill
loop-k-init c = record { good = first_none _; long = refl; row_is = refl }

pub returns-in_default : goal.returns-in_default
returns-in_default c =
    let places = names (sites_in c.args.places.sites.now) in
    let nodes = nodes_in c.args.nodes.now in
    let l = c.loop-k in
    let n = table_length read_node node_width c.args.nodes.now in
    sym (failing_here (node_ok places nodes) l.k (length nodes) l.invariant.good
    (bad_here places nodes l.row l.k l.invariant.row_is (sym c.depth_at.ensures ∙ c.in_default.is)) (omega arith))

pub loop-k-preserved : goal.loop-k-preserved
loop-k-preserved c =
    let places = names (sites_in c.args.places.sites.now) in
    let nodes = nodes_in c.args.nodes.now in
    let l = c.loop-k in
    let v = sym c.depth_at.ensures ∙ c.in-Some.is in record {
      good = first_more (node_ok places nodes) l.k l.invariant.good (good_here places nodes l.row l.k l.invariant.row_is _ v);
      long = length-set l.row l.k c.in-Some.depth ∙ l.invariant.long;
      row_is = row_more places nodes l.row l.k l.invariant.row_is _ v (omega arith);
    }

pub returns : goal.returns
returns c =
    let nodes = nodes_in c.args.nodes.now in
    let n = table_length read_node node_width c.args.nodes.now in
    let e : c.loop-k.k ≡ length nodes = omega arith in
    sym (failing_none _ (length nodes) (rw e at c.loop-k.invariant.good))
