-- `rulebook::first_bad_node` meets its contract. The invariant: every node below k is good, and the row has their depths. Assumes nothing.
use Rattle.std.proofs.Common.{◌≡◌, take, length}
use Rattle.words.specs.Lists.{first_bad}
use Rattle.net.specs.Net.{names}
use Rattle.net.specs.Image.{sites_in, nodes_in}
use Rattle.rulebook.specs.Rulebook.{depths, node_ok}
use Rattle.rulebook.proofs.nodes.first_bad_node.Given as goal

abbrev pub invariant-loop-k : goal.invariant-loop-k
invariant-loop-k l = record {
  good : first_bad (node_ok (names (sites_in l.places.sites.now)) (nodes_in l.nodes)) l.k ≡ l.k;
  long : length l.row ≡ 1024;
  row_is : take l.k l.row ≡ depths (nodes_in l.nodes) l.k;
}
