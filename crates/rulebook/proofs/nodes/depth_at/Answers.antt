-- `rulebook::depth_at` meets its contract: a node whose kind, a or b is bad has no depth, and one more than a depth below the limit fits.
-- Assumes nothing.
use Rattle.std.proofs.Common.{rules, sym, ◌∙◌, eqb}
use borrow.Author.Tests.{ltb-true}
use Rattle.words.proofs.Truth.{both_right}
use Rattle.net.specs.Net.{names}
use Rattle.net.specs.Image.{sites_in, nodes_in}
use Rattle.rulebook.proofs.Depths.{node_is, bad_kind, bad_first, bad_second}
use Rattle.rulebook.proofs.nodes.depth_at.Goals as goal

pub returns-in_err-a : goal.returns-in_err-a
returns-in_err-a c =
    let same = c.nth-x.ensures ∙ sym (node_is c.args.nodes.now _ c.requires) in
    c.from_residual.ensures
    ∙ sym (bad_kind (names (sites_in c.args.places.sites.now)) (nodes_in c.args.nodes.now) c.args.row.now c.nth-x.result same (sym c.parts.ensures ∙ c.in_err-a.was))

pub returns-in_err-first : goal.returns-in_err-first
returns-in_err-first c =
    let same = c.nth-x.ensures ∙ sym (node_is c.args.nodes.now _ c.requires) in
    let of_kind = sym c.parts.ensures ∙ c.in_ok-a.was in
    c.from_residual-in_err-first.ensures
    ∙ sym (bad_first (names (sites_in c.args.places.sites.now)) (nodes_in c.args.nodes.now) c.args.row.now c.nth-x.result same c.in_ok-a.a c.in_ok-a.b of_kind
    (sym c.part_depth.ensures ∙ c.in_err-first.was))

pub returns-in_err-second : goal.returns-in_err-second
returns-in_err-second c =
    let same = c.nth-x.ensures ∙ sym (node_is c.args.nodes.now _ c.requires) in
    let of_kind = sym c.parts.ensures ∙ c.in_ok-a.was in
    c.from_residual-in_err-second.ensures
    ∙ sym (bad_second (names (sites_in c.args.places.sites.now)) (nodes_in c.args.nodes.now) c.args.row.now c.nth-x.result same c.in_ok-a.a c.in_ok-a.b of_kind
    (sym c.part_depth-2.ensures ∙ c.in_err-second.was))

pub overflow_add-result : goal.overflow_add-result
overflow_add-result c =
    let h = ltb-true _ _ (both_right c.asked_ok.result (both_right (eqb c.nth-x.result.zero 0) c.if-x-asked_ok.true)) in search rules
