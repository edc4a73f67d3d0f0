-- `policy::permits` meets its contract: what is gathered grants exactly if each part does; a site that acts on itself has one policy. Assumes nothing.
use Rattle.std.proofs.Common.{◌≡◌, ℕ, refl, sym, ap, ◌∙◌}
use borrow.Author.Tests.{eq-eqb, eqb-true}
use Rattle.belnap.specs.Belnap.{grants}
use Rattle.net.specs.Image.{sites_in, nodes_in, aspects_in, rows_in}
use Rattle.policy.specs.House.{terms_in, mandatory, policy, rules_of}
use Rattle.policy.proofs.Bodies.{site_in}
use Rattle.policy.proofs.Given.{judged, says_nothing, no_aspects}
use Rattle.policy.proofs.permits.Goals.{After-grants}
use Rattle.policy.proofs.permits.Goals as goal

module _ (c : After-grants) where
  -- the terms are those of the two sites
  levels : c.terms-terms.result ≡ terms_in (sites_in c.args.tables.now.sites.now) c.args.act.now
  levels = cc (site_in c.args.tables.now.sites.now c.args.act.now.source c.requires.0, site_in c.args.tables.now.sites.now c.args.act.now.target c.requires.1)

  -- what the mandatory rules gave has been looked at
  ruled : c.grants.result ≡ grants (mandatory c.args.act.now.action.capability (terms_in (sites_in c.args.tables.now.sites.now) c.args.act.now))
  ruled = c.grants.ensures ∙ ap grants (c.mandatory.ensures.0 ∙ ap (mandatory c.args.act.now.action.capability) levels)

pub invariant_of-case : goal.invariant_of-case
invariant_of-case c =
    let nodes = c.as_chunks.ensures in
    let rows = c.as_chunks-2.ensures in
    record {
      nodes_divided = record { parts = nodes.front; many = nodes.front_len };
      rows_divided = record { parts = rows.front; many = rows.front_len };
      acting = record { source_there = c.requires.0; target_there = c.requires.1; with_terms = levels (goal.at.invariant_of-case c).After-grants };
    }

pub returns-then-not-grants : goal.returns-then-not-grants
returns-then-not-grants c = judged _ _ _ _ (sym (ruled (goal.at.returns-then-not-grants c).After-grants) ∙ c.if-not-grants.true) refl refl

pub returns-then-is_empty : goal.returns-then-is_empty
returns-then-is_empty c =
    let t = c.args.tables.now in
    let act = c.args.act.now in
    let none = says_nothing (rules_of (nodes_in t.nodes.now) (aspects_in c.args.aspects.now)) (sites_in t.sites.now) (rows_in t.rows.now) act
    (no_aspects c.args.aspects.now (eqb-true _ _ (sym c.is_empty.ensures ∙ c.if-is_empty.true))) in
    judged _ _ _ _ (sym (ruled (goal.at.returns-then-is_empty c).After-grants) ∙ c.if-not-grants.false) (none act.source) (none act.target)

pub returns-then-act : goal.returns-then-act
returns-then-act c =
    let t = c.args.tables.now in
    let act = c.args.act.now in
    let from = sym c.policy_grants.ensures ∙ c.if-policy_grants.true in
    eq-eqb _ _ c.if-act.true
    ∙ judged _ _ _ _ (sym (ruled (goal.at.returns-then-act c).After-grants) ∙ c.if-not-grants.false) from
    (ap (λ (k : ℕ). grants (policy (nodes_in t.nodes.now) (sites_in t.sites.now) (rows_in t.rows.now) act k (aspects_in c.args.aspects.now))) (sym c.if-act.true) ∙ from)

pub returns-else-act : goal.returns-else-act
returns-else-act c =
    judged _ _ _ _ (sym (ruled (goal.at.returns-else-act c).After-grants) ∙ c.if-not-grants.false) (sym c.policy_grants.ensures ∙ c.if-policy_grants.true)
    (sym c.policy_grants-else-act.ensures)

pub returns-else-policy_grants : goal.returns-else-policy_grants
returns-else-policy_grants c =
    c.if-policy_grants.false
    ∙ judged _ _ _ _ (sym (ruled (goal.at.returns-else-policy_grants c).After-grants) ∙ c.if-not-grants.false) (sym c.policy_grants.ensures ∙ c.if-policy_grants.false) refl
