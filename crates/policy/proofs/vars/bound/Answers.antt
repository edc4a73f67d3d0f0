-- `policy::bound` meets its contract: the fields take the values one by one, as far as both go. Assumes nothing.
use Rattle.std.proofs.Common.{◌≡◌, sym, ◌∙◌, inl, inr, arith}
use Rattle.net.specs.Net.{fields_of, values_of}
use Rattle.policy.specs.Match.{binds, bound}
use Rattle.policy.proofs.Places.{through_turn, through_none}
use Rattle.policy.proofs.vars.bound.Goals as goal

pub loop-x-init : goal.loop-x-init
unfolding bound
loop-x-init c =
    let e : c.into_iter-x-iterator.result.a.rest.now ≡ fields_of c.args.action = cc in
    let g : c.into_iter-x-iterator.result.b.rest.now ≡ values_of c.args.row = cc in
    rw (e, g)

pub loop-x-preserved-then-has : goal.loop-x-preserved-then-has
unfolding binds
loop-x-preserved-then-has c =
    let n = c.in-Some.ensures.steps in
    through_turn binds n.0 n.1 (rw (← c.has.ensures, c.if-has.true) c.assign.ensures) ∙ c.loop-x.invariant

pub loop-x-preserved : goal.loop-x-preserved
unfolding binds
loop-x-preserved c =
    let n = c.in-Some.ensures.steps in
    through_turn binds n.0 n.1 (rw (← c.has.ensures, c.if-has.false)) ∙ c.loop-x.invariant

pub returns : goal.returns
returns c =
    let left = c.loop-x.x-iterator in
    sym (through_none binds left.a.rest.now left.b.rest.now c.loop-x.bound (elim c.in-None.ensures.steps [ inl p ↦ omega (arith, p.1.0) | inr p ↦ omega (arith, p.1.0) ]))
    ∙ c.loop-x.invariant
