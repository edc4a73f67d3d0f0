-- The two evaluators meet their contracts: a node is worked out by the name of its kind, from its children below it. Assumes nothing.
use Rattle.std.proofs.Common.{refl, ◌∙◌, arith, Ok, Err}
use mathlib.Core.Logic.{inl, inr}
use Rattle.net.specs.declared.codes.Condition.TheVariants.{Always, Not, And, Or, Equal, Test, Dominates, Grants}
use Rattle.net.specs.declared.codes.Advice.TheVariants.{Constant, Of, Not as AdviceNot, Two}
use Rattle.net.specs.Records.{four_operands, read_node}
use Rattle.policy.proofs.Values.{second_value, yes_past, yes_here, advice_past, advice_here}
use Rattle.policy.proofs.eval.+advises_holds.Goals.{advises-then-settles, advises-else-settles}
use Rattle.policy.proofs.eval.+advises_holds.Goals as goal

pub advises-returns-then-top-n : goal.advises-returns-then-top-n
advises-returns-then-top-n t c = advice_past _ _ _ _ c.if-top-n.true

pub advises-returns-in-Ok-Constant : goal.advises-returns-in-Ok-Constant
unfolding read_node
advises-returns-in-Ok-Constant t c = advice_here _ _ _ _ c.args.case.now.nodes_divided c.requires c.if-top-n.false {r = Ok Constant} (cc) (cc)

pub advises-returns-then-holds : goal.advises-returns-then-holds
unfolding read_node
advises-returns-then-holds t c =
    advice_here _ _ _ _ c.args.case.now.nodes_divided c.requires c.if-top-n.false {r = Ok Of} (cc)
    (rw (← c.size_at.ensures.0, ← c.holds.ensures, c.if-holds.true))

pub advises-returns-else-holds : goal.advises-returns-else-holds
unfolding read_node
advises-returns-else-holds t c =
    advice_here _ _ _ _ c.args.case.now.nodes_divided c.requires c.if-top-n.false {r = Ok Of} (cc)
    (rw (← c.size_at.ensures.0, ← c.holds.ensures, c.if-holds.false))

pub advises-returns-in-Ok-Not : goal.advises-returns-in-Ok-Not
unfolding read_node
advises-returns-in-Ok-Not t c = advice_here _ _ _ _ c.args.case.now.nodes_divided c.requires c.if-top-n.false {r = Ok AdviceNot} (cc) (cc)

pub advises-returns-after-settles : goal.advises-returns-after-settles
unfolding read_node
advises-returns-after-settles t c =
    advice_here _ _ _ _ c.args.case.now.nodes_divided c.requires c.if-top-n.false {r = Ok (Two c.in-Ok-Two.op)} (cc)
    (rw (← c.size_at-in-Ok-Two.ensures.0, ← c.advises-p.ensures)
    (c.operate.ensures.0
    ∙ second_value _ _ _ _ (omega (arith, c.advises-p.ensures)) (omega arith)
    (elim c.if-settles.branch [
      | advises-then-settles w ↦ inr (rw (← c.settles.ensures) w.if-settles.true, w.q-is)
      | advises-else-settles w ↦ inl (rw (← w.size_at-else-settles.ensures.0) (w.q-is ∙ w.advises-q.ensures))
    ])))

pub advises-returns-in-Err : goal.advises-returns-in-Err
advises-returns-in-Err t c = advice_here _ _ _ _ c.args.case.now.nodes_divided c.requires c.if-top-n.false {r = Err c.in-Err.field-0} (cc) refl

pub holds-returns-then-top-n : goal.holds-returns-then-top-n
holds-returns-then-top-n t c = yes_past _ _ _ _ c.if-top-n.true

pub holds-returns-in-Ok-Always : goal.holds-returns-in-Ok-Always
holds-returns-in-Ok-Always t c = yes_here _ _ _ _ c.args.case.now.nodes_divided c.requires c.if-top-n.false {r = Ok Always} (cc) refl

pub holds-returns-in-Ok-Not : goal.holds-returns-in-Ok-Not
unfolding read_node
holds-returns-in-Ok-Not t c = yes_here _ _ _ _ c.args.case.now.nodes_divided c.requires c.if-top-n.false {r = Ok Not} (cc) (cc)

pub holds-returns-then-holds : goal.holds-returns-then-holds
unfolding read_node
holds-returns-then-holds t c =
    yes_here _ _ _ _ c.args.case.now.nodes_divided c.requires c.if-top-n.false {r = Ok And} (cc)
    (rw (← c.size_at-in-Ok-And.ensures.0, ← c.holds-in-Ok-And.ensures, c.if-holds.true, ← c.size_at-then-holds.ensures.0) c.holds-then-holds.ensures)

pub holds-returns-else-holds : goal.holds-returns-else-holds
unfolding read_node
holds-returns-else-holds t c =
    yes_here _ _ _ _ c.args.case.now.nodes_divided c.requires c.if-top-n.false {r = Ok And} (cc)
    (rw (← c.size_at-in-Ok-And.ensures.0, ← c.holds-in-Ok-And.ensures, c.if-holds.false))

pub holds-returns-then-holds-2 : goal.holds-returns-then-holds-2
unfolding read_node
holds-returns-then-holds-2 t c =
    yes_here _ _ _ _ c.args.case.now.nodes_divided c.requires c.if-top-n.false {r = Ok Or} (cc) (rw (← c.size_at-in-Ok-Or.ensures.0, ← c.holds-in-Ok-Or.ensures, c.if-holds-2.true))

pub holds-returns-else-holds-2 : goal.holds-returns-else-holds-2
unfolding read_node
holds-returns-else-holds-2 t c =
    yes_here _ _ _ _ c.args.case.now.nodes_divided c.requires c.if-top-n.false {r = Ok Or} (cc)
    (rw (← c.size_at-in-Ok-Or.ensures.0, ← c.holds-in-Ok-Or.ensures, c.if-holds-2.false, ← c.size_at-else-holds-2.ensures.0) c.holds-else-holds-2.ensures)

pub holds-returns-in-Ok-Equal : goal.holds-returns-in-Ok-Equal
unfolding read_node four_operands
holds-returns-in-Ok-Equal t c = yes_here _ _ _ _ c.args.case.now.nodes_divided c.requires c.if-top-n.false {r = Ok Equal} (cc) c.equal.ensures

pub holds-returns-in-Ok-Test : goal.holds-returns-in-Ok-Test
holds-returns-in-Ok-Test t c = yes_here _ _ _ _ c.args.case.now.nodes_divided c.requires c.if-top-n.false {r = Ok Test} (cc) c.test.ensures

pub holds-returns-in-Ok-Dominates : goal.holds-returns-in-Ok-Dominates
unfolding read_node
holds-returns-in-Ok-Dominates t c = yes_here _ _ _ _ c.args.case.now.nodes_divided c.requires c.if-top-n.false {r = Ok Dominates} (cc) c.outranks.ensures

pub holds-returns-in-Ok-Grants : goal.holds-returns-in-Ok-Grants
unfolding read_node
holds-returns-in-Ok-Grants t c = yes_here _ _ _ _ c.args.case.now.nodes_divided c.requires c.if-top-n.false {r = Ok Grants} (cc) (cc)

pub holds-returns-in-Err : goal.holds-returns-in-Err
holds-returns-in-Err t c = yes_here _ _ _ _ c.args.case.now.nodes_divided c.requires c.if-top-n.false {r = Err c.in-Err.field-0} (cc) refl
