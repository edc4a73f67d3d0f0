-- `policy::cut::fields_take` meets its contract: the patterns meet the fields one by one, as far as both go. Assumes nothing.
use Rattle.std.proofs.Common.{◌<◌, take, drop, sym, ◌∙◌, arith, add-one, length-take, length-drop, get_or, get_or-take}
use lib.Seq.{drop-cons}
use Rattle.net.specs.Records.{no_operand, four_operands, read_aspect}
use Rattle.net.specs.Net.{fields_of}
use Rattle.policy.specs.House.{takes}
use Rattle.policy.proofs.Four.{four_operands_lem, operand_in}
use Rattle.policy.proofs.Places.{through_turn, through_none}
use Rattle.policy.proofs.cut.fields_take.Goals as goal

pub loop-i-preserved : goal.loop-i-preserved
unfolding read_aspect
loop-i-preserved c =
    let a = c.args in
    let n = get_or a.aspect.now 2 0 in
    let x = a.action.now in
    let i = c.loop-i.i in
    let ps = four_operands a.aspect.now 12 in
    let p = four_operands_lem a.aspect.now 12 in
    let u = rw (c.used-fields.ensures.those, length-take) at c.used-fields.ensures.many in
    let l : i < n = omega arith in
    let m : i < x.count = omega arith in
    let k : i < c.min.result = omega arith in
    rw (add-one i) (through_turn takes
    (drop-cons (take n ps) i no_operand (rw length-take (omega arith)))
    (drop-cons (fields_of x) i no_operand (rw length-take (omega arith)))
    (rw (
      get_or-take n ps i no_operand l,
      operand_in a.aspect.now 12 no_operand i (omega arith),
      get_or-take x.count x.fields i no_operand m,
      ← get_or-take c.min.result x.fields i no_operand k,
      ← c.used-fields.ensures.those,
      ← c.read.ensures,
    ) c.takes.ensures)
    ∙ c.loop-i.invariant)

pub returns : goal.returns
unfolding read_aspect
returns c =
    let a = c.args in
    let p = four_operands_lem a.aspect.now 12 in
    let u = rw (c.used-fields.ensures.those, length-take) at c.used-fields.ensures.many in
    let ps = take (get_or a.aspect.now 2 0) (four_operands a.aspect.now 12) in
    let i = c.loop-i.i in
    sym (through_none takes (drop i ps) (drop i (fields_of a.action.now)) c.loop-i.vars (simp (length-drop, length-take) (omega arith))) ∙ c.loop-i.invariant
