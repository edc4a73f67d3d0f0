-- `policy::cut::fields_fit` meets its contract: each pattern stands beside the field of its number. Assumes nothing.
use lib.Seq.{take-length}
use Rattle.std.proofs.Common.{rules, ◌≡◌, ◌+◌, ◌*◌, length, get_or, min, ap, sym, ◌∙◌, tests, arith}
use Rattle.std.proofs.lemmas.Iterator.{YieldsList-from_range}
use Rattle.std.proofs.lemmas.Iterator.Search.{all_from_yields_List}
use Rattle.net.specs.Records.{no_operand, read_operand, four_operands, read_aspect}
use Rattle.net.specs.declared.Operand.{Operand}
use Rattle.net.specs.Net.{fields_of}
use Rattle.policy.specs.House.{pattern_fits}
use Rattle.policy.proofs.Four.{four_operands_lem, operand_in}
use Rattle.policy.proofs.Places.{range_fits, take_four}
use Rattle.policy.proofs.cut.fields_fit.Goals as goal

pub returns : goal.returns
unfolding read_aspect
returns c =
    let a = c.args in
    let fs = fields_of a.action.now in
    let ps = four_operands_lem a.aspect.now 12 in
    let n : length fs ≡ min a.action.now.count 4 = rw c.used-fields.ensures.those at c.used-fields.ensures.many in
    all_from_yields_List (λ i. pattern_fits (read_operand a.aspect.now (12 + 4 * i)) (get_or fs i no_operand)) c.all.new.self _ _ c.all.ensures.ran
    (YieldsList-from_range 0 (length fs) (length fs) (cc) (omega arith)) (λ x b q k. search (rules, tests))
    ∙ range_fits pattern_fits no_operand no_operand (four_operands a.aspect.now 12) fs _
    (λ i h k. ap (λ (p : Operand). pattern_fits p (get_or fs i no_operand)) (sym (operand_in a.aspect.now 12 no_operand i (omega arith))))
    0 (length fs) (λ i h. (omega arith, omega arith))
    ∙ rw (take-length fs, n, take_four a.action.now.count (four_operands a.aspect.now 12) ps)
