-- `policy::rows::wanted` meets its contract: where the counts are the same, the operands and values that they take in are tried by their number. Assumes nothing.
use Rattle.std.proofs.Common.{rules, ◌+◌, ◌*◌, ◌<◌, get_or, min, ◌∙◌, arith, tests}
use borrow.Author.Tests.{eq-eqb, ne_eqb}
use Rattle.std.proofs.lemmas.Iterator.{YieldsList-from_range}
use Rattle.std.proofs.lemmas.Iterator.Search.{all_from_yields_List}
use Rattle.words.specs.Bytes.{u16_at}
use Rattle.net.specs.Records.{no_operand, read_operand, four_operands, four_words, read_node, read_row}
use Rattle.policy.specs.House.{asks, wanted}
use Rattle.policy.proofs.Four.{four_operands_lem, operand_in, four_words_lem, word_in}
use Rattle.policy.proofs.Places.{range_fits, take_four}
use Rattle.policy.proofs.rows.wanted.Goals as goal

pub returns-else-row-count : goal.returns-else-row-count
unfolding wanted read_node read_row
returns-else-row-count c = let e = ne_eqb _ _ c.if-row-count.false in simp e

pub returns-then-row-count : goal.returns-then-row-count
unfolding wanted read_node read_row
returns-then-row-count c =
    let a = c.args in
    let n = min (get_or a.node.now 1 0) 4 in
    let ps = four_operands a.node.now 8 in
    let vs = four_words a.row.now 2 in
    let p = four_operands_lem a.node.now 8 in
    let v = four_words_lem a.row.now 2 in
    all_from_yields_List (λ i. asks a.vars.now (read_operand a.node.now (8 + 4 * i)) (u16_at a.row.now (2 + 2 * i)))
    c.all.new.self _ _ c.all.ensures.ran
    (YieldsList-from_range 0 n n (cc) (omega arith)) (λ x b q k. search (rules, tests))
    ∙ range_fits (asks a.vars.now) no_operand 0 ps vs _
    (λ i h k. let u : i < 4 = omega arith in rw (operand_in a.node.now 8 no_operand i u, word_in a.row.now 2 i u))
    0 n (λ i h. (omega arith, omega arith))
    ∙ rw (
      take_four (get_or a.node.now 1 0) ps (four_operands_lem a.node.now 8),
      take_four (get_or a.node.now 1 0) vs (four_words_lem a.row.now 2),
      eq-eqb _ _ c.if-row-count.true,
      c.if-row-count.true,
    )
