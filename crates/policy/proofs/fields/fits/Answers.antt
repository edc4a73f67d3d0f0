-- `policy::fits` meets its contract: as many fields as values, and each pair is tried. Assumes nothing.
use lib.Seq.{take-length}
use Rattle.std.proofs.Common.{rules, ◌≡◌, ◌||◌, eqb, length, get_or, refl, sym, ◌∙◌, tests, arith}
use borrow.Author.Tests.{ne_eqb}
use Rattle.std.proofs.lemmas.Iterator.{YieldsList-from_range}
use Rattle.std.proofs.lemmas.Iterator.Search.{all_from_yields_List}
use Rattle.net.specs.Records.{no_operand}
use Rattle.net.specs.Net.{is_binding, fields_of, values_of}
use Rattle.policy.specs.Match.{fits}
use Rattle.policy.proofs.Places.{range_fits, fit_lengths}
use Rattle.policy.proofs.fields.fits.Goals as goal

pub returns-then-fields-values : goal.returns-then-fields-values
unfolding fits
returns-then-fields-values c =
    let l = fields_of c.args.action in
    let m = values_of c.args.row in
    let n : length l ≡ length m = search rules in
    all_from_yields_List (λ i. is_binding (get_or l i no_operand) || eqb (get_or l i no_operand).value (get_or m i 0)) c.all.new.self _ _ c.all.ensures.ran
    (YieldsList-from_range 0 (length l) (length l) (cc) (omega arith)) (λ x b q k. search (rules, tests))
    ∙ range_fits (λ x v. is_binding x || eqb x.value v) no_operand 0 l m _ (λ i h k. refl) 0 (length l) (λ i h. (omega arith, omega arith))
    ∙ rw (take-length l, n, take-length m)

pub returns-else-fields-values : goal.returns-else-fields-values
unfolding fits
returns-else-fields-values c = ne_eqb _ _ c.if-fields-values.false ∙ sym (fit_lengths _ (fields_of c.args.action) (values_of c.args.row) (λ e. c.if-fields-values.false (cc)))
