-- `format::actions::form_ok` meets its contract: its tests are the definition's, the last of them where the operands are good. Assumes nothing.
use mathlib.Core.Path.{refl, sym, ◌∙◌}
use mathlib.Core.Bool.{true, false}
use native.Mathlib.Omega.{arith}
use borrow.Author.Tests.{eq-eqb}
use Rattle.words.proofs.Truth.{so, is_T}
use Rattle.rulebook.specs.Parts.{tags_of}
use Rattle.rulebook.proofs.Chains.{last, on, tried}
use Rattle.format.specs.Steps.{form_rules}
use Rattle.format.proofs.Binding.{operand_ranged, fields-ranged, fields_parts}
use Rattle.format.proofs.actions.form_ok.Goals as goal

-- the operands are good where their variables are looked at
pub ok-requires : goal.ok-requires
ok-requires c = operand_ranged 1 (omega arith) (omega arith) (tags_of false false false) c.args.x.target (is_T _ (so c.allow.ensures c.if-allow.true))

pub invariant_of-ok : goal.invariant_of-ok
invariant_of-ok c = record { ranged = fields-ranged c.args.x (is_T _ (so c.fields_ok.ensures c.if-fields_ok.true)) }

pub returns-then-fields_ok : goal.returns-then-fields_ok
returns-then-fields_ok c =
    let x = c.args.x in
    let good = is_T _ (so c.fields_ok.ensures c.if-fields_ok.true) in
    tried (form_rules c.args.bound x)
    (on {r = true} (sym (eq-eqb _ _ c.if-x-eq0.true)) refl
    (on c.capability_ok.ensures c.if-capability_ok.true
    (on c.count_ok.ensures c.if-count_ok.true
    (on c.allow.ensures c.if-allow.true
    (on c.fields_ok.ensures c.if-fields_ok.true
    (last (c.ok.ensures ∙ fields_parts x good c.args.bound x.target)))))))
