-- A turn of `stepper::step_lines` puts one line more, for which there is room. Assumes nothing.
use Rattle.std.proofs.Common.{◌≡◌, ◌+◌, ℕ, List, length, get_or, rules, arith, sym, ap, ◌∙◌, length-append, length-drop, inl, inr}
use Rattle.lines.proofs.Texts.{lines_none, lines_more}
use Rattle.lines.proofs.Pages.{adds_then, adds_none}
use Rattle.stepper.specs.Farmstep.{step_line, step_lines}
use Rattle.stepper.proofs.Printing.{steps_length, IsNext, next_of}
use Rattle.stepper.proofs.step_lines.Goals as goal

abbrev text : List ℕ → List ℕ → ℕ → List ℕ
text steps answers i = step_line i (get_or steps i 0) (get_or answers i 0)

pub loop-i-init : goal.loop-i-init
loop-i-init c = record {
  in_range = omega arith;
  index = search rules;
  sites = search rules;
  given = search rules;
  put = rw (lines_none (text c.args.steps.now c.args.answers.now)) (adds_none _ (omega arith));
}

pub step_line-requires : goal.step_line-requires
step_line-requires c =
    let site : IsNext c.args.steps.now (length c.loop-i.yielded) _ _ = next_of (sym c.loop-i.invariant.sites ∙ c.in-Some.ensures.steps.0.0) in
    omega (arith, site.within, steps_length c.args.steps.now c.args.answers.now (length c.loop-i.yielded))

pub loop-i-preserved : goal.loop-i-preserved
loop-i-preserved c =
    let i = c.loop-i.invariant in
    let s = c.in-Some.ensures.steps in
    let n = length c.loop-i.yielded in
    let site : IsNext c.args.steps.now n c.in-Some.site.now _ = next_of (sym i.sites ∙ s.0.0) in
    let given : IsNext c.args.answers.now n c.in-Some.answer.now _ = next_of (sym i.given ∙ s.0.1) in
    let index : c.in-Some.i ≡ n = s.1 ∙ i.index in
    simp length-append record {
      in_range = omega (arith, site.within);
      index = s.2 ∙ ap (λ (k : ℕ). k + 1) i.index;
      sites = site.after;
      given = given.after;
      put = rw (lines_more (text c.args.steps.now c.args.answers.now)) (adds_then i.put (rw (index, ← site.here, ← given.here) at c.step_line.ensures));
    }

pub returns : goal.returns
unfolding step_lines
returns c =
    let i = c.loop-i.invariant in
    let n = length c.loop-i.yielded in
    let e : n ≡ length c.args.steps.now = elim c.in-None.ensures.steps.0 [
      | inl w ↦ omega (arith, i.in_range, length-drop n c.args.steps.now, ap length i.sites, w.1.0)
      | inr w ↦ omega (arith, i.in_range, length-drop n c.args.answers.now, ap length i.given, w.1.0)
    ] in
    rw e at i.put
