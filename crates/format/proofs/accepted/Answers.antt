-- `format::accepted` meets its contract: the contents of an image that is accepted are in order. Assumes nothing.
use Rattle.std.specs.Prelude.{Result, Ok, Err, is_ok}
use mathlib.Core.Path.{◌≡◌, refl, sym, ◌∙◌}
use mathlib.Core.Bool.{true}
use Rattle.format.specs.declared.Refusal.{Refusal}
use Rattle.format.proofs.Verdicts.{accepted_right}
use Rattle.format.proofs.accepted.Goals as goal

right : (v : Result Unit Refusal) → true ≡ is_ok v → v ≡ Ok tt
right (Ok x) e = refl
right (Err why) e = cc

pub invariant_of-result : goal.invariant_of-result
invariant_of-result c =
    let e = sym c.check.ensures ∙ right c.check.result c.in_ok-ok.ensures.variant in
    record { in_order = (accepted_right c.args.image.now e).contents }
