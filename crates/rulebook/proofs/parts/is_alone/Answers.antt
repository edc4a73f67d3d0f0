-- `rulebook::is_alone` meets its contract: the chain looks for one that speaks of the variable. Assumes nothing.
use Rattle.std.proofs.Common.{rules, ◌≡◌, true, false, drop}
use Rattle.std.proofs.lemmas.Iterator.{cases_from_any, YieldsList-from_slice}
use Rattle.std.proofs.lemmas.Iterator.Adapters.{YieldsList-from_skip}
use borrow.Author.Tests.{tests}
use Rattle.rulebook.specs.Parts.{speaks}
use Rattle.rulebook.proofs.Cuts.{alone_is}
use Rattle.rulebook.proofs.parts.is_alone.Goals as goal

pub returns-else-x-tag : goal.returns-else-x-tag
returns-else-x-tag c =
    let p = speaks c.args.tag c.args.x.value in
    alone_is c.args.tag c.args.x (drop c.args.from c.args.l) c.any.result c.if-x-tag.false
    (cases_from_any _ _ c.any.result (λ y. p y ≡ true) (λ y. p y ≡ false) c.any.ensures.ran
    (YieldsList-from_skip c.args.from (YieldsList-from_slice c.args.l cc) cc) (λ y q k. search (rules, tests)) (λ y q k. search (rules, tests)))
