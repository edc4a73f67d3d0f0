-- `rulebook::first_bad_aspect` meets its contract: it looks for the first bad one. Assumes nothing.
use Rattle.std.proofs.Common.{rules, ◌≡◌, ◌∙◌, sym, ap, true, false}
use Rattle.std.proofs.lemmas.Iterator.{first_from_Range}
use borrow.Author.Tests.{tests}
use Rattle.words.specs.Lists.{first_failing}
use Rattle.words.proofs.Tables.{table_length}
use Rattle.net.specs.Records.{aspect_width, read_aspect}
use Rattle.net.specs.Image.{nodes_in, aspects_in}
use Rattle.rulebook.specs.Rulebook.{aspect_ok}
use Rattle.rulebook.proofs.Failing.{first_is_failing}
use Rattle.rulebook.proofs.aspects.first_bad_aspect.Goals as goal

pub returns : goal.returns
returns c =
    let ok = aspect_ok c.args.sites (nodes_in c.args.nodes.now) (aspects_in c.args.aspects.now) in
    first_is_failing ok c.count.result c.find.result
    (first_from_Range _ _ _ c.find.result (λ k. ok k ≡ false) (λ k. ok k ≡ true) c.find.ensures.ran (λ k q h. search (rules, tests)) (λ k q h. search (rules, tests)))
    ∙ ap (first_failing ok) (c.count.ensures ∙ sym (table_length read_aspect aspect_width c.args.aspects.now))
