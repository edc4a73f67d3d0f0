-- `format::stores::fields_ok` meets its contract: each field with its number. Assumes nothing.
use Rattle.std.proofs.Common.{◌∙◌, rules, tests}
use Rattle.std.proofs.lemmas.Iterator.{YieldsList-from_slice}
use Rattle.std.proofs.lemmas.Iterator.Consumers.{YieldsList-from_enumerate}
use Rattle.std.proofs.lemmas.Iterator.Search.{all_from_yields_List}
use Rattle.format.proofs.Fields.{used_right, fields_numbered}
use Rattle.format.proofs.stores.fields_ok.Goals as goal

pub returns : goal.returns
returns c =
    all_from_yields_List (used_right c.args.n) _ _ _ c.all.ensures.ran (YieldsList-from_enumerate (YieldsList-from_slice c.args.f (cc)) (cc)) (λ x b q k. search (rules, tests))
    ∙ fields_numbered c.args.n c.args.f
