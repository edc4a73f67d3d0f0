-- `Site::bytes` gives each byte of each word in turn: the array is the list that this rule builds, which antt computes. Assumes nothing.
use Rattle.std.proofs.Common.{rules, refl, ◌∙◌, ℕ, ◌/◌, ◌%◌, List, [], ◌∷◌, get_or}
use Rattle.words.specs.Bytes.{u16_bytes}
use Rattle.net.specs.Records.{site_bytes}
use Rattle.net.proofs.FromFn.{from_fn_builds}
use Rattle.net.proofs.Site.bytes.Goals as goal

pub returns : goal.returns
unfolding site_bytes
returns c =
    let x = c.args.self in
    let v = x.vars in
    let words : List ℕ =
    x.name ∷ x.s ∷ x.c ∷ x.o ∷ x.hs ∷ x.ho ∷ x.position ∷ x.lost
    ∷ get_or v 0 0 ∷ get_or v 1 0 ∷ get_or v 2 0 ∷ get_or v 3 0 ∷ get_or v 4 0 ∷ get_or v 5 0 ∷ get_or v 6 0 ∷ get_or v 7 0 ∷ [] in
    from_fn_builds _ _ (λ i. get_or (u16_bytes (get_or words (i / 2) 0)) (i % 2) 0) (λ i r f called. (search rules, search rules)) _ _ c.from_fn.ensures.items ∙ refl
