-- `capi::boardmarten_body` meets its contract: no such kind, an empty part, or a part whose place the directory gives. Assumes nothing.
use Rattle.std.proofs.Common.{rules, ◌≡◌, ℕ, ◌+◌, ◌*◌, ◌<◌, List, length, ap, ◌∙◌, arith}
use borrow.Author.Tests.{tests}
use Rattle.format.specs.Verdict.{body_of}
use Rattle.words.specs.Bytes.{u32_at}
use Rattle.capi.specs.Packed.{packed_body}
use Rattle.capi.proofs.Parts.{Part, part_of, packed_none, packed_no_kind, packed_part}
use Rattle.capi.proofs.boardmarten_body.Goals as goal

-- a part that is not empty is of an accepted image, and is packed with the place that the directory gives
module _ (image : List ℕ) (kind : ℕ) {part : List ℕ} {k : ℕ} (e : part ≡ body_of image k) (f : k ≡ kind) (n : length part ≡ 0 → ⊥) where
  part_is : part ≡ body_of image kind
  part_is = e ∙ ap (body_of image) f

  part_there : Part image kind (length part)
  part_there = rw part_is (part_of image kind (λ z. n (ap length part_is ∙ z)))

  packed_is : {start : ℕ} → start ≡ u32_at image (8 * k) → start + 4294967296 * length part ≡ packed_body image kind
  packed_is s = rw (s, f, part_is) (packed_part image kind (λ z. n (ap length part_is ∙ z)))

pub returns-in_default : goal.returns-in_default
returns-in_default c =
    let n : c.args.kind < 65536 → ⊥ = search rules in
    packed_no_kind c.args.image.now c.args.kind (omega arith)

pub returns-then-is_empty : goal.returns-then-is_empty
returns-then-is_empty c =
    let l : length c.body-part.result.now ≡ 0 = search (rules, tests) in
    packed_none c.args.image.now c.args.kind (rw (← c.in-Ok.ensures.1, ← c.body-part.ensures.result_value) l)

pub long_at-start-requires : goal.long_at-start-requires
long_at-start-requires c =
    let n : length c.body-part.result.now ≡ 0 → ⊥ = search (rules, tests) in
    let p = part_there c.args.image.now c.args.kind c.body-part.ensures.result_value c.in-Ok.ensures.1 n in
    omega (arith, p.readable, p.known, c.in-Ok.ensures.1)

pub overflow_mul-result : goal.overflow_mul-result
overflow_mul-result c =
    let n : length c.body-part.result.now ≡ 0 → ⊥ = search (rules, tests) in
    let p = part_there c.args.image.now c.args.kind c.body-part.ensures.result_value c.in-Ok.ensures.1 n in
    omega (arith, p.short)

pub overflow_add-result : goal.overflow_add-result
overflow_add-result c =
    let n : length c.body-part.result.now ≡ 0 → ⊥ = search (rules, tests) in
    let p = part_there c.args.image.now c.args.kind c.body-part.ensures.result_value c.in-Ok.ensures.1 n in
    omega (arith, p.short)

pub returns : goal.returns
returns c =
    let n : length c.body-part.result.now ≡ 0 → ⊥ = search (rules, tests) in
    packed_is c.args.image.now c.args.kind c.body-part.ensures.result_value c.in-Ok.ensures.1 n (rw c.from.ensures at c.long_at-start.ensures.0)
