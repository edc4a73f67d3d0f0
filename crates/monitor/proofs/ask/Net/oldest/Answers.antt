-- `monitor::ask::Net::oldest` meets its contract: the target's rows stand from where they begin up to where they end, so that the first of these that
-- fits is the first of all that hits. Assumes nothing.
use Rattle.std.specs.Prelude.{MatchOption}
use Rattle.std.proofs.Common.{rules, ◌≡◌, refl, sym, ap, ◌∙◌, ℕ, ◌+◌, ◌*◌, ◌/◌, ◌≤◌, ◌<◌, Bool, true, false, not, ◌&&◌, List, ltb, eqb, length, get_or, arith, Option, None, Some}
use borrow.Author.Tests.{tests, ltb-true, ltb-false, lt-ltb, le-ltb, lt-leb}
use lib.Dec.{eqb→eq}
use Rattle.std.proofs.lemmas.Iterator.{serves_from_Range, first_from_Range}
use Rattle.words.specs.Lists.{first_bad}
use Rattle.words.specs.Tables.{Ordered, count_below, starts_of}
use Rattle.words.proofs.First.{every_of, found_here, found_none}
use Rattle.words.proofs.Tables.{table_length, table_at}
use Rattle.net.specs.Records.{row_width, no_row, read_row}
use Rattle.net.specs.Net.{row_at, fields_of, values_of}
use Rattle.net.specs.Image.{rows_in}
use Rattle.net.specs.declared.Action.{Action}
use Rattle.format.proofs.Ordered.{accepted_rows}
use Rattle.policy.specs.Match.{fits}
use Rattle.stepping.specs.Step.{hits, oldest}
use Rattle.monitor.proofs.Stretches.{row-front, begins-ends, ends_within, owner_back, owner_on}
use Rattle.monitor.proofs.Starts.{starts_begin, starts_end}
use Rattle.monitor.proofs.ask.Net.oldest.Goals as goal

module _ (s : List ℕ) (order : Ordered row_width s) (t : ℕ) (x : Action) where
  abbrev begins : ℕ
  begins = count_below s 10 (length s / 10) t

  abbrev ends : ℕ
  ends = count_below s 10 (length s / 10) (t + 1)

  -- row k fits; it hits, as it is the target's and fits
  abbrev Fit : Bool → ℕ → Type 0
  Fit b k = fits (fields_of x) (values_of (read_row s (10 * k))) ≡ b

  abbrev hit : ℕ → Bool
  hit k = hits t x (row_at (rows_in s) k)

  within : (k : ℕ) → k < ends → k < length s / 10
  within k h = let w = ends_within (λ y. y.owner) no_row read_row row-front row_width s order t in omega arith

  hit-is : (k : ℕ) → k < length s / 10 → hit k ≡ (eqb (get_or s (10 * k) 0) t && fits (fields_of x) (values_of (read_row s (10 * k))))
  hit-is k h = rw (table_at read_row row_width s k no_row h, row-front s (10 * k))

  outside : (k : ℕ) → k < length s / 10 → eqb (get_or s (10 * k) 0) t ≡ false → hit k ≡ false
  outside k h e = rw (hit-is k h, e)

  inside : (k : ℕ) → begins ≤ k → k < ends → {b : Bool} → Fit b k → hit k ≡ b
  inside k g h e = rw (hit-is k (within k h), owner_on (λ y. y.owner) no_row read_row row-front row_width s order t k g (within k h), lt-ltb k ends h) e

  before : (k : ℕ) → k < begins → hit k ≡ false
  before k h =
      let l = begins-ends (λ y. y.owner) no_row read_row row-front row_width s order t in
      outside k (within k (omega arith)) (owner_back (λ y. y.owner) no_row read_row row-front row_width s order t k (omega arith) ∙ lt-leb begins k h)

  after : (k : ℕ) → ends ≤ k → k < length s / 10 → hit k ≡ false
  after k h b =
      let l = begins-ends (λ y. y.owner) no_row read_row row-front row_width s order t in
      outside k b (owner_on (λ y. y.owner) no_row read_row row-front row_width s order t k (omega arith) b ∙ le-ltb k ends h)

  -- none below k hits
  none_below : (k : ℕ) → ((j : ℕ) → j < k → hit j ≡ false) → first_bad (λ j. not (hit j)) k ≡ k
  none_below k h = eqb→eq (first_bad (λ j. not (hit j)) k) k (every_of (λ j. not (hit j)) k (λ j b. ap not (h j b)))

  missed : (e : ℕ) → e ≤ ends → ((j : ℕ) → begins ≤ j → j < e → Fit false j) → (j : ℕ) → j < e → hit j ≡ false
  missed e l none j h = pick (ltb j begins) refl
    where
      pick : (b : Bool) → ltb j begins ≡ b → hit j ≡ false
      pick true q = before j (ltb-true j begins q)
      pick false q = let g = ltb-false j begins q in inside j g (omega arith) (none j g h)

  chosen-is : (r : Option ℕ) → MatchOption r ((k : ℕ) → begins ≤ k → k < ends → Fit false k) (λ i. (begins ≤ i) × (i < ends) × Fit true i × ((k : ℕ) → begins ≤ k → k < i → Fit false k))
      → r ≡ oldest t x (rows_in s)
  unfolding oldest
  chosen-is (Some i) (g, h, e, none) =
      sym (found_here hit i (length (rows_in s)) (none_below i (missed i (omega arith) none)) (inside i g h e) (rw (table_length read_row row_width s) (within i h)))
  chosen-is None none =
      sym (found_none hit (length (rows_in s)) (none_below (length (rows_in s)) (λ j b. pick j (rw (table_length read_row row_width s) at b) (ltb j ends) refl)))
    where
      pick : (j : ℕ) → j < length s / 10 → (b : Bool) → ltb j ends ≡ b → hit j ≡ false
      pick j b true q = missed ends (omega arith) none j (ltb-true j ends q)
      pick j b false q = after j (ltb-false j ends q) b

-- the starts say where the target's rows begin and end
module _ (rows : List ℕ) {starts : List ℕ} (t : ℕ) (x : Action) (h : t < 32) (order : Ordered row_width rows) (e : starts ≡ starts_of row_width rows) where
  from : {k : ℕ} → k ≡ get_or starts t 0 → k ≡ begins rows order t x
  from p = p ∙ rw e (starts_begin rows order t h)

  to : {k : ℕ} → k ≡ get_or starts (t + 1) 0 → k ≡ ends rows order t x
  to p = p ∙ rw e (starts_end rows order t h)

pub find-requires-clause-callable : goal.find-requires-clause-callable
find-requires-clause-callable c =
    let net = c.args.self.now in
    let act = c.args.act.now in
    let s = c.body-rows.result.now in
    let order : Ordered row_width s = rw c.body-rows.ensures (accepted_rows net.image.bytes.now net.image.accepted) in
    let e : net.starts.now ≡ starts_of row_width s = rw c.body-rows.ensures net.started in
    let inside : (k : ℕ) → k < c.from-end.result → 10 * k + 10 ≤ length s =
    λ k h. let w = within s order act.target act.action k (rw (← to s act.target act.action c.requires order e c.from-end.ensures) h) in omega arith in
    serves_from_Range (λ x q k. search rules) (λ x l h. let w = inside x h in search rules)

pub returns : goal.returns
returns c =
    let net = c.args.self.now in
    let act = c.args.act.now in
    let s = c.body-rows.result.now in
    let order : Ordered row_width s = rw c.body-rows.ensures (accepted_rows net.image.bytes.now net.image.accepted) in
    let e : net.starts.now ≡ starts_of row_width s = rw c.body-rows.ensures net.started in
    let Yes : ℕ → Type 0 = Fit s order act.target act.action true in
    let No : ℕ → Type 0 = Fit s order act.target act.action false in
    let m = first_from_Range _ _ _ c.find.result Yes No c.find.ensures.ran (λ x q k. search (rules, tests)) (λ x q k. search (rules, tests)) in
    rw (← c.body-rows.ensures) (
    chosen-is s order act.target act.action c.find.result
    (rw (← from s act.target act.action c.requires order e c.from-start.ensures, ← to s act.target act.action c.requires order e c.from-end.ensures) m))
