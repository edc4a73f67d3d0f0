-- `monitor::accepted::Accepted::room` meets its contract: site t holds 16 rows or more exactly if the row 16 before the end of its rows is its own. Assumes nothing.
use Rattle.std.proofs.Common.{rules, ◌≡◌, sym, ◌∙◌, true, false, not, List, ℕ, ◌+◌, ◌-◌, ◌*◌, ◌/◌, ◌≤◌, ◌<◌, length, get_or, arith, ltb, leb, eqb, ltb→lt, lt→ltb, lt-ltb, eq-eqb, ne_eqb, None, Some}
use borrow.Author.Tests.{lt-leb}
use lib.Dec.{nleb→lt}
use Rattle.words.specs.Tables.{Ordered, count_below}
use Rattle.words.proofs.Truth.{same_truth}
use Rattle.net.specs.Records.{row_width, no_row, read_row}
use Rattle.net.specs.Net.{held, store_limit}
use Rattle.net.specs.Image.{rows_in}
use Rattle.stepping.specs.Step.{place_for}
use Rattle.format.proofs.Ordered.{accepted_rows}
use Rattle.monitor.specs.Plan.{room_in}
use Rattle.monitor.proofs.Asking.{few-sites}
use Rattle.monitor.proofs.Stretches.{row-front, owner_back, owned_count, place_ends}
use Rattle.monitor.proofs.accepted.Accepted.room.Goals as goal

-- what the search found in the part r, said of the body b that it is
module _ {r b : List ℕ} {end : ℕ} (t : ℕ) (is : r ≡ b) (order : Ordered row_width b) (e : end ≡ count_below r 10 (length r / 10) (t + 1)) where
  abbrev first : ℕ
  first = count_below b 10 (length b / 10) t

  end_is : end ≡ count_below b 10 (length b / 10) (t + 1)
  end_is = e ∙ rw is

  place_is : end ≡ place_for t (rows_in b)
  place_is = end_is ∙ sym (place_ends b order t)

  held-is : held t (rows_in b) ≡ end - first
  held-is = rw end_is (owned_count (λ x. x.owner) no_row read_row row-front row_width b order t)

  room : ltb (held t (rows_in b)) store_limit ≡ true → Some end ≡ room_in t (rows_in b)
  room q = rw (q, place_is)

  few : end < 16 → Some end ≡ room_in t (rows_in b)
  few h = room (rw held-is (lt-ltb (end - first) 16 (omega arith)))

  by-owner : 16 ≤ end → not (eqb (get_or r (10 * (end - 16)) 0) t) ≡ ltb (held t (rows_in b)) store_limit
  by-owner h =
      let w = end_is in
      let o : eqb (get_or r (10 * (end - 16)) 0) t ≡ leb first (end - 16) = rw is (owner_back (λ x. x.owner) no_row read_row row-front row_width b order t (end - 16) (omega arith)) in
      rw (held-is, o)
      (same_truth (not (leb first (end - 16))) (ltb (end - first) 16)
      (λ l. lt→ltb (end - first) 16 (omega (arith, nleb→lt first (end - 16) l)))
      (λ l. rw (lt-leb first (end - 16) (omega (arith, ltb→lt (end - first) 16 l))) tt))

  other : 16 ≤ end → (get_or r (10 * (end - 16)) 0 ≡ t → ⊥) → Some end ≡ room_in t (rows_in b)
  other h n = room (sym (by-owner h) ∙ rw (ne_eqb (get_or r (10 * (end - 16)) 0) t n))

  full : 16 ≤ end → get_or r (10 * (end - 16)) 0 ≡ t → None ≡ room_in t (rows_in b)
  full h o = let q : ltb (held t (rows_in b)) store_limit ≡ false = sym (by-owner h) ∙ rw (eq-eqb (get_or r (10 * (end - 16)) 0) t o) in rw q

pub returns-then-from-t : goal.returns-then-from-t
returns-then-from-t c =
    full c.args.t c.body-rows.ensures (accepted_rows c.args.self.bytes.now c.args.self.accepted) (rw c.count.ensures at c.count_below-end.ensures.0) c.if-end-ge-STORE_LIMIT.true
    (sym c.from.ensures ∙ c.if-from-t.true)

pub returns-else-from-t : goal.returns-else-from-t
returns-else-from-t c =
    other c.args.t c.body-rows.ensures (accepted_rows c.args.self.bytes.now c.args.self.accepted) (rw c.count.ensures at c.count_below-end.ensures.0) c.if-end-ge-STORE_LIMIT.true
    (λ q. c.if-from-t.false (c.from.ensures ∙ q))

pub returns-else-end-ge-STORE_LIMIT : goal.returns-else-end-ge-STORE_LIMIT
returns-else-end-ge-STORE_LIMIT c =
    few c.args.t c.body-rows.ensures (accepted_rows c.args.self.bytes.now c.args.self.accepted) (rw c.count.ensures at c.count_below-end.ensures.0) c.if-end-ge-STORE_LIMIT.false

pub overflow_add-t : goal.overflow_add-t
overflow_add-t c = omega (arith, few-sites c.args.self.bytes.now c.args.self.accepted c.requires)

pub count_below-end-requires : goal.count_below-end-requires
count_below-end-requires c = search (rules, accepted_rows c.args.self.bytes.now c.args.self.accepted)
