-- `monitor::ask::Net::next_of` meets its contract: the action p past the first of site i is i's exactly if i has more than p. Assumes nothing.
use Rattle.std.specs.Bool.{then_some}
use Rattle.std.proofs.Common.{rules, ◌≡◌, sym, ap, ◌∙◌, ℕ, Bool, true, false, cond, ◌+◌, ◌-◌, ◌*◌, ◌/◌, ◌≤◌, ◌<◌, List, ltb, eqb, length, get_or, arith, None, Option, Some}
use borrow.Author.Tests.{le-ltb}
use lib.Dec.{ltb→lt, lt→ltb}
use Rattle.words.specs.Tables.{Ordered, count_below}
use Rattle.words.proofs.Truth.{same_truth}
use Rattle.net.specs.Records.{action_width, no_action, read_action}
use Rattle.net.specs.Net.{program}
use Rattle.net.specs.Image.{actions_in}
use Rattle.format.proofs.Ordered.{accepted_actions}
use Rattle.monitor.specs.Plan.{next_in}
use Rattle.monitor.proofs.Stretches.{action_front, ends_within, owner_on, owned_length}
use Rattle.monitor.proofs.ask.Net.next_of.Goals as goal
use Rattle.monitor.proofs.ask.Net.next_of.Goals.{then-k-n, else-k-n}

module _ (b : List ℕ) (order : Ordered action_width b) (i p : ℕ) {first : ℕ} (e : first ≡ count_below b 24 (length b / 24) i) where
  abbrev begins : ℕ
  begins = count_below b 24 (length b / 24) i

  abbrev ends : ℕ
  ends = count_below b 24 (length b / 24) (i + 1)

  many : length (program i (actions_in b)) ≡ ends - begins
  many = owned_length (λ y. y.owner) no_action read_action action_front action_width b order i

  past : length b / 24 ≤ first + p → ltb p (length (program i (actions_in b))) ≡ false
  past h = rw (many, le-ltb p (ends - begins) (let w = ends_within (λ y. y.owner) no_action read_action action_front action_width b order i in omega arith))

  by-owner : first + p < length b / 24 → ltb p (length (program i (actions_in b))) ≡ eqb (get_or b (24 * (first + p)) 0) i
  by-owner h =
      rw (many, owner_on (λ y. y.owner) no_action read_action action_front action_width b order i (first + p) (omega arith) h)
      (same_truth (ltb p (ends - begins)) (ltb (first + p) ends)
      (λ l. lt→ltb (first + p) ends (omega (arith, ltb→lt p (ends - begins) l)))
      (λ l. lt→ltb p (ends - begins) (omega (arith, ltb→lt (first + p) ends l))))

  -- what was tested is whether i has so many actions
  next : {t : Bool} {r : Option ℕ} → t ≡ ltb p (length (program i (actions_in b))) → r ≡ then_some t (first + p) → r ≡ next_in b i p
  next {t} w h = h ∙ pick t w ∙ ap (λ (k : ℕ). cond (ltb p (length (program i (actions_in b)))) (Some (k + p)) None) e
    where
      pick : (t : Bool) → t ≡ ltb p (length (program i (actions_in b))) → then_some t (first + p) ≡ cond (ltb p (length (program i (actions_in b)))) (Some (first + p)) None
      pick true w = rw (← w)
      pick false w = rw (← w)

pub count_below-requires : goal.count_below-requires
count_below-requires c = let o = accepted_actions c.args.self.now.image.bytes.now c.args.self.now.image.accepted in search (rules, o)

pub returns : goal.returns
returns c =
    let b = c.body-actions.result in
    let i = c.args.i in
    let p = c.args.p in
    let order : Ordered action_width b.now = rw c.body-actions.ensures (accepted_actions c.args.self.now.image.bytes.now c.args.self.now.image.accepted) in
    let e : c.count_below.result ≡ count_below b.now 24 (length b.now / 24) i = rw c.count-n.ensures at c.count_below.ensures.0 in
    let s = rw c.from.ensures at c.then_some.ensures in
    rw (← c.body-actions.ensures) (
    next b.now order i p e
    (elim c.if-k-n.branch [
      | then-k-n w ↦ w.then_some-is ∙ rw (w.from-then-k-n.ensures, c.from.ensures) (sym (by-owner b.now order i p e (rw (c.from.ensures, c.count-n.ensures) at w.if-k-n.true)))
      | else-k-n w ↦ w.then_some-is ∙ le-ltb _ _ w.if-k-n.false ∙ sym (past b.now order i p e (rw (c.from.ensures, c.count-n.ensures) at w.if-k-n.false))
    ])
    s)
