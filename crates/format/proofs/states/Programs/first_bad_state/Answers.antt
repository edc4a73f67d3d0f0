-- `format::states::Programs::first_bad_state` meets its contract: up to site k every state is good, and `from` is the first action of site k or a later
-- one, so that its program stands from there up to the first action of a later site. Assumes nothing.
use mathlib.Core.Path.{◌≡◌, refl, sym, ◌∙◌}
use mathlib.Core.Bool.{Bool}
use mathlib.Core.List.{List}
use Prim.Native.Nat.{ℕ, zero-le, suc, ◌+◌, ◌*◌, ◌/◌, ◌-◌, ◌≤◌, ◌<◌}
use native.Mathlib.Nat.{not-suc-le-zero}
use native.Mathlib.Numerals.{add-one}
use native.Mathlib.Omega.{arith}
use borrow.Author.Tests.{le-ltb}
use lib.Dec.{ltb}
use lib.ListN.{length, get_or, take, drop}
use Rattle.words.specs.Lists.{all_of}
use Rattle.words.specs.Tables.{Ordered, count_below}
use Rattle.words.proofs.First.{first_none, first_more, first_is}
use Rattle.words.proofs.Tables.{table_at}
use Rattle.words.proofs.Truth.{so}
use Rattle.words.proofs.Groups.{low-high, group, table_below, table_sorted}
use Rattle.net.specs.Records.{site_width, action_width, no_site, no_action, read_site, read_action}
use Rattle.net.specs.Image.{sites_in, actions_in}
use Rattle.net.specs.declared.Site.{Site}
use Rattle.format.specs.Format.{placed, state_ok}
use Rattle.format.proofs.Searches.{stopped, ended}
use Rattle.format.proofs.states.Programs.first_bad_state.Invariants.{owner, lower}
use Rattle.format.proofs.states.Programs.first_bad_state.Goals as goal

lower-none : (s : List ℕ) → lower s 0 ≡ 0
lower-none s =
    first_is (λ k. ltb (owner (get_or (actions_in s) k no_action)) 0) (length (actions_in s)) 0 (omega arith)
    (λ j h. absurd (not-suc-le-zero h)) (λ h. le-ltb (owner (get_or (actions_in s) 0 no_action)) 0 zero-le)

front : (s : List ℕ) (i : ℕ) → owner (read_action s i) ≡ get_or s i 0
unfolding read_action
front s i = refl

module _ (s : List ℕ) (order : Ordered action_width s) where
  lower-found : (k : ℕ) {m r : ℕ} → m ≡ length s / action_width → r ≡ count_below s action_width m (k + 1) → r ≡ lower s (suc k)
  lower-found k e f = f ∙ rw (e, add-one k) (table_below owner no_action read_action front action_width s (suc k))

  lower-next : (k : ℕ) → lower s k ≤ lower s (suc k)
  lower-next k = low-high owner no_action (actions_in s) (table_sorted owner no_action read_action front action_width s order) k

  module _ (sites : List ℕ) (k : ℕ) (h : k < length sites / site_width) where
    -- what was tested of site k is its rule
    tested : {from to : ℕ} {x : Site} {r : Bool} → from ≡ lower s k → to ≡ lower s (suc k) → x ≡ read_site sites (site_width * k)
        → r ≡ all_of (placed (take (to - from) (drop from (actions_in s))) x.position x.vars) → r ≡ state_ok (actions_in s) (sites_in sites) k
    unfolding state_ok
    tested a b e f =
        let sorted = table_sorted owner no_action read_action front action_width s order in
        f ∙ rw (a, b, e, ← table_at read_site site_width sites k no_site h, ← group owner no_action (actions_in s) sorted k)

pub loop-k-init : goal.loop-k-init
loop-k-init c = record { from = sym (lower-none _); good = first_none _ }

pub state_ok-requires : goal.state_ok-requires
state_ok-requires c =
    let s = c.args.self.actions.now in
    let k = c.loop-k.k in
    let i = c.loop-k.invariant in
    (omega (arith, lower-next s c.args.self.in_order k, i.from, lower-found s c.args.self.in_order k c.count-m.ensures c.count_below-to.ensures.0), omega arith)

pub returns-then-not-state_ok : goal.returns-then-not-state_ok
returns-then-not-state_ok c =
    let s = c.args.self.actions.now in
    let sites = c.args.sites.now in
    let k = c.loop-k.k in
    let i = c.loop-k.invariant in
    let f = lower-found s c.args.self.in_order k c.count-m.ensures c.count_below-to.ensures.0 in
    let e = tested s c.args.self.in_order sites k (omega arith) i.from f c.nth.ensures c.state_ok.ensures in
    stopped read_site site_width sites (state_ok (actions_in s) (sites_in sites)) k _ c.count-k-end.ensures i.good (so e c.if-not-state_ok.true) (omega arith)

pub loop-k-preserved : goal.loop-k-preserved
loop-k-preserved c =
    let s = c.args.self.actions.now in
    let sites = c.args.sites.now in
    let k = c.loop-k.k in
    let i = c.loop-k.invariant in
    let f = lower-found s c.args.self.in_order k c.count-m.ensures c.count_below-to.ensures.0 in
    let e = tested s c.args.self.in_order sites k (omega arith) i.from f c.nth.ensures c.state_ok.ensures in
    record {
      from = rw (add-one k) f;
      good = first_more (state_ok (actions_in s) (sites_in sites)) k i.good (so e c.if-not-state_ok.false);
    }

pub returns : goal.returns
returns c =
    let s = c.args.self.actions.now in
    let sites = c.args.sites.now in
    ended read_site site_width sites (state_ok (actions_in s) (sites_in sites)) c.loop-k.k _ c.count-k-end.ensures c.loop-k.invariant.good (omega arith) (omega arith)
