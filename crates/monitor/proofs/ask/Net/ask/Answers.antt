-- `monitor::ask::Net::ask` meets its contract: by whether there is such a site, whether its program goes on and whether the target is a site. Assumes nothing.
use Rattle.std.proofs.Common.{rules, ◌≡◌, ap, ◌∙◌, ℕ, ◌*◌, ◌/◌, ◌<◌, List, length, arith, None, Option, Some, Ok, Err, Result}
use Rattle.words.proofs.Tables.{table_length}
use Rattle.net.specs.Records.{site_width, read_site, read_action}
use Rattle.net.specs.Net.{names, place_of}
use Rattle.net.specs.Image.{sites_in, body_in, state_in, rules_in}
use Rattle.net.specs.declared.Action.{Action}
use Rattle.net.specs.declared.Site.{Site}
use Rattle.format.specs.Verdict.{verdict_of}
use Rattle.format.proofs.Ordered.{accepted_names, accepted_actions}
use Rattle.policy.specs.House.{act_of}
use Rattle.stepping.specs.Step.{resolved_action, go, refuse, planned, asking}
use Rattle.stepping.specs.declared.Answer.{Answer}
use Rattle.stepping.specs.declared.Answer.TheVariants.{Done, NoPlace}
use Rattle.monitor.specs.Plan.{toward, next_in, plan_of}
use Rattle.monitor.specs.declared.ask.Grant.{Grant}
use Rattle.monitor.proofs.Asking.{site_read, asked_no_site, asked_done, next-inside, asked-next, placed_none, placed_inside, placed_there}
use Rattle.monitor.proofs.ask.Net.ask.Goals as goal

-- there is such a site, and its next action has been looked for
module _ (image : List ℕ) (i : ℕ) {sites actions : List ℕ} {site : Site} {f : Option ℕ} (ok : verdict_of image ≡ Ok tt)
    (e₁ : sites ≡ body_in image 1) (h : i < length sites / 32) (e : site ≡ read_site sites (32 * i)) (e₄ : actions ≡ body_in image 4)
    (n : f ≡ next_in (body_in image 4) i site.position) where
  n₄ : f ≡ next_in actions i site.position
  n₄ = rw e₄ n

  inside : i < length (state_in image).sites
  inside = rw (table_length read_site site_width (body_in image 1), ← e₁) h

  done : f ≡ None → refuse Done ≡ asking (rules_in image) (state_in image) i
  done = asked_done image i inside (accepted_actions image ok) (site_read image i site e₁ e inside) e₄ n₄

  within : {k : ℕ} → f ≡ Some k → k < length actions / 24
  within = next-inside image i inside (accepted_actions image ok) (site_read image i site e₁ e inside) e₄ n₄

  -- by the place of the target
  module _ {k : ℕ} (q : f ≡ Some k) {x a : Action} (r : x ≡ read_action actions (24 * k)) (w : a ≡ resolved_action site.vars x) {p : Option ℕ}
      (v : p ≡ place_of (names (sites_in sites)) a.target.value) where
    goes : (y : Result Grant Answer) → plan_of y ≡ planned (rules_in image) (state_in image) (toward i a (place_of (names (state_in image).sites) a.target.value))
        → plan_of y ≡ asking (rules_in image) (state_in image) i
    goes y = asked-next image i inside (accepted_actions image ok) (site_read image i site e₁ e inside) e₄ n₄ q y a (w ∙ ap (resolved_action site.vars) r)

    nowhere : p ≡ None → refuse NoPlace ≡ asking (rules_in image) (state_in image) i
    nowhere z = goes (Err NoPlace) (placed_none image i a e₁ v z)

    somewhere : (t : ℕ) → p ≡ Some t → (y : Result Grant Answer) → plan_of y ≡ planned (rules_in image) (state_in image) (go (act_of i t a))
        → plan_of y ≡ asking (rules_in image) (state_in image) i
    somewhere t z y g = goes y (placed_there image i a e₁ v y t z g)

pub returns-then-count-i : goal.returns-then-count-i
returns-then-count-i c =
    let b = c.args.self.now.image.bytes.now in
    asked_no_site b c.args.i (rw (table_length read_site site_width (body_in b 1), ← c.body-sites.ensures, ← c.count.ensures) c.if-count-i.true)

pub returns-in_err-k : goal.returns-in_err-k
returns-in_err-k c =
    let a : c.from_residual.result ≡ Err Done = search rules in
    let b : c.next_of.result ≡ None = search rules in
    rw a
    (done c.args.self.now.image.bytes.now c.args.i c.args.self.now.image.accepted c.body-sites.ensures (rw c.count.ensures at c.if-count-i.false) c.nth-site.ensures
    c.body-actions.ensures c.next_of.ensures b)

pub nth-requires : goal.nth-requires
nth-requires c =
    let b : c.next_of.result ≡ Some c.in_ok-k.k = search rules in
    let h =
    within c.args.self.now.image.bytes.now c.args.i c.args.self.now.image.accepted c.body-sites.ensures (rw c.count.ensures at c.if-count-i.false) c.nth-site.ensures
    c.body-actions.ensures c.next_of.ensures b in
    omega arith

pub place_of-requires : goal.place_of-requires
place_of-requires c = rw c.body-sites.ensures (accepted_names c.args.self.now.image.bytes.now c.args.self.now.image.accepted)

pub returns-in_default : goal.returns-in_default
returns-in_default c =
    let b : c.next_of.result ≡ Some c.in_ok-k.k = search rules in
    let z : c.place_of.result ≡ None = search rules in
    nowhere c.args.self.now.image.bytes.now c.args.i c.args.self.now.image.accepted c.body-sites.ensures (rw c.count.ensures at c.if-count-i.false) c.nth-site.ensures
    c.body-actions.ensures c.next_of.ensures b c.nth.ensures c.resolved_action-action.ensures c.place_of.ensures z

pub judged-requires : goal.judged-requires
judged-requires c =
    let z : c.place_of.result ≡ Some c.in-Some.target = search rules in (
      inside c.args.self.now.image.bytes.now c.args.i c.args.self.now.image.accepted c.body-sites.ensures (rw c.count.ensures at c.if-count-i.false) c.nth-site.ensures
          c.body-actions.ensures c.next_of.ensures,
      placed_inside c.args.self.now.image.bytes.now c.resolved_action-action.result c.body-sites.ensures c.place_of.ensures c.in-Some.target z,
    )

pub returns : goal.returns
returns c =
    let b : c.next_of.result ≡ Some c.in_ok-k.k = search rules in
    let z : c.place_of.result ≡ Some c.in-Some.target = search rules in
    somewhere c.args.self.now.image.bytes.now c.args.i c.args.self.now.image.accepted c.body-sites.ensures (rw c.count.ensures at c.if-count-i.false) c.nth-site.ensures
    c.body-actions.ensures c.next_of.ensures b c.nth.ensures c.resolved_action-action.ensures c.place_of.ensures c.in-Some.target z c.judged.result c.judged.ensures
