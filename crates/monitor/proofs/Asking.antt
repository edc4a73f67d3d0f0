-- Asking, step by step: what each test of the code says of the plan. Assumes nothing.
use Rattle.std.specs.Prelude.{None, Option, Some, Ok, Err, Result}
use mathlib.Core.Path.{◌≡◌, refl, sym, ap, ◌∙◌}
use mathlib.Core.Bool.{Bool, true, false, cond}
use mathlib.Core.List.{List}
use Prim.Native.Nat.{ℕ, ◌+◌, ◌-◌, ◌*◌, ◌/◌, ◌≤◌, ◌<◌}
use native.Mathlib.Omega.{arith}
use lib.Dec.{ltb, eqb}
use lib.ListN.{length, get_or, length-map}
use borrow.Author.Tests.{lt-ltb, le-ltb, ltb-true}
use Rattle.words.specs.Tables.{Ordered, count_below}
use Rattle.words.proofs.Truth.{no}
use Rattle.words.proofs.First.{found_at}
use Rattle.words.proofs.Tables.{table_length, table_at}
use Rattle.belnap.specs.Belnap.{grants}
use Rattle.net.specs.Records.{site_width, action_width, no_site, no_action, read_site, read_action}
use Rattle.net.specs.Net.{most_sites, State, site_at, action_at, program, names, place_of}
use Rattle.net.specs.Image.{most_of, contents_ok, body_in, sites_in, nodes_in, aspects_in, rows_in, state_in, rules_in}
use Rattle.net.specs.declared.Site.{Site}
use Rattle.net.specs.declared.Action.{Action}
use Rattle.net.proofs.Bodies.{entry_of, sites_count}
use Rattle.format.specs.Verdict.{verdict_of}
use Rattle.format.proofs.Verdicts.{accepted_right}
use Rattle.policy.specs.House.{act_of, rules_of, judge}
use Rattle.policy.specs.declared.Act.{Act}
use Rattle.stepping.specs.Step.{go, resolved_action, next, going, start, refuse, allowed, planned, asking}
use Rattle.stepping.specs.declared.Answer.{Answer}
use Rattle.stepping.specs.declared.Answer.TheVariants.{Done, Denied, NoPlace, NoSite}
use Rattle.monitor.specs.Plan.{toward, next_in, plan_of}
use Rattle.monitor.specs.declared.ask.Grant.{Grant}
use Rattle.monitor.proofs.Stretches.{action_front, ends_within, owned_length, owned_at}

-- ---- an accepted image: its contents are in order, and its sites are few
pub contents_of : (b : List ℕ) → verdict_of b ≡ Ok tt → contents_ok b ≡ true
contents_of b e = (accepted_right b e).contents

pub most_sites_lem : (b : List ℕ) → verdict_of b ≡ Ok tt → length (state_in b).sites ≤ most_sites
unfolding most_of
most_sites_lem b e = let ok = contents_of b e in omega (arith, sites_count b ok, (entry_of b ok 1 (omega arith) (omega arith)).most)

pub few-sites : (b : List ℕ) → verdict_of b ≡ Ok tt → {t : ℕ} → t < length (state_in b).sites → t < 32
few-sites b e h = omega (arith, most_sites_lem b e)

-- ---- step 4
module _ (image : List ℕ) {sites nodes aspects rows : List ℕ} {g : Bool} (act : Act)
    (e₁ : sites ≡ body_in image 1) (e₂ : nodes ≡ body_in image 2) (e₃ : aspects ≡ body_in image 3) (e₅ : rows ≡ body_in image 5)
    (v : g ≡ grants (judge (rules_of (nodes_in nodes) (aspects_in aspects)) (sites_in sites) (rows_in rows) act)) where
  grants_is : g ≡ grants (judge (rules_in image) (state_in image).sites (state_in image).rows act)
  grants_is = v ∙ rw (e₁, e₂, e₃, e₅)

  pub judged-granted : (x : Result Grant Answer) → g ≡ true → plan_of x ≡ allowed (state_in image) act → plan_of x ≡ planned (rules_in image) (state_in image) (go act)
  judged-granted x y p = rw (← grants_is, y) p

  pub judged_denied : g ≡ false → refuse Denied ≡ planned (rules_in image) (state_in image) (go act)
  judged_denied y = rw (← grants_is, y)

-- ---- step 3
module _ (image : List ℕ) (a : Action) {sites : List ℕ} {f : Option ℕ} (e : sites ≡ body_in image 1) (p : f ≡ place_of (names (sites_in sites)) a.target.value) where
  place_is : f ≡ place_of (names (state_in image).sites) a.target.value
  place_is = p ∙ rw e

  pub placed_inside : (t : ℕ) → f ≡ Some t → t < length (state_in image).sites
  unfolding place_of
  placed_inside t q =
      rw (length-map (state_in image).sites (λ x. x.name)) at
      (found_at (λ k. eqb (get_or (names (state_in image).sites) k 0) a.target.value) (length (names (state_in image).sites)) t (sym place_is ∙ q)).0

module _ (image : List ℕ) (i : ℕ) (a : Action) {sites : List ℕ} {f : Option ℕ} (e : sites ≡ body_in image 1) (p : f ≡ place_of (names (sites_in sites)) a.target.value) where
  abbrev pub Placed : Result Grant Answer → Type 0
  Placed x = plan_of x ≡ planned (rules_in image) (state_in image) (toward i a (place_of (names (state_in image).sites) a.target.value))

  pub placed_none : f ≡ None → Placed (Err NoPlace)
  placed_none q = rw (← place_is image a e p, q)

  pub placed_there : (x : Result Grant Answer) (t : ℕ) → f ≡ Some t → plan_of x ≡ planned (rules_in image) (state_in image) (go (act_of i t a)) → Placed x
  placed_there x t q w = rw (← place_is image a e p, q) w

toward-going : (s : State) (i : ℕ) (f : Option ℕ) → toward i (next s i) f ≡ going s i f
toward-going s i (Some t) = refl
toward-going s i None = refl

-- ---- steps 1 and 2
-- a search that finds k exactly if b holds, by what it found
none_of : (b : Bool) (k : ℕ) {f : Option ℕ} → f ≡ cond b (Some k) None → f ≡ None → b ≡ false
none_of true k e q = no (cc)
none_of false k e q = refl

some_of : (b : Bool) {j k : ℕ} {f : Option ℕ} → f ≡ cond b (Some k) None → f ≡ Some j → (b ≡ true) × (j ≡ k)
some_of true e q = (refl, cc)
some_of false e q = no (cc)

module _ (image : List ℕ) (i : ℕ) where
  abbrev s : State
  s = state_in image

  abbrev b : List ℕ
  b = body_in image 4

  abbrev first : ℕ
  first = count_below b 24 (length b / 24) i

  abbrev end : ℕ
  end = count_below b 24 (length b / 24) (i + 1)

  -- the site, read at its place
  pub site_read : {sites : List ℕ} (x : Site) → sites ≡ body_in image 1 → x ≡ read_site sites (32 * i) → i < length s.sites → x ≡ site_at s.sites i
  site_read x e r h =
      r ∙ rw e (sym (table_at read_site site_width (body_in image 1) i no_site (rw (table_length read_site site_width (body_in image 1)) at h)))

  pub asked_no_site : length s.sites ≤ i → refuse NoSite ≡ asking (rules_in image) s i
  unfolding asking start
  asked_no_site h = rw (le-ltb i (length s.sites) h)

  -- what the search for the next action finds
  module _ (h : i < length s.sites) (order : Ordered action_width b) {site : Site} {actions : List ℕ} {f : Option ℕ} (e₁ : site ≡ site_at s.sites i) (e₄ : actions ≡ b)
      (e : f ≡ next_in actions i site.position) where
    abbrev p : ℕ
    p = (site_at s.sites i).position

    abbrev many : ℕ
    many = length (program i s.actions)

    found_is : f ≡ next_in b i p
    found_is = e ∙ rw (e₁, e₄)

    pub asked_done : f ≡ None → refuse Done ≡ asking (rules_in image) s i
    unfolding asking start
    asked_done q = rw (lt-ltb i (length s.sites) h, none_of (ltb p many) (first + p) found_is q)

    module _ {k : ℕ} (q : f ≡ Some k) where
      goes_on : ltb p many ≡ true
      goes_on = (some_of (ltb p many) found_is q).0

      inside : p < end - first
      inside = rw (owned_length (λ y. y.owner) no_action read_action action_front action_width b order i) at (ltb-true p many goes_on)

      -- the next action lies within, at its place
      pub next-inside : k < length actions / 24
      next-inside =
          let w = ends_within (λ y. y.owner) no_action read_action action_front action_width b order i in
          let l = (some_of (ltb p many) found_is q).1 in
          let m = inside in
          rw e₄ (omega arith)

      next-read : action_at (program i s.actions) p ≡ read_action actions (24 * k)
      next-read = owned_at (λ y. y.owner) no_action read_action action_front action_width b order i p inside ∙ rw ((some_of (ltb p many) found_is q).1, e₄)

      pub asked-next : (x : Result Grant Answer) (a : Action) → a ≡ resolved_action site.vars (read_action actions (24 * k))
          → plan_of x ≡ planned (rules_in image) s (toward i a (place_of (names s.sites) a.target.value)) → plan_of x ≡ asking (rules_in image) s i
      unfolding asking start
      asked-next x a r w =
          let n : a ≡ next s i = r ∙ rw (e₁, ← next-read) in
          rw (lt-ltb i (length s.sites) h, goes_on)
          (w ∙ ap (planned (rules_in image) s) (ap (λ (y : Action). toward i y (place_of (names s.sites) y.target.value)) n ∙ toward-going s i (place_of (names s.sites) (next s i).target.value)))
