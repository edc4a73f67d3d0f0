-- What steps are: how a step starts, what asking finds, what doing leaves. By the cases of the definitions, gone through once. Assumes nothing.
use Rattle.std.specs.Prelude.{None, Option, Some}
use mathlib.Core.Path.{◌≡◌, refl, sym, ap, ◌∙◌}
use mathlib.Core.Bool.{Bool, true, false, cond}
use mathlib.Core.List.{List}
use Prim.Native.Nat.{ℕ, ◌<◌}
use lib.Dec.{ltb, eqb}
use lib.ListN.{length, get_or, length-map}
use borrow.Author.Tests.{ltb-true, eqb-true}
use Rattle.words.proofs.Truth.{no}
use Rattle.words.proofs.First.{found_at}
use Rattle.belnap.specs.Belnap.{grants}
use Rattle.net.specs.Net.{State, Rules, site_at, row_at, program, names, place_of}
use Rattle.net.specs.declared.Row.{Row}
use Rattle.policy.specs.House.{judge}
use Rattle.policy.specs.declared.Act.{Act}
use Rattle.stepping.specs.Step.{stop, go, next, doing, going, start, hits, oldest, chosen, Plan, refuse, put, get, getting, judged, planned, asking, done, step, is_granted}
use Rattle.stepping.specs.declared.Answer.{Answer}
use Rattle.stepping.specs.declared.Answer.TheVariants.{Granted, Done, Denied, NoMatch, NoPlace, NoSite}

-- ---- how a step starts
-- site i, not at its program's end, with its next action at site t
pub record Begun (s : State) (i t : ℕ) : Type 0 where
  pub source : i < length s.sites
  pub unfinished : (site_at s.sites i).position < length (program i s.actions)
  pub target : t < length s.sites

-- the chosen row is one, and hits
pub chosen-hits : (a : Act) (l : List Row) (k : ℕ) → chosen a l ≡ Some k → (k < length l) × (hits a.target a.action (row_at l k) ≡ true)
unfolding oldest
chosen-hits a l k e = found_at (λ j. hits a.target a.action (row_at l j)) (length l) k e

-- ---- what a plan of site i is: the rules let a put, a take or a read pass, and a take or read has its row
pub data Plans (r : Rules) (s : State) (i : ℕ) : Plan → Type 0 where
  refuses : (a : Answer) → is_granted a ≡ false → Plans r s i (refuse a)
  puts : (t : ℕ) → Begun s i t → grants (judge r s.sites s.rows (doing s i t)) ≡ true → (next s i).capability ≡ 1 → Plans r s i (put (doing s i t))
  gets : (t k : ℕ) → Begun s i t → grants (judge r s.sites s.rows (doing s i t)) ≡ true → eqb (next s i).capability 1 ≡ false
      → chosen (doing s i t) s.rows ≡ Some k → Plans r s i (get (doing s i t) k)

module _ (r : Rules) (s : State) (i : ℕ) where
  module _ (t : ℕ) (h : Begun s i t) (g : grants (judge r s.sites s.rows (doing s i t)) ≡ true) where
    plans_getting : eqb (next s i).capability 1 ≡ false → (c : Option ℕ) → chosen (doing s i t) s.rows ≡ c → Plans r s i (getting (doing s i t) c)
    plans_getting q (Some k) e = gets t k h g q e
    plans_getting q None e = refuses NoMatch refl

    plans_allowed : (b : Bool) → eqb (next s i).capability 1 ≡ b
        → Plans r s i (cond b (put (doing s i t)) (getting (doing s i t) (chosen (doing s i t) s.rows)))
    plans_allowed true q = puts t h g (eqb-true (next s i).capability 1 q)
    plans_allowed false q = plans_getting q (chosen (doing s i t) s.rows) refl

  plans_judged : (t : ℕ) → Begun s i t → (b : Bool) → grants (judge r s.sites s.rows (doing s i t)) ≡ b → Plans r s i (judged s (doing s i t) b)
  plans_judged t h true g = plans_allowed t h g (eqb (next s i).capability 1) refl
  plans_judged t h false g = refuses Denied refl

  plans_from : (b₁ b₂ : Bool) (p : Option ℕ) → ltb i (length s.sites) ≡ b₁
      → ltb (site_at s.sites i).position (length (program i s.actions)) ≡ b₂ → place_of (names s.sites) (next s i).target.value ≡ p
      → Plans r s i (planned r s (cond b₁ (cond b₂ (going s i p) (stop Done)) (stop NoSite)))
  unfolding place_of
  plans_from true true (Some t) e f g =
      plans_judged t (record {
        source = ltb-true i (length s.sites) e;
        unfinished = ltb-true (site_at s.sites i).position (length (program i s.actions)) f;
        target = rw (length-map s.sites (λ x. x.name)) at (found_at (λ k. eqb (get_or (names s.sites) k 0) (next s i).target.value) (length (names s.sites)) t g).0;
      }) (grants (judge r s.sites s.rows (doing s i t))) refl
  plans_from true true None e f g = refuses NoPlace refl
  plans_from true false p e f g = refuses Done refl
  plans_from false b₂ p e f g = refuses NoSite refl

  pub plans : Plans r s i (asking r s i)
  unfolding asking start
  plans =
      plans_from (ltb i (length s.sites)) (ltb (site_at s.sites i).position (length (program i s.actions)))
      (place_of (names s.sites) (next s i).target.value) refl refl refl

  -- a put is of the site's next action, at a site; so are a take and a read, of a row that is there
  pub record Puts (act : Act) : Type 0 where
    pub begun : Begun s i act.target
    pub tried : act ≡ doing s i act.target
    pub granted : grants (judge r s.sites s.rows act) ≡ true
    pub capability : act.action.capability ≡ 1

  pub record Gets (act : Act) (k : ℕ) : Type 0 where
    pub begun : Begun s i act.target
    pub tried : act ≡ doing s i act.target
    pub granted : grants (judge r s.sites s.rows act) ≡ true
    pub capability : eqb act.action.capability 1 ≡ false
    pub row : chosen act s.rows ≡ Some k

  put_plan : (p : Plan) → Plans r s i p → (act : Act) → p ≡ put act → Puts act
  put_plan p (refuses a n) act e = no (cc)
  put_plan p (puts t h g c) act e =
      let q : act ≡ doing s i t = cc in
      let u : act.target ≡ t = ap (λ (x : Act). x.target) q in
      record { begun = rw u h; tried = q ∙ ap (doing s i) (sym u); granted = rw q g; capability = rw q c }
  put_plan p (gets t k h g q c) act e = no (cc)

  get_plan : (p : Plan) → Plans r s i p → (act : Act) (k : ℕ) → p ≡ get act k → Gets act k
  get_plan p (refuses a n) act k e = no (cc)
  get_plan p (puts t h g c) act k e = no (cc)
  get_plan p (gets t j h g d c) act k e =
      let q : act ≡ doing s i t = cc in
      let u : act.target ≡ t = ap (λ (x : Act). x.target) q in
      let v : j ≡ k = cc in
      record { begun = rw u h; tried = q ∙ ap (doing s i) (sym u); granted = rw q g; capability = rw q d; row = rw (q, ← v) c }

  pub asked_put : (act : Act) → asking r s i ≡ put act → Puts act
  asked_put = put_plan (asking r s i) plans

  pub asked_get : (act : Act) (k : ℕ) → asking r s i ≡ get act k → Gets act k
  asked_get = get_plan (asking r s i) plans

-- ---- a step that is not granted leaves the net as it stood
leaves : (s : State) (p : Plan) → is_granted (done s p).answer ≡ false → (done s p).after ≡ s
leaves s (refuse a) e = refl
leaves s (put act) e = no (cc)
leaves s (get act k) e = no (cc)

pub not_granted_leaves : (r : Rules) (s : State) (i : ℕ) → is_granted (step r s i).answer ≡ false → (step r s i).after ≡ s
not_granted_leaves r s i = leaves s (asking r s i)

-- ---- a full store answers as a store with room does: the answer of a put is what the rules say of it, whatever the store holds
put_answers : (r : Rules) (s : State) (i : ℕ) (act : Act) → start s i ≡ go act → act.action.capability ≡ 1
    → (step r s i).answer ≡ cond (grants (judge r s.sites s.rows act)) Granted Denied
unfolding asking
put_answers r s i act e p = rw e (pick (grants (judge r s.sites s.rows act)))
  where
    pick : (b : Bool) → (done s (judged s act b)).answer ≡ cond b Granted Denied
    pick true = rw p
    pick false = refl

-- two nets that try one put, and judge it alike, answer alike: however full the store is in either
pub full_answers : (r₁ r₂ : Rules) (s₁ s₂ : State) (i : ℕ) (act : Act) → start s₁ i ≡ go act → start s₂ i ≡ go act → act.action.capability ≡ 1
    → judge r₁ s₁.sites s₁.rows act ≡ judge r₂ s₂.sites s₂.rows act → (step r₁ s₁ i).answer ≡ (step r₂ s₂ i).answer
full_answers r₁ r₂ s₁ s₂ i act p q c e =
    put_answers r₁ s₁ i act p c ∙ ap (λ (v : ℕ). cond (grants v) Granted Denied) e ∙ sym (put_answers r₂ s₂ i act q c)
