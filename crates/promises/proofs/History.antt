-- History: HS and HO only rise, since a step changes them by joins alone; what is read or taken is in HS from then on; and a put or take goes
-- only to a store whose class dominates HS. So a job that has read high is never granted a write below it. Assumes nothing.
use mathlib.Core.Path.{◌≡◌, refl, ap, ◌∙◌, subst}
use mathlib.Core.Bool.{Bool, true, false}
use mathlib.Core.List.{List, [], ◌∷◌}
use Prim.Native.Nat.{ℕ, zero, suc, ◌<◌}
use lib.Dec.{T}
use lib.ListN.{length}
use lib.Seq.{get_or-set_same, lt-length-set}
use Rattle.words.proofs.Truth.{is_T, both_T}
use Rattle.level.specs.Level.{dominates, join}
use Rattle.level.proofs.Laws.{dominates_refl, dominates_trans, join_left}
use Rattle.belnap.specs.Belnap.{grants, gather_of}
use Rattle.belnap.proofs.Laws.{gather_grants}
use Rattle.net.specs.Records.{no_site}
use Rattle.net.specs.Net.{State, Rules, site_at}
use Rattle.net.specs.declared.Site.{Site}
use Rattle.policy.specs.House.{terms_of, terms_in, mandatory, policy, judge}
use Rattle.policy.specs.declared.Act.{Act}
use Rattle.policy.proofs.Mandatory.{mandatory_put, mandatory-take}
use Rattle.stepping.specs.Step.{change, advance, marked, loses, informed, bound_by, has_room, put_after, got_after, Plan, refuse, put, get, asking, done, step, final}
use Rattle.stepping.proofs.Informed.{informed_knows}
use Rattle.stepping.proofs.StepLaws.{asked_put, asked_get}

-- what became of a site: its class and clearance are as they were, its histories have not fallen
pub record Risen (x y : Site) : Type 0 where
  pub class : y.o ≡ x.o
  pub clearance : y.s ≡ x.s
  pub process : T (dominates y.hs x.hs)
  pub store : T (dominates y.ho x.ho)

risen_same : (x : Site) → Risen x x
risen_same x = record { class = refl; clearance = refl; process = dominates_refl x.hs; store = dominates_refl x.ho }

risen_then : (x y z : Site) → Risen x y → Risen y z → Risen x z
risen_then x y z p q = record {
  class = q.class ∙ p.class;
  clearance = q.clearance ∙ p.clearance;
  process = dominates_trans z.hs y.hs x.hs q.process p.process;
  store = dominates_trans z.ho y.ho x.ho q.store p.store;
}

-- a join of three dominates each
join_first : (a b c : ℕ) → T (dominates (join (join a b) c) a)
join_first a b c = dominates_trans (join (join a b) c) (join a b) a (join_left (join a b) c) (join_left a b)

-- ---- one site changed
risen_change : (f : Site → Site) → ((x : Site) → Risen x (f x)) → (i : ℕ) (l : List Site) (k : ℕ) → Risen (site_at l k) (site_at (change f i l) k)
risen_change f g i [] k = risen_same no_site
risen_change f g zero (x ∷ l) zero = g x
risen_change f g zero (x ∷ l) (suc k) = risen_same (site_at l k)
risen_change f g (suc i) (x ∷ l) zero = risen_same x
risen_change f g (suc i) (x ∷ l) (suc k) = risen_change f g i l k

risen_advance : (vars : List ℕ) (x : Site) → Risen x (advance vars x)
risen_advance vars x = record { class = refl; clearance = refl; process = dominates_refl x.hs; store = dominates_refl x.ho }

risen_marked : (c hs : ℕ) (x : Site) → Risen x (marked c hs x)
risen_marked c hs x = record { class = refl; clearance = refl; process = dominates_refl x.hs; store = join_first x.ho c hs }

risen_loses : (x : Site) → Risen x (loses x)
risen_loses x = record { class = refl; clearance = refl; process = dominates_refl x.hs; store = dominates_refl x.ho }

risen_informed : (o ho : ℕ) (x : Site) → Risen x (informed o ho x)
risen_informed o ho x = record { class = refl; clearance = refl; process = join_first x.hs o ho; store = dominates_refl x.ho }

-- ---- along a step, and along a run
module _ (s : State) (k : ℕ) where
  abbrev After : State → Type 0
  After t = Risen (site_at s.sites k) (site_at t.sites k)

  two : (f g : Site → Site) → ((x : Site) → Risen x (f x)) → ((x : Site) → Risen x (g x)) → (i j : ℕ)
      → Risen (site_at s.sites k) (site_at (change g j (change f i s.sites)) k)
  two f g p q i j =
      risen_then (site_at s.sites k) (site_at (change f i s.sites) k) (site_at (change g j (change f i s.sites)) k)
      (risen_change f p i s.sites k) (risen_change g q j (change f i s.sites) k)

  risen_put : (act : Act) (b : Bool) → After (put_after s act b)
  risen_put act true =
      let x = site_at s.sites act.source in
      two (advance x.vars) (marked x.c x.hs) (risen_advance x.vars) (risen_marked x.c x.hs) act.source act.target
  risen_put act false =
      let x = site_at s.sites act.source in
      two (advance x.vars) loses (risen_advance x.vars) risen_loses act.source act.target

  risen_done : (p : Plan) → After (done s p).after
  risen_done (refuse a) = risen_same (site_at s.sites k)
  risen_done (put act) = risen_put act (has_room s act)
  risen_done (get act j) =
      let y = site_at s.sites act.target in
      let vars = bound_by s act j in
      two (advance vars) (informed y.o y.ho) (risen_advance vars) (risen_informed y.o y.ho) act.source act.source

-- HS and HO never fall along any run, and classes stay
pub history_rises : (r : Rules) (s : State) (is : List ℕ) (k : ℕ) → Risen (site_at s.sites k) (site_at (final r s is).sites k)
history_rises r s [] k = risen_same (site_at s.sites k)
history_rises r s (i ∷ is) k =
    risen_then (site_at s.sites k) (site_at (step r s i).after.sites k) (site_at (final r s (i ∷ is)).sites k)
    (risen_done s k (asking r s i)) (history_rises r (step r s i).after is k)

-- ---- after a granted take or read, HS of the source dominates the store's class and the store's history
abbrev pub Knows : State → ℕ → Site → Type 0
Knows s i y = T (dominates (site_at s.sites i).hs y.o) × T (dominates (site_at s.sites i).hs y.ho)

got_knows : (s : State) (act : Act) (k : ℕ) → act.source < length s.sites → Knows (got_after s act k) act.source (site_at s.sites act.target)
got_knows s act k h =
    let i = act.source in
    let y = site_at s.sites act.target in
    let l = change (advance (bound_by s act k)) i s.sites in
    let x = site_at l i in
    let b = lt-length-set s.sites i (advance (bound_by s act k) (site_at s.sites i)) h in
    rw (get_or-set_same l i (informed y.o y.ho x) no_site b) (informed_knows y.o y.ho x)

pub what_is_read_is_known : (r : Rules) (s : State) (i : ℕ) (act : Act) (k : ℕ) → asking r s i ≡ get act k
    → Knows (step r s i).after i (site_at s.sites act.target)
what_is_read_is_known r s i act k e =
    let g = asked_get r s i act k e in
    let from : act.source ≡ i = ap (λ (x : Act). x.source) g.tried in
    rw e (subst (λ (j : ℕ). Knows (got_after s act k) j (site_at s.sites act.target)) from (got_knows s act k (rw from g.begun.source)))

-- ---- what is granted, the mandatory rules grant
mandatory-grants : (r : Rules) (s : State) (act : Act) → grants (judge r s.sites s.rows act) ≡ true
    → T (grants (mandatory act.action.capability (terms_in s.sites act)))
unfolding judge
mandatory-grants r s act e =
    let m = mandatory act.action.capability (terms_in s.sites act) in
    let p : ℕ → ℕ = λ site. policy r.nodes s.sites s.rows act site r.aspects in
    (gather_grants m (gather_of (p act.source) (p act.target)) (is_T (grants (gather_of m (gather_of (p act.source) (p act.target)))) e)).0

-- a granted put is at a store whose class dominates HS of the source; so is a granted take
pub no_put_below : (r : Rules) (s : State) (i : ℕ) (act : Act) → asking r s i ≡ put act
    → T (dominates (site_at s.sites act.target).o (site_at s.sites i).hs)
no_put_below r s i act e =
    let g = asked_put r s i act e in
    let x = site_at s.sites i in
    let y = site_at s.sites act.target in
    let from : act.source ≡ i = ap (λ (z : Act). z.source) g.tried in
    let m : T (grants (mandatory 1 (terms_of x y))) = rw (g.capability, from) at (mandatory-grants r s act g.granted) in
    (both_T (dominates y.o x.c) (dominates y.o x.hs) (rw (mandatory_put x y) at m)).1

pub no_take_below : (r : Rules) (s : State) (i : ℕ) (act : Act) (k : ℕ) → asking r s i ≡ get act k → act.action.capability ≡ 2
    → T (dominates (site_at s.sites act.target).o (site_at s.sites i).hs)
no_take_below r s i act k e c =
    let g = asked_get r s i act k e in
    let x = site_at s.sites i in
    let y = site_at s.sites act.target in
    let from : act.source ≡ i = ap (λ (z : Act). z.source) g.tried in
    let m : T (grants (mandatory 2 (terms_of x y))) = rw (c, from) at (mandatory-grants r s act g.granted) in
    (both_T (dominates y.o x.hs) _ (both_T (dominates y.o x.c) _ (rw (mandatory-take x y) at m)).1).0

-- ---- the trainee's second mistake: site i takes or reads at store a; however the farm is stepped from there, a put or a take of site i that is
-- granted later is at a store whose class dominates that of a
module _ (r : Rules) (s : State) (i : ℕ) (read : Act) (k : ℕ) (reads : asking r s i ≡ get read k) (is : List ℕ) where
  abbrev later : State
  later = final r (step r s i).after is

  abbrev class_of : ℕ → ℕ
  class_of site = (site_at s.sites site).o

  class_stays : (site : ℕ) → (site_at later.sites site).o ≡ class_of site
  class_stays site = (history_rises r s (i ∷ is) site).class

  known-later : T (dominates (site_at later.sites i).hs (class_of read.target))
  known-later =
      dominates_trans (site_at later.sites i).hs (site_at (step r s i).after.sites i).hs (class_of read.target)
      (history_rises r (step r s i).after is i).process (what_is_read_is_known r s i read k reads).0

  above : (b : ℕ) → T (dominates (site_at later.sites b).o (site_at later.sites i).hs) → T (dominates (class_of b) (class_of read.target))
  above b t =
      rw (← class_stays b) (dominates_trans (site_at later.sites b).o (site_at later.sites i).hs (class_of read.target) t known-later)

  pub no_write_down : (act : Act) → asking r later i ≡ put act → T (dominates (class_of act.target) (class_of read.target))
  no_write_down act e = above act.target (no_put_below r later i act e)

  pub no_take_down : (act : Act) (j : ℕ) → asking r later i ≡ get act j → act.action.capability ≡ 2
      → T (dominates (class_of act.target) (class_of read.target))
  no_take_down act j e c = above act.target (no_take_below r later i act j e c)
