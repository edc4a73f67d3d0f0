-- More rules never allow more: of two accepted nets that differ in the rules alone, the second with all of the first's and any others, what the
-- first denies the second denies; and the steps that the second grants in a run, the first grants too, to the same end. A step that the second
-- grants is judged by both and does the same; one that it does not grant is struck out and changes nothing. Assumes nothing.
use Rattle.std.specs.Prelude.{None, Option, Some}
use mathlib.Core.Path.{◌≡◌, refl, sym, ap, ◌∙◌}
use mathlib.Core.Bool.{Bool, true, false, cond}
use mathlib.Core.List.{List, [], ◌∷◌, ◌++◌, Memᴰ}
use Prim.Native.Nat.{ℕ, zero, suc, ◌<◌}
use native.Mathlib.Omega.{arith}
use lib.Dec.{T, eqb, ltb→lt}
use lib.ListN.{length}
use Rattle.belnap.specs.Belnap.{grants}
use Rattle.words.specs.Lists.{insert_at}
use Rattle.words.proofs.Truth.{no, part, is_T}
use Rattle.words.proofs.First.{every_at}
use Rattle.net.specs.Net.{State, Rules, aspect_at}
use Rattle.net.specs.declared.Node.{Node}
use Rattle.net.specs.declared.Aspect.{Aspect}
use Rattle.rulebook.specs.Rulebook.{aspect_ok, aspect_rules}
use Rattle.format.specs.Format.{well_formed, net_rules}
use Rattle.policy.specs.House.{judge}
use Rattle.policy.specs.declared.Act.{Act}
use Rattle.policy.specs.Adding.{Adds}
use Rattle.policy.proofs.More.{Own, judge_fewer}
use Rattle.stepping.specs.Step.{Out, Start, stop, go, start, put, getting, chosen, allowed, judged, planned, asking, done, step, final, is_granted}
use Rattle.stepping.proofs.StepLaws.{not_granted_leaves}
use Rattle.stepping.specs.declared.Answer.{Answer}
use Rattle.stepping.specs.declared.Answer.TheVariants.{Granted, Done, Denied, NoMatch, NoPlace, NoSite, NoNet}
use Rattle.promises.specs.Runs.{keep, granted, Follows}

-- ---- each aspect of a well-formed net refers to nodes that are there
at_number : (a : Aspect) (l : List Aspect) → Memᴰ a l → (k : ℕ) × (k < length l) × (aspect_at l k ≡ a)
at_number a [] h = elim h [ ]
at_number a (x ∷ l) (Memᴰ.head e) = (0, omega arith, sym e)
at_number a (x ∷ l) (Memᴰ.tail h) = let p = at_number a l h in (suc p.0, omega arith, p.2)

own : (s : State) (r : Rules) → T (well_formed (record { state = s; rules = r })) → Own r
unfolding well_formed aspect_ok
own s r t a h =
    let p = at_number a r.aspects h in
    let n = length s.sites in
    let g = is_T _ (every_at (aspect_ok n r.nodes r.aspects) (length r.aspects) (part (net_rules s r) t 3) p.0 p.1) in
    let f = part (aspect_rules n r.nodes r.aspects p.0 (aspect_at r.aspects p.0)) g in
    rw (← p.2) (ltb→lt _ _ (f 8), ltb→lt _ _ (f 10))

granted_is : (a : Answer) → is_granted a ≡ true → a ≡ Granted
granted_is Granted e = refl
granted_is Done e = no (cc)
granted_is Denied e = no (cc)
granted_is NoMatch e = no (cc)
granted_is NoPlace e = no (cc)
granted_is NoSite e = no (cc)
granted_is NoNet e = no (cc)

-- what the rules let pass is not denied
denies_not : {A : Type 0} (s : State) (act : Act) → (done s (allowed s act)).answer ≡ Denied → A
denies_not s act e = pick (eqb act.action.capability 1) (chosen act s.rows) e
  where
    pick : {A : Type 0} (b : Bool) (c : Option ℕ) → (done s (cond b (put act) (getting act c))).answer ≡ Denied → A
    pick true c e = no (cc)
    pick false (Some k) e = no (cc)
    pick false None e = no (cc)

module _ (r₁ r₂ : Rules) (owned : Own r₁) (more : Adds r₁ r₂) where
  judged_same : (s : State) (act : Act) (b₁ b₂ : Bool) → (T b₂ → T b₁) → is_granted (done s (judged s act b₂)).answer ≡ true → judged s act b₁ ≡ judged s act b₂
  judged_same s act true true f e = refl
  judged_same s act false true f e = absurd (f tt)
  judged_same s act b₁ false f e = no (cc)

  judged_denied : (s : State) (act : Act) (b₁ b₂ : Bool) → (T b₂ → T b₁) → (done s (judged s act b₁)).answer ≡ Denied → (done s (judged s act b₂)).answer ≡ Denied
  judged_denied s act true b₂ f e = denies_not s act e
  judged_denied s act false true f e = absurd (f tt)
  judged_denied s act false false f e = refl

  module _ (s : State) where
    fewer : (act : Act) → T (grants (judge r₂ s.sites s.rows act)) → T (grants (judge r₁ s.sites s.rows act))
    fewer = judge_fewer r₁ r₂ owned more s.sites s.rows

    planned_same : (x : Start) → is_granted (done s (planned r₂ s x)).answer ≡ true → planned r₁ s x ≡ planned r₂ s x
    planned_same (stop a) e = refl
    planned_same (go act) e = judged_same s act (grants (judge r₁ s.sites s.rows act)) (grants (judge r₂ s.sites s.rows act)) (fewer act) e

    planned_denied : (x : Start) → (done s (planned r₁ s x)).answer ≡ Denied → (done s (planned r₂ s x)).answer ≡ Denied
    planned_denied (stop a) e = e
    planned_denied (go act) e = judged_denied s act (grants (judge r₁ s.sites s.rows act)) (grants (judge r₂ s.sites s.rows act)) (fewer act) e

    -- what the second grants the first grants, and does the same
    same : (i : ℕ) → is_granted (step r₂ s i).answer ≡ true → step r₁ s i ≡ step r₂ s i
    unfolding asking
    same i e = ap (done s) (planned_same (start s i) e)

    denied : (i : ℕ) → (step r₁ s i).answer ≡ Denied → (step r₂ s i).answer ≡ Denied
    unfolding asking
    denied i = planned_denied (start s i)

  one : (s t : State) (i : ℕ) (l : List ℕ) (b : Bool) → is_granted (step r₂ s i).answer ≡ b → Follows r₁ (step r₂ s i).after l t → Follows r₁ s (keep b i l) t
  one s t i l true e h =
      record {
        all-granted = rw (same s i e, granted_is (step r₂ s i).answer e) (ap (λ (k : List Answer). Granted ∷ k) h.all-granted);
        alike = ap (λ (o : Out). final r₁ o.after l) (same s i e) ∙ h.alike;
      }
  one s t i l false e h = rw (← not_granted_leaves r₂ s i e) h

  follow : (s : State) (is : List ℕ) → Follows r₁ s (granted r₂ s is) (final r₂ s is)
  follow s [] = record { all-granted = refl; alike = refl }
  follow s (i ∷ is) =
      one s (final r₂ (step r₂ s i).after is) i (granted r₂ (step r₂ s i).after is) (is_granted (step r₂ s i).answer) refl (follow (step r₂ s i).after is)

-- ---- the promise
module _ (s : State) (r₁ r₂ : Rules) (formed : T (well_formed (record { state = s; rules = r₁ }))) (more : Adds r₁ r₂) where
  -- what the first net denies the second denies
  pub more_deny : (i : ℕ) → (step r₁ s i).answer ≡ Denied → (step r₂ s i).answer ≡ Denied
  more_deny = denied r₁ r₂ (own s r₁ formed) more s

  -- the second is run through any steps, and those that it did not grant are struck out: the first grants all the others, and ends the same
  pub more_follow : (is : List ℕ) → Follows r₁ s (granted r₂ s is) (final r₂ s is)
  more_follow = follow r₁ r₂ (own s r₁ formed) more s

-- ---- one rule more, at any place: it never moves a denied job
-- what stands in a list stands in it still when one more is put in
stands : (x : Aspect) {a : Aspect} (k : ℕ) (l : List Aspect) → Memᴰ a l → Memᴰ a (insert_at k x l)
stands x zero l h = Memᴰ.tail h
stands x (suc k) [] h = elim h [ ]
stands x (suc k) (y ∷ l) (Memᴰ.head e) = Memᴰ.head e
stands x (suc k) (y ∷ l) (Memᴰ.tail h) = Memᴰ.tail (stands x k l h)

-- the rules with one more aspect, which may stand on further nodes
abbrev pub with_rule : Rules → List Node → ℕ → Aspect → Rules
with_rule r extra k a = record { nodes = r.nodes ++ extra; aspects = insert_at k a r.aspects }

pub rule_added : (s : State) (r : Rules) → T (well_formed (record { state = s; rules = r })) → (extra : List Node) (k : ℕ) (a : Aspect) (i : ℕ)
    → (step r s i).answer ≡ Denied → (step (with_rule r extra k a) s i).answer ≡ Denied
rule_added s r formed extra k a =
    more_deny s r (with_rule r extra k a) formed (record { extra = extra; begins = refl; keeps = λ b h. stands a k r.aspects h })
