-- What is gathered, and what the mandatory rules come to for each capability. Assumes nothing.
use mathlib.Core.Path.{◌≡◌, refl, sym, ap, ◌∙◌}
use mathlib.Core.Bool.{Bool, true, false, cond, ◌&&◌, and-true}
use mathlib.Core.List.{List, [], ◌∷◌, map}
use mathlib.Core.Logic.{◌⊎◌, inl, inr}
use Prim.Native.Nat.{ℕ, ◌<◌}
use native.Mathlib.Omega.{arith}
use lib.Dec.{eqb}
use lib.ListN.{get_or}
use Rattle.std.specs.List.{list_all}
use Rattle.level.specs.Level.{dominates}
use Rattle.belnap.specs.Belnap.{grants, gather_of}
use Rattle.belnap.proofs.Laws.{gather_lt, grants_gather}
use Rattle.words.specs.Lists.{all}
use Rattle.words.proofs.Lists.{all_map}
use Rattle.net.specs.Codes.{capability_code}
use Rattle.net.specs.declared.Site.{Site}
use Rattle.policy.specs.House.{terms_of, term_number, rule_gives, mandatory_rules, gather_all, mandatory}
use Rattle.policy.specs.declared.rules.Rule.{Rule}

-- ---- values gathered
-- what is gathered grants exactly if each value does
pub grants-all : (l : List ℕ) → grants (gather_all l) ≡ all grants l
grants-all [] = refl
grants-all (v ∷ l) = grants_gather v (gather_all l) ∙ ap (λ (b : Bool). grants v && b) (grants-all l)

module _ {A : Type 0} (g : A → ℕ) where
  -- what some things give, gathered, grants exactly if each of them gives what does
  pub each_grants : (l : List A) → grants (gather_all (map g l)) ≡ all (λ x. grants (g x)) l
  each_grants l = grants-all (map g l) ∙ all_map g grants l

  -- values gathered are a value
  pub gathered_lt : (l : List A) → ((x : A) → g x < 4) → gather_all (map g l) < 4
  gathered_lt [] f = omega arith
  gathered_lt (x ∷ l) f = gather_lt (g x) (gather_all (map g l)) (f x) (gathered_lt l f)

-- ---- what it comes to
grants-rule : (b : Bool) → grants (cond b 0 2) ≡ b
grants-rule true = refl
grants-rule false = refl

-- from x to y
module _ (x y : Site) where
  pub mandatory_put : grants (mandatory 1 (terms_of x y)) ≡ (dominates y.o x.c && dominates y.o x.hs)
  unfolding mandatory
  mandatory_put = grants-all (map (rule_gives 1 (terms_of x y)) mandatory_rules) ∙ simp (grants-rule, and-true)

  pub mandatory-take : grants (mandatory 2 (terms_of x y))
      ≡ (dominates y.o x.c && (dominates y.o x.hs && (dominates x.s y.o && dominates x.s y.ho)))
  unfolding mandatory
  mandatory-take = grants-all (map (rule_gives 2 (terms_of x y)) mandatory_rules) ∙ simp (grants-rule, and-true)

  pub mandatory_read : grants (mandatory 3 (terms_of x y)) ≡ (dominates x.s y.o && dominates x.s y.ho)
  unfolding mandatory
  mandatory_read = grants-all (map (rule_gives 3 (terms_of x y)) mandatory_rules) ∙ simp (grants-rule, and-true)

-- the mandatory rules say nothing or no: 0 or 2
abbrev pub NeverYes : ℕ → Type 0
NeverYes v = (v ≡ 0) ⊎ (v ≡ 2)

rule_never_yes : (a b : Bool) → NeverYes (cond a (cond b 0 2) 0)
rule_never_yes true true = inl refl
rule_never_yes true false = inr refl
rule_never_yes false b = inl refl

-- so they are no as soon as one of them is, and else nothing
pub mandatory_is : (capability : ℕ) (terms : List ℕ) → cond (list_all (λ x. eqb (rule_gives capability terms x) 0) mandatory_rules) 0 2 ≡ mandatory capability terms
unfolding mandatory
mandatory_is capability terms = sym (gathered mandatory_rules)
  where
    one : (v : ℕ) (b : Bool) → NeverYes v → gather_of v (cond b 0 2) ≡ cond (eqb v 0 && b) 0 2
    one v true (inl e) = rw e
    one v false (inl e) = rw e
    one v true (inr e) = rw e
    one v false (inr e) = rw e

    gathered : (l : List Rule) → gather_all (map (rule_gives capability terms) l) ≡ cond (list_all (λ x. eqb (rule_gives capability terms x) 0) l) 0 2
    gathered [] = refl
    gathered (x ∷ l) =
        rw (gathered l)
        (one (rule_gives capability terms x) (list_all (λ y. eqb (rule_gives capability terms y) 0) l)
        (rule_never_yes (eqb (capability_code x.capability) capability) (dominates (get_or terms (term_number x.left) 0) (get_or terms (term_number x.right) 0))))

pub mandatory-value : (capability : ℕ) (terms : List ℕ) → NeverYes (mandatory capability terms)
mandatory-value capability terms = rw (← mandatory_is capability terms) (pick (list_all (λ x. eqb (rule_gives capability terms x) 0) mandatory_rules))
  where
    pick : (b : Bool) → NeverYes (cond b 0 2)
    pick true = inl refl
    pick false = inr refl
