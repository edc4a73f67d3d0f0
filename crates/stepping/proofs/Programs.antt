-- The laws of programs, of used variables and of binding. Assumes nothing.
use mathlib.Core.Path.{◌≡◌, refl, sym, ap, ◌∙◌}
use mathlib.Core.Bool.{Bool, true, false, cond, not, ◌&&◌, ◌||◌, or-false}
use mathlib.Core.List.{List, [], ◌∷◌, map}
use Prim.Native.Nat.{ℕ, zero, suc, ◌≤◌, ◌<◌}
use native.Mathlib.Omega.{arith}
use native.Mathlib.Nat.{le_of_suc-le-suc, not-suc-le-zero}
use lib.Dec.{T, ltb, leb, eqb, ltb→lt, eqb→eq, eqb_refl}
use lib.ListN.{length, get_or, take, drop, set, length-set, length-map}
use lib.Seq.{get_or-set_same, get_or-set_other, take-suc}
use borrow.Author.Tests.{eqb-true, eqb-false, ne_eqb}
use Rattle.words.specs.Lists.{all, some, those}
use Rattle.words.proofs.Truth.{no, both_T, T_both, is_T, T_is}
use Rattle.words.proofs.Lists.{all_get_d, all_weaken, all_set, all_map, map-take, map-drop, some-append}
use Rattle.net.specs.Net.{is_variable, is_binding, fields_of}
use Rattle.rulebook.specs.Parts.{operand_ok, operands_ok, unused, speaks}
use Rattle.format.specs.Format.{binds, fields_ok}
use Rattle.net.specs.Records.{operands_fit, words_fit}
use Rattle.policy.specs.House.{name}
use Rattle.stepping.specs.Step.{resolved}
use Rattle.policy.specs.Match.{binds as bindsOne, bound, fits}
use Rattle.net.specs.declared.Operand.{Operand}
use Rattle.net.specs.declared.Action.{Action}

-- ---- the place in the whole list of an element of a part of it, and what of the part stands before it
module _ {A : Type 0} (q : A → Bool) (d : A) where
  pub record Standing (l : List A) (p : ℕ) : Type 0 where
    pub number : ℕ
    pub inside : number < length l
    pub is : get_or l number d ≡ get_or (those q l) p d
    pub earlier : those q (take number l) ≡ take p (those q l)
    pub passes : q (get_or l number d) ≡ true

  those_in : (x : A) (l : List A) → q x ≡ true → those q (x ∷ l) ≡ x ∷ those q l
  those_in x l e = rw e

  those_out : (x : A) (l : List A) → q x ≡ false → those q (x ∷ l) ≡ those q l
  those_out x l e = rw e

  at_in : (x : A) (l : List A) → q x ≡ true → ((p : ℕ) → p < length (those q l) → Standing l p) → (p : ℕ) → p < length (those q (x ∷ l)) → Standing (x ∷ l) p
  at_in x l e ih zero h = record { number = 0; inside = omega arith; is = rw (those_in x l e); earlier = refl; passes = e }
  at_in x l e ih (suc p) h =
      let a = ih p (le_of_suc-le-suc (rw (those_in x l e) at h)) in
      record {
        number = suc a.number;
        inside = omega arith;
        is = a.is ∙ rw (those_in x l e);
        earlier = those_in x (take a.number l) e ∙ ap (λ (m : List A). x ∷ m) a.earlier ∙ rw (those_in x l e);
        passes = a.passes;
      }

  at_out : (x : A) (l : List A) → q x ≡ false → ((p : ℕ) → p < length (those q l) → Standing l p) → (p : ℕ) → p < length (those q (x ∷ l)) → Standing (x ∷ l) p
  at_out x l e ih p h =
      let a = ih p (rw (those_out x l e) at h) in
      record {
        number = suc a.number;
        inside = omega arith;
        is = a.is ∙ rw (those_out x l e);
        earlier = those_out x (take a.number l) e ∙ a.earlier ∙ rw (those_out x l e);
        passes = a.passes;
      }

  pub those_at : (l : List A) (p : ℕ) → p < length (those q l) → Standing l p
  those_at [] p h = absurd (not-suc-le-zero h)
  those_at (x ∷ l) p h = pick (q x) refl (those_at l) p h
    where
      pick : (b : Bool) → q x ≡ b → ((p : ℕ) → p < length (those q l) → Standing l p) → (p : ℕ) → p < length (those q (x ∷ l)) → Standing (x ∷ l) p
      pick true e ih p h = at_in x l e ih p h
      pick false e ih p h = at_out x l e ih p h

  pub length-those : (l : List A) → length (those q l) ≤ length l
  length-those [] = omega arith
  length-those (x ∷ l) = pick (q x) (length-those l)
    where
      pick : (b : Bool) → length (those q l) ≤ length l → length (cond b (x ∷ those q l) (those q l)) ≤ suc (length l)
      pick true h = omega arith
      pick false h = omega arith

-- ---- what the actions before the next position bind
pub binds_next : (l : List Action) (p : ℕ) (d : Action) → p < length l → (v : ℕ) → binds (take (suc p) l) v ≡ (binds (take p l) v || some (speaks 2 v) (fields_of (get_or l p d)))
binds_next l p d h v =
    rw (take-suc l p d h) (some-append (λ x. some (speaks 2 v) (fields_of x)) (take p l) (get_or l p d ∷ [])
    ∙ ap (λ (b : Bool). binds (take p l) v || b) (or-false (some (speaks 2 v) (fields_of (get_or l p d)))))

pub or_left : (a b : Bool) → T a → T (a || b)
or_left true b t = tt
or_left false b t = absurd t

pub or_right : (a b : Bool) → T b → T (a || b)
or_right true b t = tt
or_right false b t = t

-- ---- tags 0 and 1
tags : (t : ℕ) → T (eqb t 0 || (eqb t 1 || false)) → (eqb t 1 ≡ false → t ≡ 0) × (t < 2)
tags t h = pick (eqb t 0) (eqb t 1) refl refl h
  where
    pick : (a b : Bool) → eqb t 0 ≡ a → eqb t 1 ≡ b → T (a || (b || false)) → (b ≡ false → t ≡ 0) × (t < 2)
    pick true b e f u = let z = eqb-true t 0 e in ((λ n. z), omega arith)
    pick false true e f u = let z = eqb-true t 1 f in ((λ n. no (cc)), omega arith)
    pick false false e f u = elim u [ ]

-- such operands bind nothing
pub bind_nothing : (v : ℕ) (l : List Operand) → T (all (operand_ok (0 ∷ 1 ∷ [])) l) → some (speaks 2 v) l ≡ false
bind_nothing v [] t = refl
bind_nothing v (x ∷ l) t =
    let h = both_T (operand_ok (0 ∷ 1 ∷ []) x) _ t in
    let g = tags x.tag (both_T (some (eqb x.tag) (0 ∷ 1 ∷ [])) _ h.0).0 in
    rw (ne_eqb x.tag 2 (λ e. omega arith)) (bind_nothing v l h.1)

module _ (vars : List ℕ) where
  -- to put values for variables changes no binding field
  resolved-binds : (v : ℕ) (x : Operand) → speaks 2 v (resolved vars x) ≡ speaks 2 v x
  resolved-binds v x = pick (is_variable x) refl
    where
      pick : (b : Bool) → is_variable x ≡ b → speaks 2 v (cond b (name (get_or vars x.value 0)) x) ≡ speaks 2 v x
      pick true e = rw (eqb-true x.tag 1 e)
      pick false e = refl

  pub all-resolved-binds : (v : ℕ) (l : List Operand) → some (speaks 2 v) (map (resolved vars) l) ≡ some (speaks 2 v) l
  all-resolved-binds v [] = refl
  all-resolved-binds v (x ∷ l) = rw (resolved-binds v x, all-resolved-binds v l)

  -- an operand in use has a value, where each variable that is used is set
  all-set-values : (l : List Operand) → T (all (operand_ok (0 ∷ 1 ∷ [])) l)
      → ((v : ℕ) → v < 8 → T (some (speaks 1 v) l) → T (not (eqb (get_or vars v 0) 0)))
      → T (all (λ x. not (eqb (resolved vars x).value 0)) l)
  all-set-values [] t f = tt
  all-set-values (x ∷ l) t f =
      let h = both_T (operand_ok (0 ∷ 1 ∷ []) x) _ t in
      let g = both_T (some (eqb x.tag) (0 ∷ 1 ∷ [])) _ h.0 in
      T_both (not (eqb (resolved vars x).value 0)) _ (pick (is_variable x) refl (tags x.tag g.0).0 g.1)
      (all-set-values l h.1 (λ v b u. f v b (or_right (speaks 1 v x) (some (speaks 1 v) l) u)))
    where
      pick : (b : Bool) → is_variable x ≡ b → (b ≡ false → x.tag ≡ 0)
          → T (cond (eqb x.tag 0) (not (eqb x.value 0)) (cond (leb x.tag 2) (ltb x.value 8) (eqb x.value 0)))
          → T (not (eqb (cond b (name (get_or vars x.value 0)) x).value 0))
      pick true e g u =
          f x.value (ltb→lt x.value 8 (rw (eqb-true x.tag 1 e) at u))
          (or_left (speaks 1 x.value x) _ (T_both (eqb x.tag 1) (eqb x.value x.value) (is_T _ e) (eqb_refl x.value)))
      pick false e g u = rw (g refl) at u

  -- an operand not in use has none
  all_no_values : (l : List Operand) → T (all unused l) → T (all (λ x. eqb 0 (resolved vars x).value) l)
  all_no_values [] t = tt
  all_no_values (x ∷ l) t =
      let h = both_T (unused x) _ t in
      let g = both_T (eqb x.tag 0) (eqb x.value 0) h.0 in
      T_both (eqb 0 (resolved vars x).value) _ (rw (eqb→eq x.tag 0 g.0, eqb→eq x.value 0 g.1) tt) (all_no_values l h.1)

  -- and its value fits where all do
  all_small_values : (l : List Operand) → T (all (λ x. ltb x.tag 65536 && ltb x.value 65536) l) → T (all (λ v. ltb v 65536) vars)
      → T (all (λ x. ltb (resolved vars x).value 65536) l)
  all_small_values l t u = all_weaken (λ x. ltb x.tag 65536 && ltb x.value 65536) (λ x. ltb (resolved vars x).value 65536) (λ x h. pick x (is_variable x) h) l t
    where
      pick : (x : Operand) (b : Bool) → T (ltb x.tag 65536 && ltb x.value 65536) → T (ltb (cond b (name (get_or vars x.value 0)) x).value 65536)
      pick x true h = all_get_d (λ v. ltb v 65536) vars x.value 0 u tt
      pick x false h = (both_T (ltb x.tag 65536) (ltb x.value 65536) h).1

  -- the values of an action's fields are a row's
  abbrev pub values : List Operand → List ℕ
  values l = map (λ x. x.value) (map (resolved vars) l)

  values-all : (p : ℕ → Bool) (l : List Operand) → T (all (λ x. p (resolved vars x).value) l) → T (all p (values l))
  values-all p l t = rw (all_map (λ x. x.value) p (map (resolved vars) l), all_map (resolved vars) (λ x. p x.value) l) t

  values-take : (n : ℕ) (l : List Operand) → values (take n l) ≡ take n (values l)
  values-take n l = ap (map (λ x. x.value)) (map-take (resolved vars) n l) ∙ map-take (λ x. x.value) n (map (resolved vars) l)

  values-drop : (n : ℕ) (l : List Operand) → values (drop n l) ≡ drop n (values l)
  values-drop n l = ap (map (λ x. x.value)) (map-drop (resolved vars) n l) ∙ map-drop (λ x. x.value) n (map (resolved vars) l)

  pub values_ok : (n : ℕ) (l : List Operand) → T (operands_ok (0 ∷ 1 ∷ []) n l)
      → ((v : ℕ) → v < 8 → T (some (speaks 1 v) (take n l)) → T (not (eqb (get_or vars v 0) 0))) → T (fields_ok n (values l))
  values_ok n l t f =
      let h = both_T (all (operand_ok (0 ∷ 1 ∷ [])) (take n l)) (all unused (drop n l)) t in
      T_both (all (λ v. not (eqb v 0)) (take n (values l))) (all (eqb 0) (drop n (values l)))
      (rw (← values-take n l) (values-all (λ v. not (eqb v 0)) (take n l) (all-set-values (take n l) h.0 f)))
      (rw (← values-drop n l) (values-all (eqb 0) (drop n l) (all_no_values (drop n l) h.1)))

  pub values_fit : (l : List Operand) → T (operands_fit 4 l) → T (all (λ v. ltb v 65536) vars) → T (words_fit 4 (values l))
  values_fit l t u =
      let h = both_T (eqb (length l) 4) (all (λ x. ltb x.tag 65536 && ltb x.value 65536) l) t in
      let e : length (values l) ≡ length l = length-map (map (resolved vars) l) (λ x. x.value) ∙ length-map l (resolved vars) in
      T_both (eqb (length (values l)) 4) (all (λ v. ltb v 65536) (values l)) (rw e h.0) (values-all (λ v. ltb v 65536) l (all_small_values l h.1 u))

-- ---- binding
set-binds : (b : Bool) (vars : List ℕ) (at w v : ℕ) → T (not (eqb w 0)) → v < length vars
    → not (eqb (get_or (cond b (set vars at w) vars) v 0) 0) ≡ ((b && eqb at v) || not (eqb (get_or vars v 0) 0))
set-binds false vars at w v n h = refl
set-binds true vars at w v n h = pick (eqb at v) refl
  where
    pick : (c : Bool) → eqb at v ≡ c → not (eqb (get_or (set vars at w) v 0) 0) ≡ (c || not (eqb (get_or vars v 0) 0))
    pick true e = rw (eqb-true at v e, get_or-set_same vars v w 0 h) (T_is (not (eqb w 0)) n)
    pick false e = rw (get_or-set_other vars at v w 0 (λ z. eqb-false at v e (sym z)))

-- one field bound, or not
abbrev bind_one : Operand → ℕ → List ℕ → List ℕ
bind_one x w vars = cond (is_binding x) (set vars x.value w) vars

bind_one_length : (x : Operand) (w : ℕ) (vars : List ℕ) → length (bind_one x w vars) ≡ length vars
bind_one_length x w vars = pick (is_binding x)
  where
    pick : (b : Bool) → length (cond b (set vars x.value w) vars) ≡ length vars
    pick true = length-set vars x.value w
    pick false = refl

pub bound-length : (xs : List Operand) (l vars : List ℕ) → length (bound xs l vars) ≡ length vars
unfolding bound bindsOne
bound-length [] l vars = refl
bound-length (x ∷ xs) [] vars = refl
bound-length (x ∷ xs) (w ∷ l) vars = bound-length xs l (bind_one x w vars) ∙ bind_one_length x w vars

pub bound_all : (p : ℕ → Bool) (xs : List Operand) (l vars : List ℕ) → T (all p l) → T (all p vars) → T (all p (bound xs l vars))
unfolding bound bindsOne
bound_all p [] l vars t u = u
bound_all p (x ∷ xs) [] vars t u = u
bound_all p (x ∷ xs) (w ∷ l) vars t u =
    let h = both_T (p w) (all p l) t in
    bound_all p xs l (cond (is_binding x) (set vars x.value w) vars) h.1 (pick (is_binding x) h.0)
  where
    pick : (b : Bool) → T (p w) → T (all p (cond b (set vars x.value w) vars))
    pick true h = all_set p vars x.value w u h
    pick false h = u

swap : (a b c : Bool) → (a || (b || c)) ≡ ((b || a) || c)
swap true true c = refl
swap true false c = refl
swap false true c = refl
swap false false c = refl

-- after binding a variable is set exactly if a field binds it or it was set
pub bound_sets : (xs : List Operand) (l vars : List ℕ) (v : ℕ) → T (fits xs l) → T (all (λ w. not (eqb w 0)) l) → v < length vars
    → not (eqb (get_or (bound xs l vars) v 0) 0) ≡ (some (speaks 2 v) xs || not (eqb (get_or vars v 0) 0))
unfolding fits bound bindsOne
bound_sets [] [] vars v t u h = refl
bound_sets [] (w ∷ l) vars v t u h = absurd t
bound_sets (x ∷ xs) [] vars v t u h = absurd t
bound_sets (x ∷ xs) (w ∷ l) vars v t u h =
    let p = both_T (not (eqb w 0)) _ u in
    let g = both_T (is_binding x || eqb x.value w) (fits xs l) t in
    bound_sets xs l (bind_one x w vars) v g.1 p.1 (rw (bind_one_length x w vars) h)
    ∙ ap (λ (b : Bool). some (speaks 2 v) xs || b) (set-binds (is_binding x) vars x.value w v p.0 h)
    ∙ swap (some (speaks 2 v) xs) (speaks 2 v x) (not (eqb (get_or vars v 0) 0))
