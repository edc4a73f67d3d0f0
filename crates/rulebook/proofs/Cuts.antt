-- Variables in cuts and actions: "no variable twice" counts, for each of the eight variables, the operands that speak of it; the code looks
-- at each operand once, and for its variable among those after it. Assumes nothing.
use mathlib.Core.Path.{◌≡◌, refl, sym, ap, ◌∙◌}
use mathlib.Core.Bool.{Bool, true, false, cond, not, ◌&&◌, ◌||◌, and-true, and_assoc, or-true}
use mathlib.Core.List.{List, [], ◌∷◌, ◌++◌}
use Prim.Native.Nat.{ℕ, zero, suc, ◌+◌, ◌≤◌, ◌<◌}
use native.Mathlib.Omega.{arith}
use lib.Dec.{T, ltb, leb, eqb, ltb→lt, eqb→eq}
use lib.ListN.{length, get_or, take, drop, take-append-drop}
use borrow.Author.Tests.{eqb-true, eq-eqb, ne_eqb, le-leb, leb-true, not-true}
use Rattle.std.specs.Bool.{MatchBool}
use Rattle.std.specs.List.{AllWithin, HoldsAt}
use Rattle.words.specs.Lists.{every, all_of, all, some, count}
use Rattle.words.proofs.Truth.{no, both_T, T_both, is_T, T_is, both_left, both_right, same_truth}
use Rattle.words.proofs.First.{every_at, every_of}
use Rattle.words.proofs.Lists.{count-append, all_append, all_weaken}
use Rattle.words.proofs.Numbers.{written}
use Rattle.net.specs.Records.{no_operand}
use Rattle.net.specs.Net.{cut_of}
use Rattle.net.specs.declared.Operand.{Operand}
use Rattle.net.specs.declared.Aspect.{Aspect}
use Rattle.rulebook.specs.Parts.{operand_ok, unused, operands_ok, speaks}
use Rattle.rulebook.specs.Steps.{alone, once_each}

-- ---- some element passes a test, or none does, as a chain finds it
module _ {A : Type 0} (p : A → Bool) where
  some_found : (l : List A) (k : ℕ) → k < length l → HoldsAt (λ y. p y ≡ true) l k → some p l ≡ true
  some_found [] k h f = no (omega arith)
  some_found (x ∷ l) zero h f = rw (f x)
  some_found (x ∷ l) (suc k) h f = rw (some_found l k (omega arith) f) (or-true (p x))

  none_found : (l : List A) → AllWithin (λ y. p y ≡ false) l 0 (length l) → some p l ≡ false
  none_found [] f = refl
  none_found (x ∷ l) f = rw (f 0 x (omega arith) (omega arith)) (none_found l (λ k d a b. f (suc k) d (omega arith) (omega arith)))

  some_is : (l : List A) (r : Bool)
      → MatchBool r ((k : ℕ) × (k < length l) × HoldsAt (λ y. p y ≡ true) l k) (AllWithin (λ y. p y ≡ false) l 0 (length l)) → r ≡ some p l
  some_is l true (k, h, f) = sym (some_found l k h f)
  some_is l false f = sym (none_found l f)

-- ---- none of them, and how many
module _ {A : Type 0} (p : A → Bool) where
  count_none : (l : List A) → some p l ≡ false → count p l ≡ 0
  count_none [] e = refl
  count_none (x ∷ l) e = pick (p x) (count_none l) e
    where
      pick : (b : Bool) → (some p l ≡ false → count p l ≡ 0) → (b || some p l) ≡ false → cond b 1 0 + count p l ≡ 0
      pick true ih e = no (cc)
      pick false ih e = omega (arith, ih e)

  none_count : (l : List A) → count p l ≡ 0 → some p l ≡ false
  none_count [] e = refl
  none_count (x ∷ l) e = pick (p x) (none_count l) e
    where
      pick : (b : Bool) → (count p l ≡ 0 → some p l ≡ false) → cond b 1 0 + count p l ≡ 0 → (b || some p l) ≡ false
      pick true ih e = no (omega arith)
      pick false ih e = ih (omega arith)

-- an operand with this tag speaks of one of the eight variables
abbrev pub ranged : ℕ → Operand → Bool
ranged tag x = not (eqb x.tag tag) || ltb x.value 8

module _ (tag : ℕ) where
  -- an operand of the tag, alone: none of the others speaks of its variable
  lonely : (x : Operand) (l : List Operand) → eqb x.tag tag ≡ true → T (alone tag x l) → some (speaks tag x.value) l ≡ false
  unfolding alone
  lonely x l e t = not-true _ (T_is (not (some (speaks tag x.value) l)) (rw e at t))

  -- ---- once each: at most one operand speaks of a variable
  pub once-count : (v : ℕ) (l : List Operand) → T (once_each tag l) → count (speaks tag v) l ≤ 1
  unfolding once_each
  once-count v [] t = omega arith
  once-count v (x ∷ l) t = let h = both_T (alone tag x l) (once_each tag l) t in pick (speaks tag v x) refl h.0 (once-count v l h.1)
    where
      pick : (b : Bool) → speaks tag v x ≡ b → T (alone tag x l) → count (speaks tag v) l ≤ 1 → cond b 1 0 + count (speaks tag v) l ≤ 1
      pick false e t h = omega arith
      pick true e t h =
          let v₁ : x.value ≡ v = eqb-true x.value v (both_right (eqb x.tag tag) e) in
          let n = count_none (speaks tag v) l (rw v₁ at (lonely x l (both_left (eqb x.tag tag) (eqb x.value v) e) t)) in
          omega arith

  -- and back, for variables 0 to 7
  pub count-once : (l : List Operand) → T (all (ranged tag) l) → ((v : ℕ) → v < 8 → count (speaks tag v) l ≤ 1) → T (once_each tag l)
  unfolding once_each alone
  count-once [] r f = tt
  count-once (x ∷ l) r f =
      let q = both_T (ranged tag x) (all (ranged tag) l) r in
      T_both (alone tag x l) (once_each tag l) (pick (eqb x.tag tag) refl q.0) (count-once l q.1 (λ v h. omega (arith, f v h)))
    where
      pick : (b : Bool) → eqb x.tag tag ≡ b → T (not b || ltb x.value 8) → T (not b || not (some (speaks tag x.value) l))
      pick false e t = tt
      pick true e t =
          let s : speaks tag x.value x ≡ true = rw (e, eq-eqb x.value x.value refl) in
          let c : 1 + count (speaks tag x.value) l ≤ 1 = rw s at (f x.value (ltb→lt x.value 8 t)) in
          rw (none_count (speaks tag x.value) l (omega arith)) tt

-- ---- of operands that are good or not used
module _ (tag : ℕ) (low : 0 < tag) where
  pub good_ranged : (tags : List ℕ) (x : Operand) → tag ≤ 2 → T (operand_ok tags x) → T (ranged tag x)
  good_ranged tags x h t = pick (eqb x.tag tag) refl
    where
      pick : (b : Bool) → eqb x.tag tag ≡ b → T (not b || ltb x.value 8)
      pick false e = tt
      pick true e =
          let q = eqb-true x.tag tag e in
          simp (ne_eqb x.tag 0 (λ z. omega arith), le-leb x.tag 2 (omega arith)) at (both_T (some (eqb x.tag) tags) _ t).1

  unused_silent : (v : ℕ) (x : Operand) → T (unused x) → speaks tag v x ≡ false
  unused_silent v x t =
      let q = eqb→eq x.tag 0 (both_T (eqb x.tag 0) (eqb x.value 0) t).0 in
      rw (ne_eqb x.tag tag (λ z. omega arith))

  unused-ranged : (x : Operand) → T (unused x) → T (ranged tag x)
  unused-ranged x t =
      let q = eqb→eq x.tag 0 (both_T (eqb x.tag 0) (eqb x.value 0) t).0 in
      rw (ne_eqb x.tag tag (λ z. omega arith)) tt

  unused-count : (v : ℕ) (l : List Operand) → T (all unused l) → count (speaks tag v) l ≡ 0
  unused-count v [] t = refl
  unused-count v (x ∷ l) t =
      let q = both_T (unused x) (all unused l) t in rw (unused_silent v x q.0) (omega (arith, unused-count v l q.1))

T-append : {A : Type 0} (p : A → Bool) (a b : List A) → T (all p a) → T (all p b) → T (all p (a ++ b))
T-append p a b s t = rw (all_append p a b) (T_both (all p a) (all p b) s t)

-- no variable twice: of the first n of some operands, which are used, and of some before them, it is enough to look at them all
module _ (tag : ℕ) (low : 0 < tag) (high : tag ≤ 2) (tags : List ℕ) (front : List Operand) (n : ℕ) (l : List Operand) where
  pub every_field : T (operands_ok tags n l) → T (all (ranged tag) l)
  every_field t =
      let q = both_T (all (operand_ok tags) (take n l)) (all unused (drop n l)) t in
      rw (take-append-drop n l) at
      (T-append (ranged tag) (take n l) (drop n l)
      (all_weaken (operand_ok tags) (ranged tag) (λ x. good_ranged tag low tags x high) (take n l) q.0)
      (all_weaken unused (ranged tag) (unused-ranged tag low) (drop n l) q.1))

  same_count : (v : ℕ) → T (operands_ok tags n l) → count (speaks tag v) (front ++ l) ≡ count (speaks tag v) (front ++ take n l)
  same_count v t =
      let p = speaks tag v in
      let z = unused-count tag low v (drop n l) (both_T (all (operand_ok tags) (take n l)) (all unused (drop n l)) t).1 in
      let e = ap (count p) (take-append-drop n l) in
      omega (arith, count-append p front l, count-append p front (take n l), count-append p (take n l) (drop n l))

  pub no_variable_twice : T (all (ranged tag) front) → T (operands_ok tags n l)
      → once_each tag (front ++ l) ≡ every (λ v. leb (count (speaks tag v) (front ++ take n l)) 1) 8
  no_variable_twice f t =
      same_truth (once_each tag (front ++ l)) _
      (λ o. every_of (λ v. leb (count (speaks tag v) (front ++ take n l)) 1) 8 (λ v h. le-leb (count (speaks tag v) (front ++ take n l)) 1 (omega (arith, once-count tag v (front ++ l) o, same_count v t))))
      (λ o. count-once tag (front ++ l) (T-append (ranged tag) front l f (every_field t))
      (λ v h. omega (arith, same_count v t, leb-true (count (speaks tag v) (front ++ take n l)) 1 (every_at (λ v. leb (count (speaks tag v) (front ++ take n l)) 1) 8 o v h))))

-- the cut of an aspect whose operands are good
pub cut_once : (x : Aspect) (tags more : List ℕ) → operand_ok tags x.source ≡ true → operand_ok tags x.target ≡ true → operands_ok more x.count x.fields ≡ true
    → once_each 1 (x.source ∷ x.target ∷ x.fields) ≡ every (λ v. leb (count (speaks 1 v) (cut_of x)) 1) 8
cut_once x tags more p q r =
    let at : (y : Operand) → operand_ok tags y ≡ true → T (ranged 1 y) = λ y e. good_ranged 1 (omega arith) tags y (omega arith) (is_T (operand_ok tags y) e) in
    no_variable_twice 1 (omega arith) (omega arith) more (x.source ∷ x.target ∷ []) x.count x.fields
    (T_both (ranged 1 x.source) _ (at x.source p) (T_both (ranged 1 x.target) _ (at x.target q) tt)) (is_T (operands_ok more x.count x.fields) r)

-- ---- as the code goes through them
pub alone_is : (tag : ℕ) (x : Operand) (l : List Operand) (r : Bool) → x.tag ≡ tag
    → MatchBool r ((k : ℕ) × (k < length l) × HoldsAt (λ y. speaks tag x.value y ≡ true) l k) (AllWithin (λ y. speaks tag x.value y ≡ false) l 0 (length l))
    → not r ≡ alone tag x l
unfolding alone
alone_is tag x l r e h = rw (eq-eqb x.tag tag e, some_is (speaks tag x.value) l r h)

alone_last : (tag : ℕ) (x : Operand) → alone tag x [] ≡ true
unfolding alone
alone_last tag x = or-true (not (eqb x.tag tag))

each_four : (tag : ℕ) (a b c d : Operand) → (alone tag a (b ∷ c ∷ d ∷ []) && (alone tag b (c ∷ d ∷ []) && alone tag c (d ∷ []))) ≡ once_each tag (a ∷ b ∷ c ∷ d ∷ [])
unfolding once_each
each_four tag a b c d = simp (alone_last, and-true)

abbrev pub four_rules : ℕ → List Operand → List Bool
four_rules tag l = alone tag (get_or l 0 no_operand) (drop 1 l) ∷ alone tag (get_or l 1 no_operand) (drop 2 l) ∷ alone tag (get_or l 2 no_operand) (drop 3 l) ∷ []

pub once_four : (tag : ℕ) (l : List Operand) → length l ≡ 4 → all_of (four_rules tag l) ≡ once_each tag l
once_four tag l e =
    ap (λ (m : List Operand). all_of (four_rules tag m)) (sym (written no_operand 4 l e))
    ∙ each_four tag (get_or l 0 no_operand) (get_or l 1 no_operand) (get_or l 2 no_operand) (get_or l 3 no_operand)
    ∙ ap (once_each tag) (written no_operand 4 l e)

-- one operand more
pub alone_more : (tag : ℕ) (x y : Operand) (l : List Operand) → (alone tag x (y ∷ []) && alone tag x l) ≡ alone tag x (y ∷ l)
unfolding alone
alone_more tag x y l = pick (eqb x.tag tag) (speaks tag x.value y) (some (speaks tag x.value) l)
  where
    pick : (a b c : Bool) → ((not a || not (b || false)) && (not a || not c)) ≡ (not a || not (b || c))
    pick true true c = refl
    pick true false c = refl
    pick false b c = refl

abbrev pub six_rules : ℕ → Operand → Operand → List Operand → List Bool
six_rules tag x y l = alone tag x (y ∷ []) ∷ alone tag x l ∷ alone tag y l ∷ once_each tag l ∷ []

pub once_six : (tag : ℕ) (x y : Operand) (l : List Operand) → all_of (six_rules tag x y l) ≡ once_each tag (x ∷ y ∷ l)
unfolding once_each
once_six tag x y l = sym (and_assoc (alone tag x (y ∷ [])) (alone tag x l) (alone tag y l && once_each tag l)) ∙ rw (alone_more tag x y l)
