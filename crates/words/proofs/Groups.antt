-- In a list that is in the order of a key, the elements of one key stand together: those with smaller keys come before them, those with
-- larger keys after. So the elements of a key are a stretch of the list, between two places that a search by halving finds. Assumes nothing.
use mathlib.Core.Path.{◌≡◌, refl, sym, ap, ◌∙◌}
use mathlib.Core.Bool.{Bool, true, false, cond}
use mathlib.Core.List.{List, [], ◌∷◌, ◌++◌, append-nil}
use Prim.Native.Nat.{ℕ, suc, ◌+◌, ◌-◌, ◌*◌, ◌/◌, ◌≤◌, ◌<◌}
use native.Mathlib.Nat.{le_refl}
use native.Mathlib.Decide.{le_ind}
use native.Mathlib.Omega.{arith}
use lib.Dec.{ltb, eqb}
use lib.ListN.{length, get_or, take, drop, length-drop, take-append-drop}
use lib.Seq.{get_or-take, get_or-drop, length-take-le}
use borrow.Author.Tests.{lt-ltb, le-ltb, ltb-true, ltb-false, eq-eqb, ne_eqb}
use Rattle.words.specs.Lists.{first_bad, count, those, insert_at, remove_at}
use Rattle.words.specs.Tables.{table_of, Ordered, count_below}
use Rattle.words.proofs.First.{first_le, first_below, first_at, first_same}
use Rattle.words.proofs.Lists.{count-insert, count_out}
use Rattle.words.proofs.Tables.{table_length, table_at}

module _ {A : Type 0} (p : A → Bool) where
  pub those-append : (a b : List A) → those p (a ++ b) ≡ those p a ++ those p b
  those-append [] b = refl
  those-append (x ∷ a) b = pick (p x) (those-append a b)
    where
      pick : (c : Bool) → those p (a ++ b) ≡ those p a ++ those p b
          → cond c (x ∷ those p (a ++ b)) (those p (a ++ b)) ≡ cond c (x ∷ those p a) (those p a) ++ those p b
      pick true e = ap (λ (l : List A). x ∷ l) e
      pick false e = e

  -- none, and all of them
  pub those_none : (l : List A) (d : A) → ((k : ℕ) → k < length l → p (get_or l k d) ≡ false) → those p l ≡ []
  those_none [] d f = refl
  those_none (x ∷ l) d f = rw (f 0 (omega arith)) (those_none l d (λ k h. f (suc k) (omega arith)))

  pub those-all : (l : List A) (d : A) → ((k : ℕ) → k < length l → p (get_or l k d) ≡ true) → those p l ≡ l
  those-all [] d f = refl
  those-all (x ∷ l) d f = rw (f 0 (omega arith)) (ap (λ (m : List A). x ∷ m) (those-all l d (λ k h. f (suc k) (omega arith))))

  pub count-those : (l : List A) → count p l ≡ length (those p l)
  count-those [] = refl
  count-those (x ∷ l) = pick (p x) (count-those l)
    where
      pick : (c : Bool) → count p l ≡ length (those p l) → cond c 1 0 + count p l ≡ length (cond c (x ∷ those p l) (those p l))
      pick true e = omega (arith, e)
      pick false e = omega (arith, e)

module _ {A : Type 0} (f : A → ℕ) (d : A) where
  -- in the order of the key
  abbrev pub Sorted : List A → Type 0
  Sorted l = (i j : ℕ) → i ≤ j → j < length l → f (get_or l i d) ≤ f (get_or l j d)

  -- from neighbours
  pub sorted_of : (l : List A) → ((k : ℕ) → suc k < length l → f (get_or l k d) ≤ f (get_or l (suc k) d)) → Sorted l
  sorted_of l g i j h b =
      le_ind (λ (m : ℕ). m < length l → f (get_or l i d) ≤ f (get_or l m d)) (λ z. le_refl (f (get_or l i d)))
      (λ m q ih z. let a = ih (omega arith) in let c = g m z in omega arith) j h b

  -- how many have a smaller key
  abbrev pub below : List A → ℕ → ℕ
  below l t = first_bad (λ k. ltb (f (get_or l k d)) t) (length l)

  module _ (l : List A) (order : Sorted l) (t : ℕ) where
    abbrev low : ℕ
    low = below l t

    abbrev high : ℕ
    high = below l (suc t)

    pub smaller : (k : ℕ) → k < low → f (get_or l k d) < t
    smaller k h = ltb-true (f (get_or l k d)) t (first_below (λ j. ltb (f (get_or l j d)) t) (length l) k h)

    -- from `low` on the keys are not smaller; from `high` on they are larger
    pub larger : (u k : ℕ) → below l u ≤ k → k < length l → u ≤ f (get_or l k d)
    larger u k h b =
        let m = below l u in
        let e = ltb-false (f (get_or l m d)) u (first_at (λ j. ltb (f (get_or l j d)) u) (length l) (omega arith)) in
        omega (arith, order m k h b)

    -- between the two places the key is t
    pub between : (k : ℕ) → low ≤ k → k < high → f (get_or l k d) ≡ t
    between k h b =
        let n = first_le (λ j. ltb (f (get_or l j d)) (suc t)) (length l) in
        omega (arith, larger t k h (omega arith), ltb-true (f (get_or l k d)) (suc t) (first_below (λ j. ltb (f (get_or l j d)) (suc t)) (length l) k b))

    pub low-high : low ≤ high
    low-high = pick (ltb high low) refl
      where
        pick : (b : Bool) → ltb high low ≡ b → low ≤ high
        pick true e =
            let h = ltb-true high low e in
            let n = first_le (λ j. ltb (f (get_or l j d)) t) (length l) in
            let z : ⊥ = omega (arith, smaller high h, larger (suc t) high (le_refl high) (omega arith)) in absurd z
        pick false e = ltb-false high low e

    pub high-length : high ≤ length l
    high-length = first_le (λ j. ltb (f (get_or l j d)) (suc t)) (length l)

    -- the elements with the key t stand between the two places
    pub group : those (λ x. eqb (f x) t) l ≡ take (high - low) (drop low l)
    group =
        let q : A → Bool = λ x. eqb (f x) t in
        let n = high - low in
        let m = drop low l in
        let b = high-length in
        let o = low-high in
        let lm : length m ≡ length l - low = length-drop low l in
        let front : those q (take low l) ≡ [] =
        those_none q (take low l) d (λ k h.
        let k₁ : k < low = omega (arith, length-take-le low l (omega arith)) in
        rw (get_or-take low l k d k₁) (ne_eqb (f (get_or l k d)) t (λ e. omega (arith, smaller k k₁)))) in
        let middle : those q (take n m) ≡ take n m =
        those-all q (take n m) d (λ k h.
        let k₁ : k < n = omega (arith, length-take-le n m (omega arith)) in
        rw (get_or-take n m k d k₁, get_or-drop low l k d)
        (eq-eqb (f (get_or l (low + k) d)) t (between (low + k) (omega arith) (omega arith)))) in
        let back : those q (drop n m) ≡ [] =
        those_none q (drop n m) d (λ k h.
        let k₁ : low + (n + k) < length l = omega (arith, length-drop n m) in
        rw (get_or-drop n m k d, get_or-drop low l (n + k) d) (ne_eqb (f (get_or l (low + (n + k)) d)) t (λ e. omega (arith, larger (suc t) (low + (n + k)) (omega arith) k₁)))) in
        ap (those q) (sym (take-append-drop low l) ∙ ap (λ (r : List A). take low l ++ r) (sym (take-append-drop n m)))
        ∙ those-append q (take low l) (take n m ++ drop n m)
        ∙ rw (front, those-append q (take n m) (drop n m), middle, back) (append-nil (take n m))

    -- and so many they are
    pub group_count : count (λ x. eqb (f x) t) l ≡ high - low
    group_count =
        count-those (λ x. eqb (f x) t) l
        ∙ ap length group
        ∙ length-take-le (high - low) (drop low l) (let o = low-high in let b = high-length in omega (arith, length-drop low l))

    -- as many are before as have a smaller key
    pub below-count : below l t ≡ count (λ x. ltb (f x) t) l
    below-count =
        let p : A → Bool = λ x. ltb (f x) t in
        let b : low ≤ length l = first_le (λ k. ltb (f (get_or l k d)) t) (length l) in
        let before : those p (take low l) ≡ take low l =
        those-all p (take low l) d (λ k h.
        let k₁ : k < low = omega (arith, length-take-le low l b) in
        rw (get_or-take low l k d k₁) (lt-ltb (f (get_or l k d)) t (smaller k k₁))) in
        let after : those p (drop low l) ≡ [] =
        those_none p (drop low l) d (λ k h.
        rw (get_or-drop low l k d) (le-ltb (f (get_or l (low + k) d)) t (larger t (low + k) (omega arith) (omega (arith, length-drop low l))))) in
        sym (
        count-those p l
        ∙ ap (λ (m : List A). length (those p m)) (sym (take-append-drop low l))
        ∙ ap length (those-append p (take low l) (drop low l))
        ∙ rw (before, after, append-nil) (length-take-le low l b)
        )

    -- an element with a smaller key is one of them
    pub below-some : (k : ℕ) → k < length l → f (get_or l k d) < t → 0 < below l t
    below-some k h b =
        let e = below-count ∙ count_out (λ x. ltb (f x) t) k l d h in
        let e₁ = rw (lt-ltb (f (get_or l k d)) t b) at e in
        omega (arith, e₁)

  -- ---- an element comes, or goes
  one_more : (c : Bool) (n : ℕ) → cond c 1 0 + n ≡ cond c (n + 1) n
  one_more true n = omega arith
  one_more false n = omega arith

  one_less : (c : Bool) (n m : ℕ) → n ≡ cond c 1 0 + m → m ≡ cond c (n - 1) n
  one_less true n m e = omega arith
  one_less false n m e = omega arith

  pub below_more : (l m : List A) (k : ℕ) (x : A) → Sorted l → Sorted m → m ≡ insert_at k x l
      → (t : ℕ) → below m t ≡ cond (ltb (f x) t) (below l t + 1) (below l t)
  below_more l m k x o q e t =
      let p : A → Bool = λ y. ltb (f y) t in
      below-count m q t ∙ ap (count p) e ∙ count-insert p k x l ∙ rw (← below-count l o t) (one_more (ltb (f x) t) (below l t))

  pub below_less : (l m : List A) (k : ℕ) → k < length l → Sorted l → Sorted m → m ≡ remove_at k l
      → (t : ℕ) → below m t ≡ cond (ltb (f (get_or l k d)) t) (below l t - 1) (below l t)
  below_less l m k h o q e t =
      let p : A → Bool = λ y. ltb (f y) t in
      one_less (ltb (f (get_or l k d)) t) (below l t) (below m t)
      (below-count l o t ∙ count_out p k l d h ∙ rw (below-count m q t, e))

-- ---- a table whose records begin with their key: the search by halving is over its bytes
module _ {A : Type 0} (f : A → ℕ) (d : A) (read : List ℕ → ℕ → A) (front : (s : List ℕ) (i : ℕ) → f (read s i) ≡ get_or s i 0) (w : ℕ) (s : List ℕ) where
  key_at : (k : ℕ) → k < length s / w → f (get_or (table_of read w s) k d) ≡ get_or s (w * k) 0
  key_at k h = ap f (table_at read w s k d h) ∙ front s (w * k)

  pub table_below : (t : ℕ) → count_below s w (length s / w) t ≡ below f d (table_of read w s) t
  table_below t =
      first_same (λ k. ltb (get_or s (w * k) 0) t) (λ k. ltb (f (get_or (table_of read w s) k d)) t) (length s / w) (λ k h. ap (λ (v : ℕ). ltb v t) (sym (key_at k h)))
      ∙ ap (first_bad (λ k. ltb (f (get_or (table_of read w s) k d)) t)) (sym (table_length read w s))

  pub table_sorted : Ordered w s → Sorted f d (table_of read w s)
  table_sorted g i j h b =
      let c : j < length s / w = rw (table_length read w s) at b in
      rw (key_at i (omega arith), key_at j c) (g i j h c)

  pub bytes_sorted : Sorted f d (table_of read w s) → Ordered w s
  bytes_sorted g i j h c = rw (← key_at i (omega arith), ← key_at j c) (g i j h (rw (table_length read w s) c))
