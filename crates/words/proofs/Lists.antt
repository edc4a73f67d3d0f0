-- The laws of the ways of going through lists: by induction on the list, or on the place in it. Assumes nothing.
use mathlib.Core.Path.{◌≡◌, refl, sym, ap, ◌∙◌, subst}
use mathlib.Core.Bool.{Bool, true, cond, ◌&&◌, ◌||◌, and_assoc, or_assoc}
use mathlib.Core.List.{List, [], ◌∷◌, ◌++◌, map}
use mathlib.Core.Logic.{⊎_elim}
use Prim.Native.Nat.{ℕ, zero, suc, ◌+◌, ◌≤◌, ◌<◌}
use native.Mathlib.Omega.{arith}
use native.Mathlib.Nat.{eq-or-lt_of_le, le_of_suc-le-suc, not-suc-le-zero, zero-add}
use native.Mathlib.Numerals.{add-one}
use lib.Dec.{T}
use lib.ListN.{length, get_or, take, drop, set, length-append, get_or-append}
use lib.Seq.{get_or_at}
use Rattle.words.specs.Lists.{fill, all, some, count, insert_at, remove_at}
use Rattle.words.proofs.Truth.{both_T, T_both}

-- ---- rows of values, lowest first
module _ (f : ℕ → List ℕ → ℕ) where
  pub length-fill : (k : ℕ) → length (fill f k) ≡ k
  unfolding fill
  length-fill zero = refl
  length-fill (suc k) = length-append (fill f k) (f k (fill f k) ∷ []) ∙ ap (λ (m : ℕ). m + 1) (length-fill k) ∙ add-one k

  pub fill_at : (k n : ℕ) → n < k → get_or (fill f k) n 0 ≡ f n (fill f n)
  unfolding fill
  fill_at zero n h = absurd (not-suc-le-zero h)
  fill_at (suc k) n h =
      ⊎_elim (λ e. subst (λ (m : ℕ). get_or (fill f (suc k)) m 0 ≡ f m (fill f m)) (sym e) (get_or_at (fill f k) (f k (fill f k)) [] 0 k (length-fill k)))
      (λ l. get_or-append (fill f k) (f k (fill f k) ∷ []) 0 n (rw (length-fill k) l) ∙ fill_at k n l)
      (eq-or-lt_of_le (le_of_suc-le-suc h))

  pub fill_same : (g : ℕ → List ℕ → ℕ) (k : ℕ) → ((j : ℕ) → j < k → (row : List ℕ) → f j row ≡ g j row) → fill f k ≡ fill g k
  unfolding fill
  fill_same g zero e = refl
  fill_same g (suc k) e = rw (fill_same g k (λ j h. e j (omega arith)), e k (omega arith) (fill g k))

-- ---- tests over lists
module _ {A : Type 0} (p : A → Bool) where
  pub all_at : (l : List A) (d : A) → T (all p l) → (k : ℕ) → k < length l → T (p (get_or l k d))
  all_at [] d t k h = absurd (not-suc-le-zero h)
  all_at (x ∷ l) d t zero h = (both_T (p x) (all p l) t).0
  all_at (x ∷ l) d t (suc k) h = all_at l d (both_T (p x) (all p l) t).1 k (le_of_suc-le-suc h)

  pub all_get_d : (l : List A) (k : ℕ) (d : A) → T (all p l) → T (p d) → T (p (get_or l k d))
  all_get_d [] k d t u = u
  all_get_d (x ∷ l) zero d t u = (both_T (p x) (all p l) t).0
  all_get_d (x ∷ l) (suc k) d t u = all_get_d l k d (both_T (p x) (all p l) t).1 u

  pub all_of_lem : (l : List A) (d : A) → ((k : ℕ) → k < length l → T (p (get_or l k d))) → T (all p l)
  all_of_lem [] d f = tt
  all_of_lem (x ∷ l) d f = T_both (p x) (all p l) (f 0 (omega arith)) (all_of_lem l d (λ k h. f (suc k) (omega arith)))

  pub all_take : (k : ℕ) (l : List A) → T (all p l) → T (all p (take k l))
  all_take zero l t = tt
  all_take (suc k) [] t = tt
  all_take (suc k) (x ∷ l) t = let q = both_T (p x) (all p l) t in T_both (p x) (all p (take k l)) q.0 (all_take k l q.1)

  pub all_weaken : (q : A → Bool) → ((x : A) → T (p x) → T (q x)) → (l : List A) → T (all p l) → T (all q l)
  all_weaken q f [] t = tt
  all_weaken q f (x ∷ l) t = let h = both_T (p x) (all p l) t in T_both (q x) (all q l) (f x h.0) (all_weaken q f l h.1)

  pub all_set : (l : List A) (i : ℕ) (x : A) → T (all p l) → T (p x) → T (all p (set l i x))
  all_set [] i x t h = tt
  all_set (y ∷ l) zero x t h = T_both (p x) (all p l) h (both_T (p y) (all p l) t).1
  all_set (y ∷ l) (suc i) x t h =
      let q = both_T (p y) (all p l) t in T_both (p y) (all p (set l i x)) q.0 (all_set l i x q.1 h)

  pub all_insert : (i : ℕ) (x : A) (l : List A) → T (all p l) → T (p x) → T (all p (insert_at i x l))
  all_insert zero x l t h = T_both (p x) (all p l) h t
  all_insert (suc i) x [] t h = T_both (p x) true h tt
  all_insert (suc i) x (y ∷ l) t h =
      let q = both_T (p y) (all p l) t in T_both (p y) (all p (insert_at i x l)) q.0 (all_insert i x l q.1 h)

  pub all_remove : (i : ℕ) (l : List A) → T (all p l) → T (all p (remove_at i l))
  all_remove zero [] t = tt
  all_remove zero (y ∷ l) t = (both_T (p y) (all p l) t).1
  all_remove (suc i) [] t = tt
  all_remove (suc i) (y ∷ l) t =
      let q = both_T (p y) (all p l) t in T_both (p y) (all p (remove_at i l)) q.0 (all_remove i l q.1)

  pub all_append : (a b : List A) → all p (a ++ b) ≡ (all p a && all p b)
  all_append [] b = refl
  all_append (x ∷ a) b = rw (all_append a b) (sym (and_assoc (p x) (all p a) (all p b)))

  pub count-append : (a b : List A) → count p (a ++ b) ≡ count p a + count p b
  count-append [] b = sym (zero-add (count p b))
  count-append (x ∷ a) b = rw (count-append a b) (omega arith)

  pub count-insert : (i : ℕ) (x : A) (l : List A) → count p (insert_at i x l) ≡ cond (p x) 1 0 + count p l
  count-insert zero x l = refl
  count-insert (suc i) x [] = refl
  count-insert (suc i) x (y ∷ l) = rw (count-insert i x l) (omega arith)

  pub count-remove : (i : ℕ) (l : List A) → count p (remove_at i l) ≤ count p l
  count-remove zero [] = omega arith
  count-remove zero (y ∷ l) = omega arith
  count-remove (suc i) [] = omega arith
  count-remove (suc i) (y ∷ l) = omega (arith, count-remove i l)

  pub count_out : (i : ℕ) (l : List A) (d : A) → i < length l → count p l ≡ cond (p (get_or l i d)) 1 0 + count p (remove_at i l)
  count_out i [] d h = absurd (not-suc-le-zero h)
  count_out zero (y ∷ l) d h = refl
  count_out (suc i) (y ∷ l) d h = rw (count_out i l d (le_of_suc-le-suc h)) (omega arith)

  pub some-append : (a b : List A) → some p (a ++ b) ≡ (some p a || some p b)
  some-append [] b = refl
  some-append (x ∷ a) b = rw (some-append a b) (sym (or_assoc (p x) (some p a) (some p b)))

module _ {A : Type 0} where
  pub length-insert : (i : ℕ) (x : A) (l : List A) → length (insert_at i x l) ≡ suc (length l)
  length-insert zero x l = refl
  length-insert (suc i) x [] = refl
  length-insert (suc i) x (y ∷ l) = ap suc (length-insert i x l)

  pub length-remove : (i : ℕ) (l : List A) → i < length l → suc (length (remove_at i l)) ≡ length l
  length-remove i [] h = absurd (not-suc-le-zero h)
  length-remove zero (y ∷ l) h = refl
  length-remove (suc i) (y ∷ l) h = ap suc (length-remove i l (le_of_suc-le-suc h))

  -- what a changed element keeps, every element keeps
  pub keeps_at : {B : Type 0} (g : A → B) (l : List A) (i : ℕ) (d y : A) → g y ≡ g (get_or l i d) → (k : ℕ) → g (get_or (set l i y) k d) ≡ g (get_or l k d)
  keeps_at g [] i d y e k = refl
  keeps_at g (x ∷ l) zero d y e zero = e
  keeps_at g (x ∷ l) zero d y e (suc k) = refl
  keeps_at g (x ∷ l) (suc i) d y e zero = refl
  keeps_at g (x ∷ l) (suc i) d y e (suc k) = keeps_at g l i d y e k

module _ {A B : Type 0} (f : A → B) where
  pub map-insert : (i : ℕ) (x : A) (l : List A) → map f (insert_at i x l) ≡ insert_at i (f x) (map f l)
  map-insert zero x l = refl
  map-insert (suc i) x [] = refl
  map-insert (suc i) x (y ∷ l) = ap (λ (m : List B). f y ∷ m) (map-insert i x l)

  pub map-remove : (i : ℕ) (l : List A) → map f (remove_at i l) ≡ remove_at i (map f l)
  map-remove zero [] = refl
  map-remove zero (y ∷ l) = refl
  map-remove (suc i) [] = refl
  map-remove (suc i) (y ∷ l) = ap (λ (m : List B). f y ∷ m) (map-remove i l)

  pub count_map : (p : B → Bool) (l : List A) → count p (map f l) ≡ count (λ x. p (f x)) l
  count_map p [] = refl
  count_map p (y ∷ l) = rw (count_map p l)

  pub map-take : (i : ℕ) (l : List A) → map f (take i l) ≡ take i (map f l)
  map-take zero l = refl
  map-take (suc i) [] = refl
  map-take (suc i) (y ∷ l) = ap (λ (m : List B). f y ∷ m) (map-take i l)

  pub map-drop : (i : ℕ) (l : List A) → map f (drop i l) ≡ drop i (map f l)
  map-drop zero l = refl
  map-drop (suc i) [] = refl
  map-drop (suc i) (y ∷ l) = map-drop i l

  pub all_map : (p : B → Bool) (l : List A) → all p (map f l) ≡ all (λ x. p (f x)) l
  all_map p [] = refl
  all_map p (y ∷ l) = rw (all_map p l)

  pub some-map : (p : B → Bool) (l : List A) → some p (map f l) ≡ some (λ x. p (f x)) l
  some-map p [] = refl
  some-map p (y ∷ l) = rw (some-map p l)
