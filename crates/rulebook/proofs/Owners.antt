-- Owners that never fall, are site numbers, and are not too many of one: what each record's test says, as facts of the whole list, which an
-- element put in or taken out keeps. Assumes nothing.
use mathlib.Core.Path.{◌≡◌, refl, sym, ap, ◌∙◌}
use mathlib.Core.Bool.{Bool, true, false, cond}
use mathlib.Core.List.{List, [], ◌∷◌, map}
use mathlib.Core.Logic.{⊎_elim}
use Prim.Native.Nat.{ℕ, zero, suc, ◌+◌, ◌-◌, ◌*◌, ◌/◌, ◌≤◌, ◌<◌}
use native.Mathlib.Omega.{arith}
use native.Mathlib.Nat.{le_of_suc-le-suc, not-suc-le-zero, eq-or-lt_of_le, le-div_iff_mul-le, mul_comm, mul-suc, mul-le-mul_left}
use lib.Dec.{T, ltb, leb, eqb, ltb→lt, lt→ltb, leb→le, le→leb}
use lib.ListN.{length, get_or, take, drop, take-append-drop}
use lib.Seq.{drop-cons, take-suc, take-length}
use borrow.Author.Tests.{eqb-true, eqb-false, eq-eqb, ltb-true, ltb-false, lt-ltb, le-ltb}
use Rattle.words.specs.Lists.{first_bad, before, all, count, insert_at, remove_at}
use Rattle.words.specs.Tables.{build, table_of}
use Rattle.words.proofs.Truth.{both_T, T_both}
use Rattle.words.proofs.First.{first_below}
use Rattle.words.proofs.Lists.{all_at, all_of_lem, all_weaken, all_insert, all_remove, count-append, count-insert, count-remove}
use Rattle.words.proofs.Tables.{build_same, table_length, table_at}
use Rattle.rulebook.specs.Parts.{owners_in, owner_ok, NeverFall, room_ok}

-- each is at most those after it
abbrev pub Rising : List ℕ → Type 0
Rising [] = Unit {0}
Rising (x ∷ l) = T (all (leb x) l) × Rising l

abbrev pub times : ℕ → List ℕ → ℕ
times t = count (λ x. eqb x t)

pub record Orderly (n limit : ℕ) (l : List ℕ) : Type 0 where
  pub below : T (all (λ x. ltb x n) l)
  pub rising : Rising l
  pub few : (t : ℕ) → times t l ≤ limit

-- ---- rising, and neighbours
lower : (x y : ℕ) → x ≤ y → (l : List ℕ) → T (all (leb y) l) → T (all (leb x) l)
lower x y h = all_weaken (leb y) (leb x) (λ z t. le→leb x z (omega (arith, leb→le y z t)))

rising_of : (l : List ℕ) → ((k : ℕ) → suc k < length l → get_or l k 0 ≤ get_or l (suc k) 0) → Rising l
rising_of [] f = tt
rising_of (x ∷ []) f = (tt, tt)
rising_of (x ∷ y ∷ l) f =
    let r = rising_of (y ∷ l) (λ k h. f (suc k) (omega arith)) in
    let h : x ≤ y = f 0 (omega arith) in
    (T_both (leb x y) (all (leb x) l) (le→leb x y h) (lower x y h l r.0), r)

rising_at : (l : List ℕ) → Rising l → (k : ℕ) → suc k < length l → get_or l k 0 ≤ get_or l (suc k) 0
rising_at [] r k h = absurd (not-suc-le-zero h)
rising_at (x ∷ []) r k h = absurd (let z : ⊥ = omega arith in z)
rising_at (x ∷ y ∷ l) r zero h = leb→le x y (both_T (leb x y) (all (leb x) l) r.0).0
rising_at (x ∷ y ∷ l) r (suc k) h = rising_at (y ∷ l) r.1 k (le_of_suc-le-suc h)

rising_insert : (t p : ℕ) (l : List ℕ) → Rising l → ((k : ℕ) → k < p → k < length l → get_or l k 0 ≤ t) → (p < length l → t ≤ get_or l p 0) → Rising (insert_at p t l)
rising_insert t zero [] r f g = (tt, tt)
rising_insert t zero (x ∷ l) r f g =
    let h = g (omega arith) in (T_both (leb t x) (all (leb t) l) (le→leb t x h) (lower t x h l r.0), r)
rising_insert t (suc p) [] r f g = (tt, tt)
rising_insert t (suc p) (x ∷ l) r f g = (
  all_insert (leb x) p t l r.0 (le→leb x t (f 0 (omega arith) (omega arith))),
  rising_insert t p l r.1 (λ k h j. f (suc k) (omega arith) (omega arith)) (λ h. g (omega arith)),
)

rising_remove : (k : ℕ) (l : List ℕ) → Rising l → Rising (remove_at k l)
rising_remove zero [] r = tt
rising_remove zero (x ∷ l) r = r.1
rising_remove (suc k) [] r = tt
rising_remove (suc k) (x ∷ l) r = (all_remove (leb x) k l r.0, rising_remove k l r.1)

-- ---- not too many of one
pub times_next : (t : ℕ) (l : List ℕ) (k : ℕ) → k < length l → times t (take (suc k) l) ≡ times t (take k l) + cond (eqb (get_or l k 0) t) 1 0
times_next t l k h = rw (take-suc l k 0 h, count-append (λ x. eqb x t) (take k l) (get_or l k 0 ∷ [])) (omega arith)

few_of : (limit : ℕ) (l : List ℕ) → ((k : ℕ) → k < length l → times (get_or l k 0) (take k l) < limit) → (t k : ℕ) → k ≤ length l → times t (take k l) ≤ limit
few_of limit l f t zero h = omega arith
few_of limit l f t (suc k) h = rw (times_next t l k h) (pick (eqb (get_or l k 0) t) refl (few_of limit l f t k (omega arith)))
  where
    pick : (b : Bool) → eqb (get_or l k 0) t ≡ b → times t (take k l) ≤ limit → times t (take k l) + cond b 1 0 ≤ limit
    pick true e ih = let g : times t (take k l) < limit = rw (eqb-true (get_or l k 0) t e) at (f k h) in omega arith
    pick false e ih = omega arith

few_at : (limit : ℕ) (l : List ℕ) → ((t : ℕ) → times t l ≤ limit) → (k : ℕ) → k < length l → times (get_or l k 0) (take k l) < limit
few_at limit l f k h =
    let t = get_or l k 0 in
    let e : times t l ≡ times t (take k l) + times t (drop k l) = ap (times t) (sym (take-append-drop k l)) ∙ count-append (λ x. eqb x t) (take k l) (drop k l) in
    let d : times t (drop k l) ≡ cond (eqb t t) 1 0 + times t (drop (suc k) l) = ap (times t) (drop-cons l k 0 h) in
    let o : ◌≡◌ {A = ℕ} (cond (eqb t t) 1 0) 1 = rw (eq-eqb t t refl) in
    omega (arith, f t)

-- ---- all three
module _ (n limit : ℕ) where
  pub orderly_of : (l : List ℕ) → ((k : ℕ) → k < length l → T (owner_ok n l k)) → ((k : ℕ) → k < length l → T (room_ok limit l k)) → Orderly n limit l
  orderly_of l f g = record {
    below = all_of_lem (λ x. ltb x n) l 0 (λ k h. (both_T (ltb (get_or l k 0) n) _ (f k h)).0);
    rising = rising_of l (λ k h. leb→le (get_or l k 0) (get_or l (suc k) 0) (both_T (ltb (get_or l (suc k) 0) n) _ (f (suc k) h)).1);
    few = λ t. rw (take-length l) at (few_of limit l (λ k h. ltb→lt (times (get_or l k 0) (take k l)) limit (g k h)) t (length l) (omega arith));
  }

  pub owner_at : (l : List ℕ) → Orderly n limit l → (k : ℕ) → k < length l → T (owner_ok n l k)
  owner_at l o zero h = T_both (ltb (get_or l 0 0) n) _ (all_at (λ x. ltb x n) l 0 o.below 0 h) (le→leb 0 (get_or l 0 0) (omega arith))
  owner_at l o (suc k) h =
      T_both (ltb (get_or l (suc k) 0) n) _ (all_at (λ x. ltb x n) l 0 o.below (suc k) h)
      (le→leb (get_or l k 0) (get_or l (suc k) 0) (rising_at l o.rising k h))

  pub room_at : (l : List ℕ) → Orderly n limit l → (k : ℕ) → k < length l → T (room_ok limit l k)
  room_at l o k h = lt→ltb (times (get_or l k 0) (take k l)) limit (few_at limit l o.few k h)

  -- one more of an owner that has room, after all owners up to it
  pub orderly_insert : (t p : ℕ) (l : List ℕ) → Orderly n limit l → t < n → times t l < limit
      → ((k : ℕ) → k < p → k < length l → get_or l k 0 ≤ t) → (p < length l → t ≤ get_or l p 0) → Orderly n limit (insert_at p t l)
  orderly_insert t p l o b m f g = record {
    below = all_insert (λ x. ltb x n) p t l o.below (lt→ltb t n b);
    rising = rising_insert t p l o.rising f g;
    few = λ u. rw (count-insert (λ x. eqb x u) p t l) (pick u (eqb t u) refl);
  }
    where
      pick : (u : ℕ) (b : Bool) → eqb t u ≡ b → cond b 1 0 + times u l ≤ limit
      pick u true e = rw (← eqb-true t u e) (omega arith)
      pick u false e = omega (arith, o.few u)

  pub orderly_remove : (k : ℕ) (l : List ℕ) → Orderly n limit l → Orderly n limit (remove_at k l)
  orderly_remove k l o = record {
    below = all_remove (λ x. ltb x n) k l o.below;
    rising = rising_remove k l o.rising;
    few = λ t. omega (arith, count-remove (λ x. eqb x t) k l, o.few t);
  }

-- ---- so many owners, so many of each: so many in all
abbrev total : (ℕ → ℕ) → ℕ → ℕ
total f zero = 0
total f (suc n) = total f n + f n

total_none : (n : ℕ) → total (λ t. 0) n ≡ 0
total_none zero = refl
total_none (suc n) = omega (arith, total_none n)

total_at_most : (f : ℕ → ℕ) (limit : ℕ) → ((t : ℕ) → f t ≤ limit) → (n : ℕ) → total f n ≤ n * limit
total_at_most f limit h zero = omega arith
total_at_most f limit h (suc n) = omega (arith, total_at_most f limit h n, h n)

-- one element more counts once, at its own number
total_one : (x : ℕ) (l : List ℕ) (n : ℕ) → total (λ t. times t (x ∷ l)) n ≡ cond (ltb x n) 1 0 + total (λ t. times t l) n
total_one x l zero = rw (le-ltb x 0 (omega arith))
total_one x l (suc n) = rw (total_one x l n) (pick (ltb x n) (eqb x n) (ltb x (suc n)) refl refl refl)
  where
    pick : (a b c : Bool) → ltb x n ≡ a → eqb x n ≡ b → ltb x (suc n) ≡ c
        → cond a 1 0 + total (λ t. times t l) n + (cond b 1 0 + times n l) ≡ cond c 1 0 + (total (λ t. times t l) n + times n l)
    pick true false true p q r = omega arith
    pick false true true p q r = omega arith
    pick false false false p q r = omega arith
    pick true true c p q r = absurd (let z : ⊥ = omega (arith, ltb-true x n p, eqb-true x n q) in z)
    pick true false false p q r = absurd (let z : ⊥ = omega (arith, ltb-true x n p, ltb-false x (suc n) r) in z)
    pick false true false p q r = absurd (let z : ⊥ = omega (arith, eqb-true x n q, ltb-false x (suc n) r) in z)
    pick false false true p q r = absurd (eqb-false x n q (omega (arith, ltb-false x n p, ltb-true x (suc n) r)))

length-total : (n : ℕ) (l : List ℕ) → T (all (λ x. ltb x n) l) → length l ≡ total (λ t. times t l) n
length-total n [] t = sym (total_none n)
length-total n (x ∷ l) t =
    let h = both_T (ltb x n) (all (λ y. ltb y n) l) t in
    rw (total_one x l n, lt-ltb x n (ltb→lt x n h.0)) (omega (arith, length-total n l h.1))

pub orderly_length : (n limit : ℕ) (l : List ℕ) → Orderly n limit l → length l ≤ n * limit
orderly_length n limit l o = rw (length-total n l o.below) (total_at_most (λ t. times t l) limit o.few n)

-- ---- from a loop that found the records before k good, and the owner of k
pub never_falls : (n : ℕ) (l : List ℕ) (k : ℕ) (ok : ℕ → Bool) → ((j : ℕ) → ok j ≡ true → T (owner_ok n l j))
    → first_bad ok k ≡ k → T (owner_ok n l k) → NeverFall l k
never_falls n l k ok g e t j h =
    leb→le (before l j) (get_or l j 0) (both_T (ltb (get_or l j 0) n) _
    (⊎_elim (λ q. rw q t) (λ b. g j (first_below ok k j (rw e b))) (eq-or-lt_of_le h))).1

-- ---- the owners of the records are the first byte of each
map-build : {A B : Type 0} (g : A → B) (n : ℕ) (f : ℕ → A) → map g (build n f) ≡ build n (λ k. g (f k))
map-build g zero f = refl
map-build g (suc n) f = rw (map-build g n (λ k. f (suc k)))

pub owners_of : {A : Type 0} (owner : A → ℕ) (read : List ℕ → ℕ → A) (w : ℕ) (s : List ℕ) → ((i : ℕ) → owner (read s i) ≡ get_or s i 0)
    → map owner (table_of read w s) ≡ owners_in w s
unfolding table_of
owners_of owner read w s e =
    map-build owner (length s / w) (λ k. read s (w * k)) ∙ build_same (length s / w) _ _ (λ k h. e (w * k))

-- record k lies within: so many records there are, and its owner stands at its front
pub record_there : (w size k : ℕ) → w * k + w ≤ size → 0 < w → k < size / w
record_there w size k h p = (le-div_iff_mul-le {k = w} {x = suc k} {y = size} p).1 (omega (arith, mul_comm (suc k) w, mul-suc w k))

pub owner_there : (w : ℕ) (s : List ℕ) (k : ℕ) → w * k + w ≤ length s → 0 < w → k < length (owners_in w s)
owner_there w s k h p = rw (table_length (λ m i. get_or m i 0) w s) (record_there w (length s) k h p)

pub owner_is : (w : ℕ) (s : List ℕ) (k : ℕ) → w * k + w ≤ length s → 0 < w → get_or (owners_in w s) k 0 ≡ get_or s (w * k) 0
owner_is w s k h p = table_at (λ m i. get_or m i 0) w s k 0 (record_there w (length s) k h p)

-- an earlier record lies within too
pub earlier : (w k j size : ℕ) → j ≤ k → w * k + w ≤ size → w * j + w ≤ size
earlier w k j size h l = omega (arith, mul-le-mul_left w h)

pub before_is : (w : ℕ) (s : List ℕ) (k : ℕ) → w * k + w ≤ length s → 0 < w → 0 < k → before (owners_in w s) k ≡ get_or s (w * (k - 1)) 0
before_is w s zero h p q = absurd (not-suc-le-zero q)
before_is w s (suc j) h p q = let e : suc j - 1 ≡ j = omega arith in rw e (owner_is w s j (earlier w (suc j) j (length s) (omega arith) h) p)
