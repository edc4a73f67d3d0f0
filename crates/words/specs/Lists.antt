-- The few ways of going through lists that the meaning of the monitor needs. Assumes nothing.
use Rattle.std.specs.Prelude.{ℕ, zero, suc, ◌+◌, Bool, true, false, cond, not, ◌&&◌, ◌||◌, List, [], ◌∷◌, ◌++◌, ltb, eqb, get_or, take, drop, None, Option, Some}

-- the first number below n at which a test fails, or n where it holds at each
unfoldable pub first_bad : (ℕ → Bool) → ℕ → ℕ
first_bad ok zero = zero
first_bad ok (suc n) = cond (ltb (first_bad ok n) n) (first_bad ok n) (cond (ok n) (suc n) n)

-- a test holds at every number below n
abbrev pub every : (ℕ → Bool) → ℕ → Bool
every ok n = eqb (first_bad ok n) n

-- the first number below n at which a test holds
unfoldable pub first : (ℕ → Bool) → ℕ → Option ℕ
first ok n =
    let k = first_bad (λ j. not (ok j)) n in
    cond (ltb k n) (Some k) None

-- the first number below n at which a test fails, where there is one
abbrev pub first_failing : (ℕ → Bool) → ℕ → Option ℕ
first_failing ok n = cond (ltb (first_bad ok n) n) (Some (first_bad ok n)) None

-- values worked out one after the other, each from its number and those before it
unfoldable pub fill : (ℕ → List ℕ → ℕ) → ℕ → List ℕ
fill f zero = []
fill f (suc k) = fill f k ++ (f k (fill f k) ∷ [])

-- the number that stands before place k, 0 before the first
abbrev pub before : List ℕ → ℕ → ℕ
before l zero = 0
before l (suc k) = get_or l k 0

-- each of some tests holds: `all_of (a ∷ b ∷ c ∷ [])` is `a && (b && c)`
abbrev pub all_of : List Bool → Bool
all_of [] = true
all_of (a ∷ []) = a
all_of (a ∷ b ∷ l) = a && all_of (b ∷ l)

module _ {A : Type 0} where
  -- every element passes the test; some element does; how many do; those that do, in order
  abbrev pub all : (A → Bool) → List A → Bool
  all p [] = true
  all p (x ∷ l) = p x && all p l

  abbrev pub some : (A → Bool) → List A → Bool
  some p [] = false
  some p (x ∷ l) = p x || some p l

  abbrev pub count : (A → Bool) → List A → ℕ
  count p [] = 0
  count p (x ∷ l) = cond (p x) 1 0 + count p l

  abbrev pub those : (A → Bool) → List A → List A
  those p [] = []
  those p (x ∷ l) = cond (p x) (x ∷ those p l) (those p l)

  -- the list with one more element at place i; without the element at place i
  abbrev pub insert_at : ℕ → A → List A → List A
  insert_at i x l = take i l ++ (x ∷ drop i l)

  abbrev pub remove_at : ℕ → List A → List A
  remove_at i l = take i l ++ drop (suc i) l

-- two lists of one length whose elements fit one another, place by place
abbrev pub fit_all : {A B : Type 0} → (A → B → Bool) → List A → List B → Bool
fit_all fit [] [] = true
fit_all fit [] (y ∷ m) = false
fit_all fit (x ∷ l) [] = false
fit_all fit (x ∷ l) (y ∷ m) = fit x y && fit_all fit l m
