-- Tables of records of one width: a record is read at its place in the bytes, and written as bytes. Assumes nothing.
use Rattle.std.specs.Prelude.{ℕ, zero, suc, ◌+◌, ◌-◌, ◌*◌, ◌/◌, ◌≤◌, ◌<◌, Bool, true, false, cond, List, [], ◌∷◌, ◌++◌, ltb, length, get_or}
use Rattle.words.specs.Lists.{first_bad}

module _ {A : Type 0} where
  -- the list of a rule's values at 0, 1, .. below n
  abbrev pub build : ℕ → (ℕ → A) → List A
  build zero f = []
  build (suc n) f = f zero ∷ build n (λ k. f (suc k))

  -- the records of a body: `read s i` is the record that starts at byte i of s, and each takes w bytes
  unfoldable pub table_of : (List ℕ → ℕ → A) → ℕ → List ℕ → List A
  table_of read w s = build (length s / w) (λ k. read s (w * k))

  -- the bytes of each record, one after the other
  unfoldable pub encode_all : (A → List ℕ) → List A → List ℕ
  encode_all enc [] = []
  encode_all enc (x ∷ xs) = enc x ++ encode_all enc xs

-- the first bytes of the records of width w never fall
abbrev pub Ordered : ℕ → List ℕ → Type 0
Ordered w s = (i j : ℕ) → i ≤ j → j < length s / w → get_or s (w * i) 0 ≤ get_or s (w * j) 0

-- how many of the first n records of width w begin with a byte below `bound`, where these bytes never fall: the number of the first that does not
abbrev pub count_below : List ℕ → ℕ → ℕ → ℕ → ℕ
count_below s w n bound = first_bad (λ k. ltb (get_or s (w * k) 0) bound) n

-- where the records of each owner from 0 to 32 start: how many records have a smaller owner
unfoldable pub starts_of : ℕ → List ℕ → List ℕ
starts_of w s = build 33 (λ t. count_below s w (length s / w) t)

-- the starts once a record of this owner was added; once one was taken out
unfoldable pub starts_more : ℕ → List ℕ → List ℕ
starts_more owner l = build 33 (λ t. cond (ltb owner t) (get_or l t 0 + 1) (get_or l t 0))

unfoldable pub starts_less : ℕ → List ℕ → List ℕ
starts_less owner l = build 33 (λ t. cond (ltb owner t) (get_or l t 0 - 1) (get_or l t 0))

-- the starts once a record of this owner was added, or taken out; and starts that can be so moved
abbrev pub starts_moved : Bool → ℕ → List ℕ → List ℕ
starts_moved true = starts_more
starts_moved false = starts_less

abbrev pub Movable : Bool → ℕ → List ℕ → Type 0
Movable true owner l = (t : ℕ) → get_or l t 0 < 65535
Movable false owner l = (t : ℕ) → owner < t → t < 33 → 0 < get_or l t 0
