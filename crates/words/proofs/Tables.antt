-- Tables of records, once for every width and every kind of record: record k stands at byte w * k, so reading, writing, putting in and
-- taking out a record of the list is doing so with its bytes. Assumes nothing.
use mathlib.Core.Path.{◌≡◌, refl, sym, ap, ◌∙◌}
use mathlib.Core.Bool.{Bool}
use mathlib.Core.List.{List, [], ◌∷◌, ◌++◌, append_assoc, append-nil}
use Prim.Native.Nat.{ℕ, zero, suc, ◌+◌, ◌*◌, ◌/◌, ◌≤◌, ◌<◌, suc-le-suc, zero-le}
use native.Mathlib.Nat.{add_assoc, add_comm, add-zero, zero-add, mul-add, mul-suc, mul-le-mul_left, mul-zero, mul-div_cancel_left, le_of_suc-le-suc, not-suc-le-zero}
use native.Mathlib.Omega.{arith}
use lib.Dec.{T}
use lib.ListN.{length, get_or, set, take, drop, length-append, length-drop}
use lib.Seq.{take-add, take_all, drop-append-add, get_or-drop}
use Rattle.words.specs.Bytes.{splice, inserted, removed, blank, Bytes}
use Rattle.words.specs.Lists.{all}
use Rattle.words.specs.Tables.{build, table_of, encode_all}
use Rattle.words.proofs.Lists.{all_at}
use Rattle.words.proofs.Splices.{splice_past, splice_front, inserted_seam, removed_seam}

-- record k of n lies within
pub inside : (w n k size : ℕ) → k < n → w * n ≤ size → 0 < w → w * k < size
inside w n k size h l p = omega (arith, mul-suc w k, mul-le-mul_left w h)

-- ---- the list of a rule's values
module _ {A : Type 0} where
  pub length-build : (n : ℕ) (f : ℕ → A) → length (build n f) ≡ n
  length-build zero f = refl
  length-build (suc n) f = ap suc (length-build n (λ k. f (suc k)))

  pub get_or-build : (n : ℕ) (f : ℕ → A) (k : ℕ) (d : A) → k < n → get_or (build n f) k d ≡ f k
  get_or-build zero f k d h = absurd (not-suc-le-zero h)
  get_or-build (suc n) f zero d h = refl
  get_or-build (suc n) f (suc k) d h = get_or-build n (λ i. f (suc i)) k d (le_of_suc-le-suc h)

  pub build_same : (n : ℕ) (f g : ℕ → A) → ((k : ℕ) → k < n → f k ≡ g k) → build n f ≡ build n g
  build_same zero f g e = refl
  build_same (suc n) f g e = rw (e 0 (suc-le-suc zero-le), build_same n (λ k. f (suc k)) (λ k. g (suc k)) (λ k h. e (suc k) (suc-le-suc h)))

  -- a list is the list of its elements
  pub build_list : (xs : List A) (d : A) → build (length xs) (λ k. get_or xs k d) ≡ xs
  build_list [] d = refl
  build_list (x ∷ xs) d = ap (λ (l : List A). x ∷ l) (build_list xs d)

  -- ---- the records of a body
  module _ (read : List ℕ → ℕ → A) (w : ℕ) (s : List ℕ) where
    pub table_length : length (table_of read w s) ≡ length s / w
    unfolding table_of
    table_length = length-build (length s / w) (λ k. read s (w * k))

    pub table_at : (k : ℕ) (d : A) → k < length s / w → get_or (table_of read w s) k d ≡ read s (w * k)
    unfolding table_of
    table_at k d h = get_or-build (length s / w) (λ i. read s (w * i)) k d h

-- ---- the bytes of a run of records
module _ {A : Type 0} (enc : A → List ℕ) (w : ℕ) (wide : (x : A) → length (enc x) ≡ w) where
  pub length-encode_all : (xs : List A) → length (encode_all enc xs) ≡ w * length xs
  unfolding encode_all
  length-encode_all [] = sym (mul-zero w)
  length-encode_all (x ∷ xs) = simp (length-append, wide, length-encode_all xs, mul-suc, add_comm)

  -- the run from record i on
  pub drop-encode_all : (xs : List A) (rest : List ℕ) (i : ℕ) (d : A) → i < length xs
      → drop (w * i) (encode_all enc xs ++ rest) ≡ enc (get_or xs i d) ++ (encode_all enc (drop (suc i) xs) ++ rest)
  unfolding encode_all
  drop-encode_all [] rest i d h = absurd (not-suc-le-zero h)
  drop-encode_all (x ∷ xs) rest zero d h = rw (mul-zero, append_assoc)
  drop-encode_all (x ∷ xs) rest (suc i) d h =
      rw (mul-suc, add_comm, append_assoc, ← wide x, drop-append-add, wide x) (drop-encode_all xs rest i d (le_of_suc-le-suc h))

  -- record i replaced
  pub splice-encode_all : (xs : List A) (rest : List ℕ) (i : ℕ) (y : A) → i < length xs
      → splice (encode_all enc xs ++ rest) (w * i) (enc y) ≡ encode_all enc (set xs i y) ++ rest
  unfolding encode_all
  splice-encode_all [] rest i y h = absurd (not-suc-le-zero h)
  splice-encode_all (x ∷ xs) rest zero y h = rw (mul-zero, append_assoc, append_assoc) (splice_front (enc x) (encode_all enc xs ++ rest) (enc y) (wide x ∙ sym (wide y)))
  splice-encode_all (x ∷ xs) rest (suc i) y h =
      rw (mul-suc, add_comm, append_assoc, ← wide x, splice_past, wide x, append_assoc)
      (ap (λ (l : List ℕ). enc x ++ l) (splice-encode_all xs rest i y (le_of_suc-le-suc h)))

pub encode_all-append : {A : Type 0} (enc : A → List ℕ) (xs ys : List A) → encode_all enc (xs ++ ys) ≡ encode_all enc xs ++ encode_all enc ys
unfolding encode_all
encode_all-append enc [] ys = refl
encode_all-append enc (x ∷ xs) ys = rw (encode_all-append enc xs ys, append_assoc)

-- memory: what stands before a run of records, the records, what stands after
abbrev pub between : {A : Type 0} → (A → List ℕ) → List ℕ → List A → List ℕ → List ℕ
between enc pre xs rest = pre ++ (encode_all enc xs ++ rest)

-- ---- a kind of record: how it is written and read, how wide it is, and which values fit
pub record Codec (A : Type 0) : Type 1 where
  pub enc : A → List ℕ
  pub dec : List ℕ → ℕ → A
  pub w : ℕ
  pub fits : A → Bool
  pub wide : (x : A) → length (enc x) ≡ w
  pub moved : (n : ℕ) (m : List ℕ) (k : ℕ) → dec (drop n m) k ≡ dec m (n + k)
  pub back : (x : A) (rest : List ℕ) → T (fits x) → dec (enc x ++ rest) 0 ≡ x
  pub again : (m : List ℕ) → Bytes m → w ≤ length m → enc (dec m 0) ≡ take w m
  pub sound : (m : List ℕ) → Bytes m → (i : ℕ) → T (fits (dec m i))

module _ {A : Type 0} (K : Codec A) (pre : List ℕ) (xs : List A) (rest : List ℕ) where
  pub read_at : (i : ℕ) (d : A) → i < length xs → T (K.fits (get_or xs i d)) → K.dec (between K.enc pre xs rest) (length pre + K.w * i) ≡ get_or xs i d
  read_at i d h g =
      let n : ℕ = length pre + K.w * i in
      let e : drop n (between K.enc pre xs rest) ≡ K.enc (get_or xs i d) ++ (encode_all K.enc (drop (suc i) xs) ++ rest) =
      drop-append-add pre (encode_all K.enc xs ++ rest) (K.w * i) ∙ drop-encode_all K.enc K.w K.wide xs rest i d h in
      ap (λ (k : ℕ). K.dec (between K.enc pre xs rest) k) (sym (add-zero n))
      ∙ sym (K.moved n (between K.enc pre xs rest) 0)
      ∙ ap (λ (l : List ℕ). K.dec l 0) e
      ∙ K.back (get_or xs i d) _ g

  pub write_at : (i : ℕ) (y : A) → i < length xs → splice (between K.enc pre xs rest) (length pre + K.w * i) (K.enc y) ≡ between K.enc pre (set xs i y) rest
  write_at i y h = splice_past pre (encode_all K.enc xs ++ rest) (K.w * i) (K.enc y) ∙ ap (λ (l : List ℕ). pre ++ l) (splice-encode_all K.enc K.w K.wide xs rest i y h)

  -- record i read, changed and written back
  pub change_at : (f : A → A) (m : List ℕ) (base i : ℕ) (d : A) → m ≡ between K.enc pre xs rest → length pre ≡ base → i < length xs → T (K.fits (get_or xs i d))
      → splice m (base + K.w * i) (K.enc (f (K.dec m (base + K.w * i)))) ≡ between K.enc pre (set xs i (f (get_or xs i d))) rest
  change_at f m base i d e l h g = rw (e, ← l, read_at i d h g) (write_at i (f (get_or xs i d)) h)

module _ {A : Type 0} (K : Codec A) (pre : List ℕ) (a b : List A) (y : A) (rest : List ℕ) where
  insert-front : length (pre ++ encode_all K.enc a) ≡ length pre + K.w * length a
  insert-front = simp (length-append, length-encode_all K.enc K.w K.wide)

  -- a record put in between a and b
  pub insert_at_lem : inserted (K.enc y) (length pre + K.w * length a) (length pre + K.w * length (a ++ b)) (between K.enc pre (a ++ b) rest)
      ≡ between K.enc pre (a ++ (y ∷ b)) (drop K.w rest)
  unfolding encode_all
  insert_at_lem =
      let p : List ℕ = pre ++ encode_all K.enc a in
      let q : List ℕ = encode_all K.enc b in
      let end : length pre + K.w * length (a ++ b) ≡ length p + length q =
      simp (length-append, length-encode_all K.enc K.w K.wide, mul-add, add_assoc) in
      let m : between K.enc pre (a ++ b) rest ≡ p ++ (q ++ rest) = simp (encode_all-append, append_assoc) in
      rw (end, ← insert-front, m, inserted_seam p q rest (K.enc y), K.wide y) (simp (encode_all-append, append_assoc))

  -- the record between a and b taken out
  pub remove_at_lem : removed K.w (length pre + K.w * length a) (length pre + K.w * length (a ++ (y ∷ b))) (between K.enc pre (a ++ (y ∷ b)) rest)
      ≡ between K.enc pre (a ++ b) (blank K.w ++ rest)
  unfolding encode_all
  remove_at_lem =
      let p : List ℕ = pre ++ encode_all K.enc a in
      let q : List ℕ = encode_all K.enc b in
      let end : length pre + K.w * length (a ++ (y ∷ b)) ≡ length p + (K.w + length q) =
      simp (length-append, length-encode_all K.enc K.w K.wide, mul-add, mul-suc, add_assoc) (omega arith) in
      let m : between K.enc pre (a ++ (y ∷ b)) rest ≡ p ++ (K.enc y ++ (q ++ rest)) = simp (encode_all-append, append_assoc) in
      rw (end, ← insert-front, m, ← K.wide y, removed_seam p (K.enc y) q rest, K.wide y) (simp (encode_all-append, append_assoc))

module _ {A : Type 0} (K : Codec A) (some : 0 < K.w) where
  count_encoded : (xs : List A) → length (encode_all K.enc xs) / K.w ≡ length xs
  count_encoded xs = ap (λ (n : ℕ). n / K.w) (length-encode_all K.enc K.w K.wide xs) ∙ mul-div_cancel_left (length xs) some

  -- what was written is read back, all of it
  pub decode_encode : (xs : List A) (d : A) → T (all K.fits xs) → table_of K.dec K.w (encode_all K.enc xs) ≡ xs
  unfolding table_of
  decode_encode xs d g =
      let s = encode_all K.enc xs in
      rw (count_encoded xs) (build_same (length xs) (λ k. K.dec s (K.w * k)) (λ k. get_or xs k d) (λ k h.
      let e = read_at K [] xs [] k d h (all_at K.fits xs d g k h) in
      rw (zero-add, append-nil) at e) ∙ build_list xs d)

  encode_build : (n : ℕ) (m : List ℕ) → Bytes m → K.w * n ≤ length m → encode_all K.enc (build n (λ k. K.dec m (K.w * k))) ≡ take (K.w * n) m
  unfolding encode_all
  encode_build zero m g h = rw mul-zero
  encode_build (suc n) m g h =
      let l : K.w * n ≤ length (drop K.w m) = simp length-drop (omega (arith, mul-suc K.w n)) in
      let next : build n (λ k. K.dec m (K.w * suc k)) ≡ build n (λ k. K.dec (drop K.w m) (K.w * k)) =
      build_same n _ _ (λ k b. rw (mul-suc, add_comm) (sym (K.moved K.w m (K.w * k)))) in
      let small : Bytes (drop K.w m) = λ k. rw get_or-drop (g (K.w + k)) in
      rw (next, mul-zero, encode_build n (drop K.w m) small l, K.again m g (omega (arith, mul-suc K.w n)), mul-suc, add_comm (K.w * n) K.w, take-add)

  -- what was read is written back, all of it
  pub encode_decode : (n : ℕ) (m : List ℕ) → Bytes m → length m ≡ K.w * n → encode_all K.enc (table_of K.dec K.w m) ≡ m
  unfolding table_of
  encode_decode n m g e =
      let q : length m / K.w ≡ n = ap (λ (k : ℕ). k / K.w) e ∙ mul-div_cancel_left n some in
      rw q (encode_build n m g (omega arith) ∙ take_all (K.w * n) m (omega arith))
