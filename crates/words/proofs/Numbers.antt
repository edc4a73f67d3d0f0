-- Numbers written as bytes are read back, and bytes read are written back; a list of known length is what is written out of it. Assumes nothing.
use mathlib.Core.Path.{◌≡◌, refl, ap, ◌∙◌}
use mathlib.Core.List.{List, [], ◌∷◌}
use Prim.Native.Nat.{ℕ, zero, suc, ◌+◌, ◌*◌, ◌/◌, ◌%◌, ◌≤◌, ◌<◌}
use native.Mathlib.Nat.{add_assoc, le_of_suc-le-suc, not-suc-le-zero}
use native.Mathlib.Omega.{arith}
use lib.ListN.{length, get_or, take, drop, get_or-eq_default}
use lib.Seq.{get_or-drop, take_all}
use Rattle.words.specs.Bytes.{u16_at, Bytes}

pub u16_at-drop : (n : ℕ) (m : List ℕ) (k : ℕ) → u16_at (drop n m) k ≡ u16_at m (n + k)
unfolding u16_at
u16_at-drop n m k = simp (get_or-drop, add_assoc)

-- past the end
pub u16_at_out : (m : List ℕ) (k : ℕ) → length m ≤ k → u16_at m k ≡ 0
unfolding u16_at
u16_at_out m k h = omega (arith, get_or-eq_default m 0 {n = k} h, get_or-eq_default m 0 {n = k + 1} (omega arith))

-- a word written is read back
abbrev pub word_of : ℕ → ℕ
word_of a = a % 256 + 256 * (a / 256 % 256)

pub word_back : (a : ℕ) → a < 65536 → word_of a ≡ a
word_back a h = omega arith

-- a word read is written back
pub u16_at-fits : (m : List ℕ) → Bytes m → (k : ℕ) → u16_at m k < 65536
unfolding u16_at
u16_at-fits m h k = omega (arith, h k, h (k + 1))

pub low_word : (m : List ℕ) → Bytes m → (k : ℕ) → u16_at m k % 256 ≡ get_or m k 0
unfolding u16_at
low_word m h k = omega (arith, h k, h (k + 1))

pub high_word : (m : List ℕ) → Bytes m → (k : ℕ) → u16_at m k / 256 % 256 ≡ get_or m (k + 1) 0
unfolding u16_at
high_word m h k = omega (arith, h k, h (k + 1))

module _ {A : Type 0} (d : A) where
  -- n elements of l from index i
  abbrev pub elems : ℕ → ℕ → List A → List A
  elems zero i l = []
  elems (suc n) i l = get_or l i d ∷ elems n (suc i) l

  elems-cons : (n i : ℕ) (x : A) (l : List A) → elems n (suc i) (x ∷ l) ≡ elems n i l
  elems-cons zero i x l = refl
  elems-cons (suc n) i x l = ap (λ (r : List A). get_or l i d ∷ r) (elems-cons n (suc i) x l)

  -- the first n, written out
  pub elems-take : (n : ℕ) (l : List A) → n ≤ length l → elems n 0 l ≡ take n l
  elems-take zero l h = refl
  elems-take (suc n) [] h = absurd (not-suc-le-zero h)
  elems-take (suc n) (x ∷ l) h = ap (λ (r : List A). x ∷ r) (elems-cons n 0 x l ∙ elems-take n l (le_of_suc-le-suc h))

  -- a list of n elements, written out
  pub written : (n : ℕ) (l : List A) → length l ≡ n → elems n 0 l ≡ l
  written n l e = elems-take n l (omega arith) ∙ take_all n l (omega arith)
