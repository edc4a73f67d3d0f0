-- Texts put one after the other are one text; and how long a text is at most, whatever its numbers. Assumes nothing.
use mathlib.Core.Path.{◌≡◌, refl, sym, ap, ◌∙◌}
use mathlib.Core.List.{List, [], ◌∷◌, ◌++◌, append_assoc, append-nil}
use Prim.Native.Nat.{ℕ, zero, suc, ◌+◌, ◌-◌, ◌*◌, ◌^◌, ◌≤◌, ◌<◌}
use native.Mathlib.Nat.{add-zero, add_assoc, zero-add, mul-suc, le_trans, pow-le-pow_right}
use native.Mathlib.Numerals.{add-one}
use native.Mathlib.Omega.{arith, by_contra}
use lib.Dec.{leb}
use lib.ListN.{length, take, drop, length-append, take-append-drop}
use lib.Seq.{length-take-le, drop-drop}
use borrow.Author.Tests.{le-leb, lt-leb}
use Rattle.io.specs.Digits.{last_digits, IsDigitCount}
use Rattle.words.specs.Bytes.{splice}
use Rattle.words.proofs.First.{first_is, first_le}
use Rattle.words.proofs.Splices.{splice_past}
use Rattle.lines.specs.Lines.{places, decimal, spaced, line, lines, Put}

-- ---- numbers
length_digits : (b k n : ℕ) → length (last_digits b k n) ≡ k
length_digits b zero n = refl
length_digits b (suc k) n = rw (length-append, length_digits b k) (omega arith)

-- 20 digits hold a number of 64 bits
pub twenty : (n r : ℕ) → IsDigitCount 10 1 n r → n < 2 ^ 64 → r ≤ 20
twenty n r f h =
    by_contra r 20 (λ l.
    let p : 10 ^ 20 ≤ 10 ^ (r - 1) = pow-le-pow_right (omega arith) {i = 20} (omega arith) in
    let q = f.2 (omega arith) in
    omega arith)

-- the fewest digits that hold a number are its decimal
pub decimal_is : (n r : ℕ) → IsDigitCount 10 1 n r → r ≤ 20 → last_digits 10 r n ≡ decimal n
unfolding decimal places
decimal_is n r f h =
    let e = first_is (λ k. leb (10 ^ (k + 1)) n) 19 (r - 1) (omega arith)
    (λ j l. le-leb (10 ^ (j + 1)) n (le_trans (pow-le-pow_right (omega arith) {i = j + 1} {j = r - 1} (omega arith)) (f.2 (omega arith))))
    (λ l. let q : r - 1 + 1 ≡ r = omega arith in lt-leb (10 ^ (r - 1 + 1)) n (rw q f.1))
    in
    let q : 1 + (r - 1) ≡ r = omega arith in
    rw (e, q)

pub decimal-length : (n : ℕ) → length (decimal n) ≤ 20
unfolding decimal places
decimal-length n = rw length_digits (omega (arith, first_le (λ k. leb (10 ^ (k + 1)) n) 19))

-- ---- numbers in a row
pub spaced-append : (a b : List ℕ) → spaced (a ++ b) ≡ spaced a ++ spaced b
unfolding spaced
spaced-append [] b = refl
spaced-append (n ∷ a) b = ap (λ (l : List ℕ). 32 ∷ l) (rw (spaced-append a b) (sym (append_assoc (decimal n) (spaced a) (spaced b))))

pub spaced-length : (l : List ℕ) → length (spaced l) ≤ 21 * length l
unfolding spaced
spaced-length [] = omega arith
spaced-length (n ∷ l) = rw length-append (omega (arith, decimal-length n, spaced-length l))

pub line-length : (w l : List ℕ) → length (line w l) ≤ length w + 21 * length l + 1
unfolding line
line-length w l = simp length-append (omega (arith, spaced-length l))

-- ---- lines in a row
module _ (f : ℕ → List ℕ) where
  pub lines_none : lines 0 f ≡ []
  unfolding lines
  lines_none = refl

  pub lines_more : (n : ℕ) → lines (n + 1) f ≡ lines n f ++ f n
  unfolding lines
  lines_more n = rw add-one

  pub lines-length : (w n : ℕ) → ((k : ℕ) → k < n → length (f k) ≤ w) → length (lines n f) ≤ w * n
  unfolding lines
  lines-length w zero h = omega arith
  lines-length w (suc n) h =
      rw (length-append, mul-suc) (omega (arith, lines-length w n (λ k l. h k (omega arith)), h n (omega arith)))

-- lines that are the same one by one
pub lines_same : (f g : ℕ → List ℕ) (n : ℕ) → ((k : ℕ) → k < n → f k ≡ g k) → lines n f ≡ lines n g
unfolding lines
lines_same f g zero e = refl
lines_same f g (suc n) e = rw (lines_same f g n (λ k h. e k (omega arith)), e n (omega arith))

-- ---- one text after the other
splice-after : (m : List ℕ) (at : ℕ) (s t : List ℕ) → at ≤ length m → splice (splice m at s) (at + length s) t ≡ splice m at (s ++ t)
unfolding splice
splice-after m at s t h =
    let p = take at m ++ s in
    let q = drop (at + length s) m in
    let e : length p + 0 ≡ at + length s = rw (length-append, length-take-le at m h) (omega arith) in
    ap (λ (n : ℕ). splice (p ++ q) n t) (sym e)
    ∙ splice_past p q 0 t
    ∙ simp (zero-add, drop-drop, length-append, append_assoc, add_assoc)

pub put_then : {a b c s t : List ℕ} {at m n : ℕ} → at ≤ length a → Put a at s b m → Put b m t c n → Put a at (s ++ t) c n
put_then {a} {b} {c} {s} {t} {at} h p q = record {
  bytes = q.bytes ∙ rw (p.bytes, p.ends) (splice-after a at s t h);
  ends = q.ends ∙ rw (p.ends, length-append) (add_assoc at (length s) (length t));
}

-- a text by another name
pub put_same : {a b s t : List ℕ} {at n : ℕ} → s ≡ t → Put a at s b n → Put a at t b n
put_same {a} {at = at} e p = record { bytes = p.bytes ∙ ap (splice a at) e; ends = p.ends ∙ ap (λ (l : List ℕ). at + length l) e }

-- nothing put
pub put_none : (a : List ℕ) (at : ℕ) → Put a at [] a at
unfolding splice
put_none a at = record { bytes = sym (simp (add-zero, append-nil) (take-append-drop at a)); ends = omega arith }
