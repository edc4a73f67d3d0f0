-- A test of two halves side by side: what was seen of both decides with what is left of each. Assumes nothing.
use mathlib.Core.Path.{◌≡◌, refl, sym, ap, ◌∙◌}
use mathlib.Core.Bool.{Bool, true, false, ◌&&◌, and-true, and-false}
use mathlib.Core.List.{List, [], ◌∷◌}
use Prim.Native.Nat.{ℕ, zero, suc, ◌+◌, ◌-◌, ◌*◌, ◌<◌}
use native.Mathlib.Nat.{add-zero}
use native.Mathlib.Numerals.{add-one}
use native.Mathlib.Omega.{arith}
use lib.ListN.{length, get_or, take, drop, take-append-drop}
use lib.Seq.{drop-cons, drop-length}
use lib.Dec.{eqb}
use lib.Bits.{bit_or, or_add_and, and_le_r}
use borrow.Author.Tests.{ne_eqb}
use Rattle.words.proofs.Lists.{all_append}
use Rattle.words.specs.Bytes.{stretch, all_zero}

pub stretch-cons : (k e : ℕ) (m : List ℕ) → k < e → k < length m → stretch k e m ≡ get_or m k 0 ∷ stretch (suc k) e m
stretch-cons k e m h l =
    let q : e - k ≡ suc (e - suc k) = omega arith in
    rw (q, drop-cons m k 0)

-- all of s is 0 exactly if what was seen is and what is left of each half, from j on
abbrev pub Seen : List ℕ → ℕ → ℕ → ℕ → Type 0
Seen s half j seen = all_zero s ≡ (eqb seen 0 && (all_zero (stretch j half s) && all_zero (drop (half + j) s)))

-- an or is 0 exactly if both are
or_none : (a b : ℕ) → eqb (bit_or a b) 0 ≡ (eqb a 0 && eqb b 0)
or_none zero b = refl
or_none (suc a) b =
    rw (ne_eqb (suc a) 0 (λ e. omega arith)) (ne_eqb (bit_or (suc a) b) 0 (λ e. omega (arith, or_add_and (suc a) b, and_le_r (suc a) b)))

exchanged : (x a b y z : Bool) → (x && ((a && y) && (b && z))) ≡ ((x && (a && b)) && (y && z))
exchanged false a b y z = refl
exchanged true false b y z = refl
exchanged true true true y z = refl
exchanged true true false y z = and-false y

pub seen_none : (s : List ℕ) (half : ℕ) → Seen s half 0 0
unfolding all_zero
seen_none s half =
    let z : half - 0 ≡ half = omega arith in
    rw (z, add-zero half) (ap all_zero (sym (take-append-drop half s)) ∙ all_append (λ x. eqb x 0) (take half s) (drop half s))

pub seen_more : (s : List ℕ) (half j seen : ℕ) → j < half → half + j < length s → Seen s half j seen
    → Seen s half (j + 1) (bit_or seen (bit_or (get_or s j 0) (get_or s (half + j) 0)))
unfolding all_zero
seen_more s half j seen h l e =
    let a = get_or s j 0 in
    let b = get_or s (half + j) 0 in
    let n : half + (j + 1) ≡ suc (half + j) = omega arith in
    e ∙ rw (stretch-cons j half s h (omega arith), drop-cons s (half + j) 0 l, n, add-one, or_none seen (bit_or a b), or_none a b)
    (exchanged (eqb seen 0) (eqb a 0) (eqb b 0) (all_zero (stretch (suc j) half s)) (all_zero (drop (suc (half + j)) s)))

-- all of an even number of bytes is seen, and all but the last of an odd one
pub seen_all : (s : List ℕ) (half j seen : ℕ) → j ≡ half → length s ≡ 2 * half → Seen s half j seen → eqb seen 0 ≡ all_zero s
unfolding all_zero
seen_all s half j seen q l e =
    let z : half - half ≡ 0 = omega arith in
    let n : half + half ≡ length s = omega arith in
    sym (e ∙ rw (q, z, n, drop-length) (and-true (eqb seen 0)))

pub seen_last : (s : List ℕ) (half j seen : ℕ) → j ≡ half → length s ≡ 2 * half + 1 → Seen s half j seen
    → eqb (bit_or seen (get_or s (2 * half) 0)) 0 ≡ all_zero s
unfolding all_zero
seen_last s half j seen q l e =
    let z : half - half ≡ 0 = omega arith in
    let n : half + half ≡ 2 * half = omega arith in
    let m : suc (2 * half) ≡ length s = omega arith in
    let end : drop (suc (2 * half)) s ≡ [] = ap (λ (k : ℕ). drop k s) m ∙ drop-length s in
    sym (e ∙ rw (q, z, n, drop-cons s (2 * half) 0 (omega arith), end, or_none seen (get_or s (2 * half) 0), and-true))
