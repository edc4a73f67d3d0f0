-- What a move and a put make together, and what a slice's method on a part of lent bytes leaves of the whole. Assumes nothing.
use mathlib.Core.Path.{◌≡◌, refl, sym, ap, ◌∙◌}
use mathlib.Core.Bool.{◌&&◌}
use mathlib.Core.List.{List, ◌++◌, append_assoc, append-nil}
use Prim.Native.Nat.{ℕ, ◌+◌, ◌-◌, ◌≤◌}
use native.Mathlib.Nat.{zero-add}
use native.Mathlib.Omega.{arith}
use lib.ListN.{length, get_or, take, drop, length-append, length-drop, length-replicate, take-append-drop}
use lib.Seq.{take_at, drop_at, take-take, take-append-le, drop-drop, get_or-append-add, get_or-drop, length-take-le, drop-length, take_all}
use lib.Dec.{eqb}
use borrow.Rule.Slice.PartMut.{put_mid}
use Rattle.std.specs.List.{copy_within}
use Rattle.words.proofs.Lists.{all_append}
use Rattle.words.proofs.Splices.{splice_past, splice_zero}
use Rattle.words.specs.Bytes.{splice, stretch, blank, inserted, removed, padded, all_zero}

pub length-stretch : (a e : ℕ) (m : List ℕ) → a ≤ e → e ≤ length m → length (stretch a e m) ≡ e - a
length-stretch a e m h l = length-take-le (e - a) (drop a m) (simp length-drop (omega arith))

-- past a front as long as what it stands for, the list is the old one
pub kept : (p m : List ℕ) (n q : ℕ) → length p ≡ n → n ≤ q → get_or (p ++ drop n m) q 0 ≡ get_or m q 0
kept p m n q e h =
    let there : q ≡ length p + (q - n) = omega arith in
    let back : n + (q - n) ≡ q = omega arith in
    ap (λ (k : ℕ). get_or (p ++ drop n m) k 0) there ∙ get_or-append-add p (drop n m) (q - n) 0 ∙ get_or-drop n m (q - n) 0 ∙ ap (λ (k : ℕ). get_or m k 0) back

-- a move up and a put make an insertion
pub insertion : (m b : List ℕ) (at end : ℕ) → at ≤ end → end + length b ≤ length m
    → splice (copy_within m at end (at + length b)) at b ≡ inserted b at end m
unfolding splice inserted
insertion m b at end h l =
    let front : length (take (at + length b) m) ≡ at + length b = length-take-le _ m (omega arith) in
    let back : at + length b + (end - at) ≡ end + length b = omega arith in
    rw (
      back,
      append_assoc (take (at + length b) m) (stretch at end m) (drop (end + length b) m),
      take-append-le at (take (at + length b) m) (stretch at end m ++ drop (end + length b) m) (omega arith),
      take-take at (at + length b) m (omega arith),
      drop_at (take (at + length b) m) (stretch at end m ++ drop (end + length b) m) (at + length b) front,
      append_assoc,
    )

-- a move down and a put of zeros make a removal
pub removal : (m : List ℕ) (w at end n : ℕ) → at + w ≤ end → end ≤ length m → n ≡ w
    → splice (copy_within m (at + w) end at) (end - w) (blank n) ≡ removed w at end m
unfolding removed
removal m w at end n h l z =
    let a : length (take at m) ≡ at = length-take-le at m (omega arith) in
    let b : length (stretch (at + w) end m) ≡ end - (at + w) = length-stretch (at + w) end m h l in
    let f : List ℕ = take at m ++ stretch (at + w) end m in
    let here : end - w ≡ length f + 0 = omega (arith, length-append (take at m) (stretch (at + w) end m)) in
    let past : at + (end - (at + w)) ≡ end - w = omega arith in
    let back : end - w + w ≡ end = omega arith in
    let q : List ℕ = drop (end - w) m in
    rw (past, z)
    (ap (λ (n : ℕ). splice (f ++ q) n (blank w)) here
    ∙ splice_past f q 0 (blank w)
    ∙ simp (splice_zero, append_assoc, length-replicate, drop-drop, back))

-- a copy at the front, then zeros
pub pads : (m b : List ℕ) → length b ≤ length m → splice (splice m 0 b) (length b) (blank (length m - length b)) ≡ padded (length m) b
unfolding splice padded
pads m b h =
    let n : length b + (length m - length b) ≡ length (b ++ drop (length b) m) = simp (length-append, length-drop) (omega arith) in
    rw (zero-add (length b), length-replicate, n, take_at b (drop (length b) m) (length b) refl, drop-length) (append-nil (b ++ blank (length m - length b)))

-- every byte from `at` on is 0 exactly if each up to `line` is, and each from there on; `n` is how many that are
pub parted : (s : List ℕ) (at line n : ℕ) → at ≤ line → n ≡ length s - line
    → (all_zero (take (line - at) (drop at s)) && all_zero (take n (drop line s))) ≡ all_zero (drop at s)
unfolding all_zero
parted s at line n h q =
    let e : at + (line - at) ≡ line = omega arith in
    let rest : take n (drop line s) ≡ drop line s = take_all n (drop line s) (omega (arith, length-drop line s)) in
    rw rest
    (sym (ap all_zero (sym (take-append-drop (line - at) (drop at s)))
    ∙ all_append (λ x. eqb x 0) (take (line - at) (drop at s)) (drop (line - at) (drop at s))
    ∙ rw (drop-drop, e)))

-- ---- a slice's method on a part of lent bytes: the part is replaced
pub placed : (m b c : List ℕ) (at k : ℕ) → c ≡ b → k ≡ length b → put_mid at k m c ≡ splice m at b
unfolding splice
placed m b c at k e n = rw (e, n, drop-drop, append_assoc)
