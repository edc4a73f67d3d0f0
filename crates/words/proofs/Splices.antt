-- Stretches replaced, put in and taken out between a front and a rest: the front's length finds the seam. Assumes nothing.
use mathlib.Core.Path.{◌≡◌}
use mathlib.Core.List.{List, ◌++◌, append_assoc}
use Prim.Native.Nat.{ℕ, zero, suc, ◌+◌, ◌-◌, ◌≤◌}
use native.Mathlib.Nat.{add_assoc, zero-add, suc-sub-suc, sub-zero, zero-sub}
use native.Mathlib.Omega.{arith}
use lib.ListN.{length, drop, replicate, length-append, length-drop}
use lib.Seq.{take-append-add, take-append_seam, drop-append_seam, drop-append-add, drop_at, length-take-le}
use Rattle.words.specs.Bytes.{splice, inserted, removed, blank}

-- a stretch replaced past a prefix is replaced in what follows the prefix
pub splice_past : (p q : List ℕ) (n : ℕ) (b : List ℕ) → splice (p ++ q) (length p + n) b ≡ p ++ splice q n b
unfolding splice
splice_past p q n b = simp (add_assoc, take-append-add, drop-append-add, append_assoc)

pub splice_zero : (q b : List ℕ) → splice q 0 b ≡ b ++ drop (length b) q
unfolding splice
splice_zero q b = rw zero-add

-- a front replaced by one as long
pub splice_front : (p q b : List ℕ) → length p ≡ length b → splice (p ++ q) 0 b ≡ b ++ q
splice_front p q b e = rw (splice_zero, drop_at p q (length b) e)

pub length-splice : (m : List ℕ) (at : ℕ) (b : List ℕ) → at + length b ≤ length m → length (splice m at b) ≡ length m
unfolding splice
length-splice m at b h = simp (length-append, length-drop, length-take-le at m (omega arith)) (omega arith)

pub inserted_seam : (p q r b : List ℕ) → inserted b (length p) (length p + length q) (p ++ (q ++ r)) ≡ p ++ (b ++ (q ++ drop (length b) r))
unfolding inserted
inserted_seam p q r b =
    let n : length p + length q - length p ≡ length q = omega arith in
    rw (n, take-append_seam p (q ++ r), drop-append_seam p (q ++ r), take-append_seam q r, add_assoc, drop-append-add p (q ++ r) (length q + length b), drop-append-add q r (length b))

pub removed_seam : (p b q r : List ℕ) → removed (length b) (length p) (length p + (length b + length q)) (p ++ (b ++ (q ++ r))) ≡ p ++ (q ++ (replicate (length b) 0 ++ r))
unfolding removed
removed_seam p b q r =
    let n : length p + (length b + length q) - (length p + length b) ≡ length q = omega arith in
    rw (
      n,
      take-append_seam p (b ++ (q ++ r)),
      drop-append-add p (b ++ (q ++ r)) (length b),
      drop-append_seam b (q ++ r),
      take-append_seam q r,
      drop-append-add p (b ++ (q ++ r)) (length b + length q),
      drop-append-add b (q ++ r) (length q),
      drop-append_seam q r,
    )

-- zeros, but for some of them
pub drop-blank : (n k : ℕ) → drop n (blank k) ≡ blank (k - n)
drop-blank zero k = rw sub-zero
drop-blank (suc n) zero = rw zero-sub
drop-blank (suc n) (suc k) = rw suc-sub-suc (drop-blank n k)
