-- Bytes with zeros after them: a byte past the end reads as 0, so every number is read as before. Assumes nothing.
use mathlib.Core.Bool.{true}
use mathlib.Core.List.{List, [], ◌∷◌, ◌++◌}
use mathlib.Core.Path.{◌≡◌, refl}
use Prim.Native.Nat.{ℕ, zero, suc, ◌-◌, ◌≤◌, ◌<◌}
use native.Mathlib.Omega.{arith}
use lib.ListN.{length, get_or, take, drop, length-append, length-replicate, length-drop}
use lib.Seq.{take-append_seam, take-append-le, drop-append-le}
use Rattle.words.specs.Bytes.{u16_at, u32_at, blank, padded}
use Rattle.net.specs.Image.{length_in, offset_in, contents_ok, body_in}
use Rattle.net.proofs.Bodies.{within}

-- each of some zeros
get_or-blank : (n k : ℕ) → get_or (blank n) k 0 ≡ 0
get_or-blank zero k = refl
get_or-blank (suc n) zero = refl
get_or-blank (suc n) (suc k) = get_or-blank n k

-- a byte, or a zero after them
get_or_zeros : (b : List ℕ) (n k : ℕ) → get_or (b ++ blank n) k 0 ≡ get_or b k 0
get_or_zeros [] n k = get_or-blank n k
get_or_zeros (x ∷ b) n zero = refl
get_or_zeros (x ∷ b) n (suc k) = get_or_zeros b n k

module _ (n : ℕ) (b : List ℕ) where
  -- n bytes, where there is room
  pub length-padded : length b ≤ n → length (padded n b) ≡ n
  unfolding padded
  length-padded h = simp (length-append, length-replicate) (omega arith)

  -- the bytes are in front
  pub take-padded : take (length b) (padded n b) ≡ b
  unfolding padded
  take-padded = take-append_seam b (blank (n - length b))

  -- a word is the same
  pub u16_at-padded : (k : ℕ) → u16_at (padded n b) k ≡ u16_at b k
  unfolding padded u16_at
  u16_at-padded k = simp get_or_zeros

  -- a u32 is the same
  pub u32_at-padded : (k : ℕ) → u32_at (padded n b) k ≡ u32_at b k
  unfolding u32_at
  u32_at-padded k = simp u16_at-padded

  -- a body is the same
  pub body_in-padded : contents_ok b ≡ true → (k : ℕ) → 1 ≤ k → k < 6 → body_in (padded n b) k ≡ body_in b k
  unfolding body_in padded
  body_in-padded ok k p q =
      let h = within b ok k p q in
      let z : List ℕ = blank (n - length b) in
      let long : length_in b k ≤ length (drop (offset_in b k) b) = simp length-drop (omega arith) in
      rw (u16_at-padded, u32_at-padded, drop-append-le (offset_in b k) b z (omega arith)) (take-append-le (length_in b k) (drop (offset_in b k) b) z long)
