-- The records of a body one by one, each in its own bytes: what is read at the front of chunk k is what is read in the body where record k
-- starts, since a record is read no further than its width. Assumes nothing.
use mathlib.Core.Path.{◌≡◌, refl, sym, ap, ap₂, ◌∙◌}
use mathlib.Core.List.{List, ◌∷◌, map}
use Prim.Native.Nat.{ℕ, zero, suc, ◌+◌, ◌*◌, ◌/◌, ◌<◌}
use native.Mathlib.Omega.{arith}
use native.Mathlib.Nat.{mul-zero}
use lib.ListN.{length, get_or, take, drop}
use Rattle.std.specs.Simd.{first_chunks}
use Rattle.std.proofs.lemmas.List.{get_or-take, get_or-drop, get_or-map, drop-drop}
use Rattle.words.specs.Bytes.{u16_at}
use Rattle.words.proofs.Lists.{map-take, map-drop}
use Rattle.words.specs.Tables.{build, table_of}
use Rattle.words.proofs.Tables.{build_same, table_at}
use Rattle.net.specs.Records.{node_width, aspect_width, row_width, read_operand, four_words, four_operands, read_node, read_aspect, read_row}
use Rattle.net.specs.Image.{aspects_in, rows_in}
use Rattle.policy.specs.Asked.{Divided}

-- ---- in a stretch of w bytes from byte i on
module _ (w : ℕ) (s : List ℕ) (i : ℕ) where
  abbrev cut : List ℕ
  cut = take w (drop i s)

  byte : (j : ℕ) → j < w → get_or cut j 0 ≡ get_or s (i + j) 0
  byte j h = get_or-take w (drop i s) j 0 h ∙ get_or-drop i s j 0

  two : (j : ℕ) → j + 1 < w → u16_at cut j ≡ u16_at s (i + j)
  unfolding u16_at
  two j h = let e : i + (j + 1) ≡ i + j + 1 = omega arith in rw (byte j (omega arith), byte (j + 1) h, e)

  operand : (j : ℕ) → j + 3 < w → read_operand cut j ≡ read_operand s (i + j)
  unfolding read_operand
  operand j h = let e : i + (j + 2) ≡ i + j + 2 = omega arith in rw (two j (omega arith), two (j + 2) (omega arith), e)

  words : (j : ℕ) → j + 7 < w → four_words cut j ≡ four_words s (i + j)
  unfolding four_words
  words j h =
      let e : i + (j + 2) ≡ i + j + 2 = omega arith in
      let f : i + (j + 4) ≡ i + j + 4 = omega arith in
      let g : i + (j + 6) ≡ i + j + 6 = omega arith in
      rw (two j (omega arith), two (j + 2) (omega arith), two (j + 4) (omega arith), two (j + 6) (omega arith), e, f, g)

  operands : (j : ℕ) → j + 15 < w → four_operands cut j ≡ four_operands s (i + j)
  unfolding four_operands
  operands j h =
      let e : i + (j + 4) ≡ i + j + 4 = omega arith in
      let f : i + (j + 8) ≡ i + j + 8 = omega arith in
      let g : i + (j + 12) ≡ i + j + 12 = omega arith in
      rw (operand j (omega arith), operand (j + 4) (omega arith), operand (j + 8) (omega arith), operand (j + 12) (omega arith), e, f, g)

-- ---- a record is read no further than its width
module _ (s : List ℕ) (i : ℕ) where
  same : i + 0 ≡ i
  same = omega arith

  node_cut : read_node s i ≡ read_node (take node_width (drop i s)) 0
  unfolding read_node
  node_cut =
      let b = byte node_width s i in
      let t = two node_width s i in
      rw (b 0 (omega arith), b 1 (omega arith), t 2 (omega arith), t 4 (omega arith), t 6 (omega arith), operands node_width s i 8 (omega arith), same)

  aspect_cut : read_aspect s i ≡ read_aspect (take aspect_width (drop i s)) 0
  unfolding read_aspect
  aspect_cut =
      let b = byte aspect_width s i in
      let t = two aspect_width s i in
      let o = operand aspect_width s i in
      rw (
        b 0 (omega arith),
        b 1 (omega arith),
        b 2 (omega arith),
        b 3 (omega arith),
        o 4 (omega arith),
        o 8 (omega arith),
        operands aspect_width s i 12 (omega arith),
        t 28 (omega arith),
        t 30 (omega arith),
        same,
      )

  row_cut : read_row s i ≡ read_row (take row_width (drop i s)) 0
  unfolding read_row
  row_cut = rw (byte row_width s i 0 (omega arith), byte row_width s i 1 (omega arith), words row_width s i 2 (omega arith), same)

-- ---- the records of a body, read from their own bytes
module _ {A : Type 0} (read : List ℕ → ℕ → A) (w : ℕ) (local : (s : List ℕ) (i : ℕ) → read s i ≡ read (take w (drop i s)) 0) where
  chunked : (k : ℕ) (s : List ℕ) → map (λ x. read x 0) (first_chunks w k s) ≡ build k (λ j. read s (w * j))
  chunked zero s = refl
  chunked (suc k) s = ap₂ ◌∷◌ first (chunked k (drop w s) ∙ build_same k _ _ (λ j h. later j))
    where
      first : read (take w s) 0 ≡ read s (w * 0)
      first = rw mul-zero (sym (local s 0))

      later : (j : ℕ) → read (drop w s) (w * j) ≡ read s (w * suc j)
      later j =
          let e : w + w * j ≡ w * suc j = omega arith in
          rw (local (drop w s) (w * j), local s (w * suc j), drop-drop (w * j) w s, e)

  -- all of them
  records : (s : List ℕ) → map (λ x. read x 0) (first_chunks w (length s / w) s) ≡ table_of read w s
  unfolding table_of
  records s = chunked (length s / w) s

  -- so many from one on
  stretch : (s : List ℕ) {l : List (List ℕ)} → Divided w s l → (first n : ℕ)
      → map (λ x. read x 0) (take n (drop first l)) ≡ take n (drop first (table_of read w s))
  stretch s {l} divided first n =
      map-take (λ x. read x 0) n (drop first l)
      ∙ ap (take n) (map-drop (λ x. read x 0) first l ∙ ap (drop first) (ap (map (λ x. read x 0)) divided.parts ∙ records s))

  -- record k
  record_at : (s : List ℕ) {l : List (List ℕ)} → Divided w s l → (k : ℕ) (d : List ℕ) → k < length l → read (get_or l k d) 0 ≡ read s (w * k)
  record_at s {l} divided k d h =
      sym (get_or-map (λ x. read x 0) l k d (read d 0) h)
      ∙ ap (λ (m : List A). get_or m k (read d 0)) (ap (map (λ x. read x 0)) divided.parts ∙ records s)
      ∙ table_at read w s k (read d 0) (rw (← divided.many) h)

pub node_of : (s : List ℕ) {l : List (List ℕ)} → Divided node_width s l → (k : ℕ) (d : List ℕ) → k < length l
    → read_node (get_or l k d) 0 ≡ read_node s (node_width * k)
node_of = record_at read_node node_width node_cut

pub aspects_of : (s : List ℕ) {l : List (List ℕ)} → Divided aspect_width s l → (first n : ℕ)
    → map (λ x. read_aspect x 0) (take n (drop first l)) ≡ take n (drop first (aspects_in s))
aspects_of = stretch read_aspect aspect_width aspect_cut

pub rows_of : (s : List ℕ) {l : List (List ℕ)} → Divided row_width s l → (first n : ℕ)
    → map (λ x. read_row x 0) (take n (drop first l)) ≡ take n (drop first (rows_in s))
rows_of = stretch read_row row_width row_cut
