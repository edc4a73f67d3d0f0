-- How many rows a site holds, counted by their numbers; how long the lines are at most; and the parts of an input. Assumes nothing.
use mathlib.Core.Path.{◌≡◌, refl, ap, ◌∙◌}
use mathlib.Core.Bool.{Bool, true, false, cond, and-false}
use mathlib.Core.List.{List, [], ◌∷◌}
use Prim.Native.Nat.{ℕ, zero, suc, ◌+◌, ◌-◌, ◌*◌, ◌/◌, ◌≤◌, ◌<◌}
use native.Mathlib.Nat.{add-zero, zero-add, add_assoc}
use native.Mathlib.Numerals.{add-one, one-add}
use native.Mathlib.Omega.{arith}
use lib.Dec.{eqb, lit<}
use lib.ListN.{length, get_or, take, drop, length-append, length-drop}
use lib.Seq.{get_or-take, drop-cons}
use borrow.Author.Tests.{le-leb, lt-leb}
use denote.Ref.{Bor}
use Rattle.std.specs.Prelude.{Option, None, Some, MatchOption}
use Rattle.std.specs.List.{filter, range_with_len, IsSplitAt}
use Rattle.words.specs.Lists.{count}
use Rattle.words.specs.Tables.{build, table_of}
use Rattle.words.specs.Bytes.{u16_at, u32_at}
use Rattle.net.specs.Records.{row_width, read_row}
use Rattle.net.specs.Net.{site_at, held}
use Rattle.net.specs.Image.{sites_in, rows_in}
use Rattle.net.specs.declared.Site.{Site}
use Rattle.lines.specs.Lines.{spaced, line, lines}
use Rattle.lines.proofs.Texts.{decimal-length, line-length, lines-length}
use Rattle.stepper.specs.Farmstep.{input_line, step_line, site_line, input_ok, image_of, steps_of}

-- ---- rows held
-- as many of the numbers from a on pass a test as of a table's records, if each number passes it with its record
count_built : {A : Type 0} (p : A → Bool) (q : ℕ → Bool) (a n : ℕ) (f : ℕ → A) → ((k : ℕ) → q (a + k) ≡ p (f k))
    → length (filter q (range_with_len a n)) ≡ count p (build n f)
count_built p q a zero f e = refl
count_built p q a (suc n) f e =
    let h = count_built p q (a + 1) n (λ k. f (suc k)) (λ k. rw (add_assoc, one-add) (e (suc k))) in
    let z : q a ≡ p (f zero) = rw add-zero at (e zero) in
    rw z (pick _ (p (f zero)) h)
  where
    pick : (l : List ℕ) {m : ℕ} (b : Bool) → length l ≡ m → length (cond b (a ∷ l) l) ≡ cond b 1 0 + m
    pick l true h = omega (arith, h)
    pick l false h = omega (arith, h)

-- the rows whose owner is a site
pub held_by : (rows : List ℕ) (site : ℕ)
    → length (filter (λ k. eqb (read_row rows (row_width * k)).owner site) (range_with_len 0 (length rows / row_width))) ≡ held site (rows_in rows)
unfolding table_of
held_by rows site =
    count_built (λ x. eqb x.owner site) (λ k. eqb (read_row rows (row_width * k)).owner site) 0 (length rows / row_width) (λ k. read_row rows (row_width * k))
    (λ k. rw zero-add)

-- ---- lines
pub step-length : (i site answer : ℕ) → length (step_line i site answer) ≤ 63
unfolding step_line
step-length i site answer = rw length-append (omega (arith, decimal-length i, line-length [] (site ∷ answer ∷ [])))

pub site_length : (x : Site) (rows : ℕ) → length (site_line x rows) ≤ 110
unfolding site_line
site_length x rows = line-length (115 ∷ 105 ∷ 116 ∷ 101 ∷ []) (x.name ∷ x.hs ∷ x.ho ∷ rows ∷ x.lost ∷ [])

-- so many lines end by then
pub steps_length : (steps given : List ℕ) (n : ℕ) → length (lines n (λ i. step_line i (get_or steps i 0) (get_or given i 0))) ≤ 63 * n
steps_length steps given n =
    lines-length (λ i. step_line i (get_or steps i 0) (get_or given i 0)) 63 n (λ i h. step-length i (get_or steps i 0) (get_or given i 0))

pub sites_length : (sites rows : List ℕ) (n : ℕ) → length (lines n (λ k. site_line (site_at (sites_in sites) k) (held k (rows_in rows)))) ≤ 110 * n
sites_length sites rows n =
    lines-length (λ k. site_line (site_at (sites_in sites) k) (held k (rows_in rows))) 110 n (λ k h. site_length (site_at (sites_in sites) k) (held k (rows_in rows)))

-- ---- a list gone through: n elements were taken, and x is the next
pub record IsNext (l : List ℕ) (n x : ℕ) (rest : List ℕ) : Type 0 where
  pub within : n < length l
  pub here : get_or l n 0 ≡ x
  pub after : rest ≡ drop (n + 1) l

pub next_of : {l rest : List ℕ} {n x : ℕ} → drop n l ≡ x ∷ rest → IsNext l n x rest
next_of {l} {rest} {n} {x} e =
    let h : n < length l = omega (arith, length-drop n l, ap length e) in
    let d = drop-cons l n 0 h in
    record { within = h; here = cc; after = rw add-one (cc) }

-- ---- the input: its length, its image, its steps
-- the length is that of the first four bytes alone
u32_front : (s : List ℕ) → u32_at (take 4 s) 0 ≡ u32_at s 0
unfolding u32_at u16_at
u32_front s = simp (get_or-take 4 s 0 0 (lit< tt), get_or-take 4 s 1 0 (lit< tt), get_or-take 4 s 2 0 (lit< tt), get_or-take 4 s 3 0 (lit< tt))

module _ (s : List ℕ) where
  pub long_refused : 60000 < length s → input_ok s ≡ false
  unfolding input_ok
  long_refused h = simp (lt-leb (length s) 60000 h)

  pub short_refused : length s < 4 → input_ok s ≡ false
  unfolding input_ok
  short_refused h = simp (lt-leb 4 (length s) h, and-false)

  -- what follows the length, split where the image ends
  pub split_right : (rest : List ℕ) {n : ℕ} (r : Option (Bor (List ℕ) × Bor (List ℕ))) → length s ≤ 60000 → 4 ≤ length s → rest ≡ drop 4 s
      → n ≡ u32_at (take 4 s) 0 → MatchOption r (length rest < n) (λ p. IsSplitAt rest n p.0.now p.1.now)
      → MatchOption r (input_ok s ≡ false) (λ p. (input_ok s ≡ true) × (p.0.now ≡ image_of s) × (p.1.now ≡ steps_of s))
  unfolding input_ok
  split_right rest {n} None most four is size h =
      let e : n ≡ u32_at s 0 = size ∙ u32_front s in
      simp (lt-leb (u32_at s 0) (length s - 4) (omega (arith, length-drop 4 s, ap length is)), and-false)
  split_right rest {n} (Some p) most four is size h =
      let e : n ≡ u32_at s 0 = size ∙ u32_front s in (
        simp (le-leb _ _ most, le-leb _ _ four, le-leb (u32_at s 0) (length s - 4) (omega (arith, length-drop 4 s, ap length is, h.0))),
        rw (← is, ← e) h.1,
        rw (← is, ← e) h.2,
      )

-- what stands for an input that is not in order: the word and the line's end
pub input_line_lem : input_line ≡ 105 ∷ 110 ∷ 112 ∷ 117 ∷ 116 ∷ 10 ∷ []
unfolding line spaced
input_line_lem = refl
