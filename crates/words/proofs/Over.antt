-- The loops that write an index of owners put one list over another, from the front on: each turn puts one element more. Assumes nothing.
use mathlib.Core.Path.{◌≡◌, refl, sym, ap, ◌∙◌}
use mathlib.Core.Bool.{Bool, true, false, cond, not}
use mathlib.Core.List.{List, [], ◌∷◌, ◌++◌, append-nil}
use Prim.Native.Nat.{ℕ, zero, suc, ◌+◌, ◌-◌, ◌≤◌, ◌<◌}
use native.Mathlib.Numerals.{add-one}
use native.Mathlib.Omega.{arith}
use lib.Dec.{ltb, eqb}
use Rattle.std.specs.Prelude.{min}
use lib.ListN.{length, get_or, set, take, drop, length-drop, drop_of_length-le, take-append-drop}
use lib.Seq.{take-suc, take_all, drop-cons, append_snoc, set_at, take_at, drop-drop, get_or-drop, length-take-le}
use borrow.Author.Tests.{lt-ltb, le-ltb, ne_eqb}
use borrow.Rule.Slice.PartMut.{mid_of, put_mid}
use Rattle.words.specs.Tables.{build, starts_more, starts_less, starts_moved}
use Rattle.words.proofs.Shifts.{kept}
use Rattle.words.proofs.Tables.{length-build, get_or-build}

-- the first j elements of b are there
abbrev pub over : List ℕ → List ℕ → ℕ → List ℕ
over m b j = take j b ++ drop j m

-- where the two agree there is nothing to put
over_same : (m b : List ℕ) (j : ℕ) → length m ≡ length b → ((k : ℕ) → k < j → k < length m → get_or b k 0 ≡ get_or m k 0) → m ≡ over m b j
over_same m b zero e f = refl
over_same [] [] (suc j) e f = refl
over_same [] (y ∷ b) (suc j) e f = absurd (let z : ⊥ = omega arith in z)
over_same (x ∷ m) [] (suc j) e f = absurd (let z : ⊥ = omega arith in z)
over_same (x ∷ m) (y ∷ b) (suc j) e f =
    rw (f 0 (omega arith) (omega arith)) (ap (λ (l : List ℕ). x ∷ l) (over_same m b j (omega arith) (λ k h i. f (suc k) (omega arith) (omega arith))))

-- one element more
pub over_turn : (m₀ m b : List ℕ) (j v : ℕ) → j < length m₀ → j < length b → get_or b j 0 ≡ v → m ≡ over m₀ b j → set m j v ≡ over m₀ b (j + 1)
over_turn m₀ m b j v h k g e =
    rw (e, ← g, drop-cons m₀ j 0 h, set_at (take j b) (get_or m₀ j 0) (drop (suc j) m₀) (get_or b j 0) j (length-take-le j b (omega arith)), add-one, take-suc b j 0 k)
    (sym (append_snoc (take j b) (get_or b j 0) (drop (suc j) m₀)))

-- all of them
pub over_done : (m₀ m b : List ℕ) (j : ℕ) → length m₀ ≤ j → length b ≤ j → m ≡ over m₀ b j → m ≡ b
over_done m₀ m b j h k e = rw (e, drop_of_length-le m₀ h, take_all j b k) (append-nil b)

-- what is not put yet is the old list's
pub over_next : (m₀ m b : List ℕ) (j : ℕ) → j ≤ length b → m ≡ over m₀ b j → get_or m j 0 ≡ get_or m₀ j 0
over_next m₀ m b j h e = rw (e, kept (take j b) m₀ j j (length-take-le j b h) (omega arith))

-- ---- the starts past an owner changed, as `starts_more` and `starts_less` have them
unfoldable pub changed : (ℕ → ℕ) → ℕ → List ℕ → List ℕ
changed g owner l = build 33 (λ t. cond (ltb owner t) (g (get_or l t 0)) (get_or l t 0))

pub more_changed : (owner : ℕ) (l : List ℕ) → changed (λ n. n + 1) owner l ≡ starts_more owner l
unfolding changed starts_more
more_changed owner l = refl

pub less_changed : (owner : ℕ) (l : List ℕ) → changed (λ n. n - 1) owner l ≡ starts_less owner l
unfolding changed starts_less
less_changed owner l = refl

-- one more, or one fewer
abbrev pub by_one : Bool → ℕ → ℕ
by_one up n = cond up (n + 1) (n - 1)

pub moved_changed : (up : Bool) (owner : ℕ) (l : List ℕ) → changed (by_one up) owner l ≡ starts_moved up owner l
moved_changed true owner l = more_changed owner l
moved_changed false owner l = less_changed owner l

-- the truth that a const parameter's number stands for
abbrev pub up : ℕ → Bool
up n = not (eqb n 0)

pub up_true : (n : ℕ) → (n ≡ 0 → ⊥) → up n ≡ true
up_true n h = rw (ne_eqb n 0 h)

pub up_false : (n : ℕ) → n ≡ 0 → up n ≡ false
up_false n e = rw e

-- the first of the starts past an owner, or 33; those from it on
abbrev pub past : ℕ → ℕ
past owner = min owner 32 + 1

abbrev pub later : ℕ → List ℕ → List ℕ
later owner l = drop (past owner) l

-- the first j of those past the owner are changed
abbrev pub Moved : (ℕ → ℕ) → ℕ → List ℕ → List ℕ → ℕ → Type 0
Moved g owner m₀ m j = m ≡ over (later owner m₀) (later owner (changed g owner m₀)) j

pub length-later : (owner : ℕ) (l : List ℕ) → length l ≡ 33 → length (later owner l) ≡ 33 - past owner
length-later owner l e = length-drop (past owner) l ∙ ap (λ (n : ℕ). n - past owner) e

-- what is lent of the starts is all of those past the owner
pub later_lent : (owner : ℕ) (l : List ℕ) → length l ≡ 33 → mid_of (past owner) (33 - past owner) l ≡ later owner l
later_lent owner l e = take_all (33 - past owner) (later owner l) (omega (arith, length-later owner l e))

module _ (g : ℕ → ℕ) (owner : ℕ) (m₀ : List ℕ) (long : length m₀ ≡ 33) where
  pub changed-length : length (changed g owner m₀) ≡ 33
  unfolding changed
  changed-length = length-build 33 (λ t. cond (ltb owner t) (g (get_or m₀ t 0)) (get_or m₀ t 0))

  changed_at : (t : ℕ) → t < 33 → get_or (changed g owner m₀) t 0 ≡ cond (ltb owner t) (g (get_or m₀ t 0)) (get_or m₀ t 0)
  unfolding changed
  changed_at t h = get_or-build 33 (λ u. cond (ltb owner u) (g (get_or m₀ u 0)) (get_or m₀ u 0)) t 0 h

  long_later : length (later owner (changed g owner m₀)) ≡ 33 - past owner
  long_later = length-later owner (changed g owner m₀) changed-length

  -- the next is still the old one; one turn changes it; then all are changed
  pub later_next : (m : List ℕ) (j : ℕ) → past owner + j < 33 → Moved g owner m₀ m j → get_or m j 0 ≡ get_or m₀ (past owner + j) 0
  later_next m j h e =
      over_next (later owner m₀) m (later owner (changed g owner m₀)) j (omega (arith, long_later)) e ∙ get_or-drop (past owner) m₀ j 0

  pub later_turn : (m : List ℕ) (j v : ℕ) → past owner + j < 33 → v ≡ g (get_or m j 0) → Moved g owner m₀ m j → Moved g owner m₀ (set m j v) (j + 1)
  later_turn m j v h q e =
      over_turn (later owner m₀) m (later owner (changed g owner m₀)) j v (omega (arith, length-later owner m₀ long)) (omega (arith, long_later))
      (get_or-drop (past owner) (changed g owner m₀) j 0
      ∙ changed_at (past owner + j) (omega arith)
      ∙ rw (lt-ltb owner (past owner + j) (omega arith))
      (sym (q ∙ ap g (later_next m j h e)))) e

  -- up to it nothing is
  later_put : (k : ℕ) → k ≡ 33 - past owner → put_mid (past owner) k m₀ (later owner (changed g owner m₀)) ≡ changed g owner m₀
  later_put k e =
      let same : m₀ ≡ over m₀ (changed g owner m₀) (past owner) =
      over_same m₀ (changed g owner m₀) (past owner) (long ∙ sym changed-length)
      (λ k h i. changed_at k (omega arith) ∙ rw (le-ltb owner k (omega arith))) in
      let within = length-take-le (past owner) (changed g owner m₀) (omega (arith, changed-length)) in
      let front : take (past owner) m₀ ≡ take (past owner) (changed g owner m₀) =
      ap (take (past owner)) same ∙ take_at (take (past owner) (changed g owner m₀)) (later owner m₀) (past owner) within in
      let end : 33 ≤ past owner + k = omega arith in
      let none : drop (past owner + k) m₀ ≡ [] = drop_of_length-le m₀ {i = past owner + k} (omega arith) in
      rw (front, drop-drop, none, append-nil)
      (take-append-drop (past owner) (changed g owner m₀))

  pub later_done : (m : List ℕ) (j k : ℕ) → 33 ≤ past owner + j → k ≡ 33 - past owner → Moved g owner m₀ m j
      → put_mid (past owner) k m₀ m ≡ changed g owner m₀
  later_done m j k h q e =
      let done : m ≡ later owner (changed g owner m₀) =
      over_done (later owner m₀) m (later owner (changed g owner m₀)) j (omega (arith, length-later owner m₀ long)) (omega (arith, long_later)) e in
      ap (put_mid (past owner) k m₀) done ∙ later_put k q
