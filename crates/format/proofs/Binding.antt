-- The variables of the parts of an action, as sets: a set has what some part speaks of, no variable is there twice exactly if the bits of the
-- parts are apart, and four fields are looked at one by one, in use or not where they are good. Assumes nothing.
use mathlib.Core.Path.{◌≡◌, refl, sym, ap, ◌∙◌}
use mathlib.Core.Bool.{Bool, true, false, cond, not, ◌&&◌, ◌||◌, and-true}
use mathlib.Core.List.{List, [], ◌∷◌}
use Prim.Native.Nat.{ℕ, zero, suc, ◌+◌, ◌^◌, ◌≤◌, ◌<◌}
use native.Mathlib.Nat.{zero-add}
use native.Mathlib.Omega.{arith}
use lib.Bits.{bit_and, bit_or, or_lt, and_lt, or_zero_r, and_zero_r}
use lib.Dec.{T, ltb, leb, eqb, ltb→lt, leb→le, le→leb, eqb→eq}
use lib.ListN.{length, get_or, take, drop}
use lib.Pow.{pow-lt}
use borrow.Author.Tests.{eqb-true, eqb-false, ne_eqb, eq-eqb, ltb-true, ltb-false}
use Rattle.words.specs.Lists.{all, some, count}
use Rattle.words.proofs.Lists.{all_get_d}
use Rattle.words.proofs.Truth.{both_T, T_both, is_T, both_right, or_right}
use Rattle.words.proofs.Numbers.{written}
use Rattle.net.specs.Records.{no_operand}
use Rattle.net.specs.Net.{fields_of}
use Rattle.net.specs.declared.Operand.{Operand}
use Rattle.net.specs.declared.Action.{Action}
use Rattle.rulebook.specs.Parts.{tags_of, operand_ok, operands_ok, unused, speaks}
use Rattle.rulebook.proofs.Cuts.{ranged, good_ranged, every_field}
use Rattle.format.specs.Steps.{in_set, Ranged, EachRanged, bit_of, set_of, apart, parts_ok, operands_good}
use Rattle.format.proofs.Masks.{in_or, in_and, in_none, in_one, same_set}

-- ---- how often a test holds
none_count : {A : Type 0} (p : A → Bool) (l : List A) → not (some p l) ≡ eqb (count p l) 0
none_count p [] = refl
none_count p (x ∷ l) = pick (p x) (none_count p l)
  where
    pick : (b : Bool) → not (some p l) ≡ eqb (count p l) 0 → not (b || some p l) ≡ eqb (cond b 1 0 + count p l) 0
    pick true e = sym (ne_eqb (1 + count p l) 0 (λ z. omega arith))
    pick false e = rw zero-add e

-- once more, at most once in all: not before
once_more : (a s : Bool) (n : ℕ) → not s ≡ eqb n 0 → (a && s) ≡ false → n ≤ 1 → cond a 1 0 + n ≤ 1
once_more true s n e f h = omega (arith, eqb-true n 0 (sym e ∙ ap not f))
once_more false s n e f h = omega arith

once_less : (a s : Bool) (n : ℕ) → not s ≡ eqb n 0 → cond a 1 0 + n ≤ 1 → (a && s) ≡ false
once_less true true n e h = absurd (let z : ⊥ = eqb-false n 0 (sym e) (omega arith) in z)
once_less true false n e h = refl
once_less false s n e h = refl

-- ---- one part
module _ (tag : ℕ) where
  abbrev has : Operand → Bool
  has x = eqb x.tag tag && ltb x.value 8

  pub bit_small : (x : Operand) → bit_of tag x < 2 ^ 8
  unfolding bit_of
  bit_small x = pick (has x) refl
    where
      pick : (b : Bool) → has x ≡ b → cond b (2 ^ x.value) 0 < 2 ^ 8
      pick true e = pow-lt (ltb-true x.value 8 (both_right (eqb x.tag tag) e))
      pick false e = omega arith

  pub in_bit : (x : Operand) (v : ℕ) → v < 8 → in_set (bit_of tag x) v ≡ speaks tag v x
  unfolding bit_of
  in_bit x v h = pick (eqb x.tag tag) (ltb x.value 8) refl
    where
      pick : (a b : Bool) → ltb x.value 8 ≡ b → in_set (cond (a && b) (2 ^ x.value) 0) v ≡ (a && eqb x.value v)
      pick false b e = in_none v
      pick true true e = in_one x.value v
      pick true false e = in_none v ∙ sym (ne_eqb x.value v (λ z. omega (arith, ltb-false x.value 8 e)))

  -- ---- some parts
  pub set_small : (l : List Operand) → set_of tag l < 2 ^ 8
  unfolding set_of
  set_small [] = omega arith
  set_small (x ∷ l) = or_lt 8 (bit_of tag x) (set_of tag l) (bit_small x) (set_small l)

  pub in_set_lem : (l : List Operand) (v : ℕ) → v < 8 → in_set (set_of tag l) v ≡ some (speaks tag v) l
  unfolding set_of
  in_set_lem [] v h = in_none v
  in_set_lem (x ∷ l) v h = in_or (bit_of tag x) (set_of tag l) v ∙ rw (in_bit x v h, in_set_lem l v h)

  -- ---- none twice
  abbrev once : List Operand → ℕ → Bool
  once l v = leb (count (speaks tag v) l) 1

  pub apart-once : (l : List Operand) → T (apart tag l) → (v : ℕ) → v < 8 → T (once l v)
  unfolding apart
  apart-once [] t v h = tt
  apart-once (x ∷ l) t v h =
      let s = both_T (eqb (bit_and (bit_of tag x) (set_of tag l)) 0) (apart tag l) t in
      let e : (speaks tag v x && some (speaks tag v) l) ≡ false =
      rw (in_bit x v h, in_set_lem l v h) at (sym (in_and (bit_of tag x) (set_of tag l) v) ∙ ap (λ (m : ℕ). in_set m v) (eqb→eq (bit_and (bit_of tag x) (set_of tag l)) 0 s.0) ∙ in_none v) in
      let n = count (speaks tag v) l in
      le→leb (count (speaks tag v) (x ∷ l)) 1 (once_more (speaks tag v x) (some (speaks tag v) l) n (none_count (speaks tag v) l) e (leb→le n 1 (apart-once l s.1 v h)))

  pub once-apart : (l : List Operand) → ((v : ℕ) → v < 8 → T (once l v)) → T (apart tag l)
  unfolding apart
  once-apart [] f = tt
  once-apart (x ∷ l) f =
      let g : (v : ℕ) → v < 8 → (cond (speaks tag v x) 1 0 + count (speaks tag v) l ≤ 1) = λ v h. leb→le (count (speaks tag v) (x ∷ l)) 1 (f v h) in
      let e : bit_and (bit_of tag x) (set_of tag l) ≡ 0 =
      same_set 8 _ 0 (and_lt 8 (bit_of tag x) (set_of tag l) (bit_small x) (set_small l)) (omega arith) (λ v h.
      in_and (bit_of tag x) (set_of tag l) v
      ∙ rw (in_bit x v h, in_set_lem l v h, in_none v) (once_less (speaks tag v x) (some (speaks tag v) l) (count (speaks tag v) l) (none_count (speaks tag v) l) (g v h))) in
      T_both (eqb (bit_and (bit_of tag x) (set_of tag l)) 0) (apart tag l) (is_T _ (eq-eqb (bit_and (bit_of tag x) (set_of tag l)) 0 e))
      (once-apart l (λ v h. le→leb (count (speaks tag v) l) 1 (omega (arith, g v h))))

  -- ---- an array of four fields, from the bits that were found
  abbrev pub apart_four : ℕ → ℕ → ℕ → ℕ → Bool
  apart_four a b c d = eqb (bit_and a (bit_or b (bit_or c d))) 0 && (eqb (bit_and b (bit_or c d)) 0 && eqb (bit_and c d) 0)

  module _ (f : List Operand) (four : length f ≡ 4) {p q r s : ℕ} (a : p ≡ bit_of tag (get_or f 0 no_operand))
      (b : q ≡ bit_of tag (get_or f 1 no_operand)) (c : r ≡ bit_of tag (get_or f 2 no_operand)) (d : s ≡ bit_of tag (get_or f 3 no_operand)) where
    pub set_steps : bit_or p (bit_or q (bit_or r s)) ≡ set_of tag f
    unfolding set_of
    set_steps = rw (a, b, c, d) (simp or_zero_r at (ap (set_of tag) (written no_operand 4 f four)))

    pub apart_steps : apart_four p q r s ≡ apart tag f
    unfolding apart set_of
    apart_steps = rw (a, b, c, d) (simp (or_zero_r, and_zero_r, and-true) at (ap (apart tag) (written no_operand 4 f four)))

-- ---- good operands: those with the tag of a variable have one of the eight, and those not in use are no variable
module _ (tag : ℕ) (low : 0 < tag) where
  unused_other : (x : Operand) → T (unused x) → eqb x.tag tag ≡ false
  unused_other x t =
      let q = eqb→eq x.tag 0 (both_T (eqb x.tag 0) (eqb x.value 0) t).0 in
      ne_eqb x.tag tag (λ z. omega arith)

  no_bit : (x : Operand) → T (unused x) → bit_of tag x ≡ 0
  unfolding bit_of
  no_bit x t = rw (unused_other x t)

  set_none : (l : List Operand) → T (all unused l) → set_of tag l ≡ 0
  unfolding set_of
  set_none [] t = refl
  set_none (x ∷ l) t = let q = both_T (unused x) (all unused l) t in rw (no_bit x q.0, set_none l q.1)

  apart_none : (l : List Operand) → T (all unused l) → apart tag l ≡ true
  unfolding apart
  apart_none [] t = refl
  apart_none (x ∷ l) t = let q = both_T (unused x) (all unused l) t in rw (no_bit x q.0, apart_none l q.1)

  set_used : (n : ℕ) (l : List Operand) → T (all unused (drop n l)) → set_of tag (take n l) ≡ set_of tag l
  unfolding set_of
  set_used zero l t = sym (set_none l t)
  set_used (suc n) [] t = refl
  set_used (suc n) (x ∷ l) t = ap (bit_or (bit_of tag x)) (set_used n l t)

  apart_used : (n : ℕ) (l : List Operand) → T (all unused (drop n l)) → apart tag (take n l) ≡ apart tag l
  unfolding apart
  apart_used zero l t = sym (apart_none l t)
  apart_used (suc n) [] t = refl
  apart_used (suc n) (x ∷ l) t = rw (set_used n l t, apart_used n l t)

  -- a part with the tag, of good ones, speaks of one of the eight
  ranged-value : (x : Operand) → T (ranged tag x) → Ranged tag x
  ranged-value x t e = ltb→lt x.value 8 (rw (eq-eqb x.tag tag e) at t)

  module _ (high : tag ≤ 2) (tags : List ℕ) where
    pub operand_ranged : (x : Operand) → T (operand_ok tags x) → Ranged tag x
    operand_ranged x t = ranged-value x (good_ranged tag low tags x high t)

    operands_ranged : (n : ℕ) (l : List Operand) → T (operands_ok tags n l) → EachRanged tag l
    operands_ranged n l t k = ranged-value (get_or l k no_operand) (all_get_d (ranged tag) l k no_operand (every_field tag low high tags [] n l t) (or_right (not (eqb 0 tag)) true tt))

-- ---- an action with good operands: its four fields speak of what those in use do
module _ (x : Action) (good : T (operands_good x)) where
  abbrev tags : List ℕ
  tags = tags_of (not (eqb x.capability 1)) false false

  rest : T (all unused (drop x.count x.fields))
  rest = (both_T (all (operand_ok tags) (take x.count x.fields)) _ good).1

  pub fields-ranged : (tag : ℕ) → 0 < tag → tag ≤ 2 → EachRanged tag x.fields
  fields-ranged tag low high = operands_ranged tag low high tags x.count x.fields good

  pub fields-set : set_of 2 x.fields ≡ set_of 2 (fields_of x)
  fields-set = sym (set_used 2 (omega arith) x.count x.fields rest)

  pub fields_parts : (bound : ℕ) (target : Operand) → parts_ok bound target x.fields ≡ parts_ok bound target (fields_of x)
  unfolding parts_ok
  fields_parts bound target =
      sym (rw (set_used 1 (omega arith) x.count x.fields rest, set_used 2 (omega arith) x.count x.fields rest, apart_used 2 (omega arith) x.count x.fields rest))
