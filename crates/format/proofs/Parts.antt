-- The rule for the variables of an action, which speaks of each of the eight, as the code tests it, with sets: none is bound twice, the set of
-- those used has nothing in common with that of those bound here, and lies in that of those bound before. Assumes nothing.
use mathlib.Core.Path.{◌≡◌, refl, sym, ap, ◌∙◌}
use mathlib.Core.Bool.{Bool, true, false, not, ◌&&◌, ◌||◌}
use mathlib.Core.List.{List, [], ◌∷◌}
use Prim.Native.Nat.{ℕ, ◌^◌, ◌<◌}
use native.Mathlib.Nat.{zero-add}
use native.Mathlib.Omega.{arith}
use lib.Bits.{bit_and, bit_or, and_lt, or_lt}
use lib.Dec.{T, leb, eqb, eqb→eq}
use borrow.Author.Tests.{eqb-true, eq-eqb}
use Rattle.words.specs.Lists.{every, some, count}
use Rattle.words.proofs.First.{every_at, every_of}
use Rattle.words.proofs.Truth.{both_T, T_both, is_T, T_is, same_truth}
use Rattle.net.specs.Net.{fields_of}
use Rattle.net.specs.declared.Operand.{Operand}
use Rattle.net.specs.declared.Action.{Action}
use Rattle.rulebook.specs.Parts.{operand_ok, speaks}
use Rattle.format.specs.Format.{binds, parts_of, variable_ok}
use Rattle.format.specs.Steps.{in_set, bit_of, set_of, apart, bound_by, parts_ok}
use Rattle.format.proofs.Binding.{bit_small, in_bit, set_small, in_set_lem, apart-once, once-apart}
use Rattle.format.proofs.Masks.{in_or, in_and, in_none, same_set}
use Rattle.format.proofs.Programs.{bound_small, in_bound}

-- a target binds nothing
target_binds : (x : Operand) (v : ℕ) → T (operand_ok (0 ∷ 1 ∷ []) x) → speaks 2 v x ≡ false
target_binds x v t = pick (eqb x.tag 2) refl
  where
    pick : (b : Bool) → eqb x.tag 2 ≡ b → (b && eqb x.value v) ≡ false
    pick true e = absurd (rw (eqb-true x.tag 2 e) at (both_T (some (eqb x.tag) (0 ∷ 1 ∷ [])) _ t).0)
    pick false e = refl

-- ---- of one variable: it is used, bound here, bound before
apart_of : (u m b : Bool) → (not u || (not m && b)) ≡ true → (u && m) ≡ false
apart_of false m b e = refl
apart_of true false b e = refl
apart_of true true b e = sym e

within_of : (u m b : Bool) → (not u || (not m && b)) ≡ true → (u && b) ≡ u
within_of false m b e = refl
within_of true false b e = e
within_of true true b e = let z : true ≡ false = sym e in cc

rule_of : (u m b : Bool) → (u && m) ≡ false → (u && b) ≡ u → (not u || (not m && b)) ≡ true
rule_of false m b e f = refl
rule_of true true b e f = let z : true ≡ false = e in cc
rule_of true false b e f = f

module _ (p : List Action) (x : Action) (target : T (operand_ok (0 ∷ 1 ∷ []) x.target)) where
  abbrev fields : List Operand
  fields = fields_of x

  abbrev uses : ℕ
  uses = bit_or (bit_of 1 x.target) (set_of 1 fields)

  uses_small : uses < 2 ^ 8
  uses_small = or_lt 8 (bit_of 1 x.target) (set_of 1 fields) (bit_small 1 x.target) (set_small 1 fields)

  in_uses : (v : ℕ) → v < 8 → in_set uses v ≡ some (speaks 1 v) (parts_of x)
  in_uses v h = in_or (bit_of 1 x.target) (set_of 1 fields) v ∙ rw (in_bit 1 x.target v h, in_set_lem 1 fields v h)

  abbrev used : ℕ → Bool
  used v = some (speaks 1 v) (parts_of x)

  abbrev bound : ℕ → Bool
  bound v = some (speaks 2 v) fields

  -- the rule for variable v
  variable_is : (v : ℕ) → variable_ok p x v ≡ (leb (count (speaks 2 v) fields) 1 && (not (used v) || (not (bound v) && binds p v)))
  variable_is v = rw (target_binds x.target v target, zero-add)

  rule : T (every (variable_ok p x) 8) → (v : ℕ) → v < 8 → T (leb (count (speaks 2 v) fields) 1) × T (not (used v) || (not (bound v) && binds p v))
  rule t v h = both_T (leb (count (speaks 2 v) fields) 1) _ (is_T _ (sym (variable_is v) ∙ every_at (variable_ok p x) 8 t v h))

  forward : T (every (variable_ok p x) 8) → T (parts_ok (bound_by p) x.target fields)
  unfolding parts_ok
  forward t =
      let e : bit_and uses (set_of 2 fields) ≡ 0 =
      same_set 8 _ 0 (and_lt 8 uses (set_of 2 fields) uses_small (set_small 2 fields)) (omega arith) (λ v h.
      in_and uses (set_of 2 fields) v ∙ rw (in_uses v h, in_set_lem 2 fields v h, in_none v) (apart_of (used v) (bound v) (binds p v) (T_is _ (rule t v h).1))) in
      let f : bit_and uses (bound_by p) ≡ uses =
      same_set 8 _ _ (and_lt 8 uses (bound_by p) uses_small (bound_small p)) uses_small (λ v h.
      in_and uses (bound_by p) v ∙ rw (in_uses v h, in_bound p v h) (within_of (used v) (bound v) (binds p v) (T_is _ (rule t v h).1))) in
      T_both (apart 2 fields) _ (once-apart 2 fields (λ v h. (rule t v h).0))
      (T_both (eqb (bit_and uses (set_of 2 fields)) 0) _ (is_T _ (eq-eqb (bit_and uses (set_of 2 fields)) 0 e)) (is_T _ (eq-eqb (bit_and uses (bound_by p)) uses f)))

  back : T (parts_ok (bound_by p) x.target fields) → T (every (variable_ok p x) 8)
  unfolding parts_ok
  back t =
      let q = both_T (apart 2 fields) _ t in
      let r = both_T (eqb (bit_and uses (set_of 2 fields)) 0) _ q.1 in
      every_of (variable_ok p x) 8 (λ v h.
      let e : (used v && bound v) ≡ false =
      rw (in_uses v h, in_set_lem 2 fields v h) at (sym (in_and uses (set_of 2 fields) v) ∙ ap (λ (m : ℕ). in_set m v) (eqb→eq (bit_and uses (set_of 2 fields)) 0 r.0) ∙ in_none v) in
      let f : (used v && binds p v) ≡ used v =
      rw (in_uses v h, in_bound p v h) at (sym (in_and uses (bound_by p) v) ∙ ap (λ (m : ℕ). in_set m v) (eqb→eq (bit_and uses (bound_by p)) uses r.1)) in
      variable_is v ∙ T_is _ (T_both (leb (count (speaks 2 v) fields) 1) _ (apart-once 2 fields q.0 v h) (is_T _ (rule_of (used v) (bound v) (binds p v) e f))))

  -- so the one is the other
  pub parts : every (variable_ok p x) 8 ≡ parts_ok (bound_by p) x.target fields
  parts = same_truth (every (variable_ok p x) 8) (parts_ok (bound_by p) x.target fields) forward back
