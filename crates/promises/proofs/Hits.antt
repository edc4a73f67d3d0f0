-- A granted take or read chose a row at the target that agrees in the count and in every field that does not bind: that is what fitting
-- says, field by field. Assumes nothing.
use mathlib.Core.Path.{◌≡◌, refl, ap}
use mathlib.Core.Bool.{Bool, true, false, ◌||◌}
use mathlib.Core.List.{List, [], ◌∷◌}
use Prim.Native.Nat.{ℕ, zero, suc, ◌<◌}
use native.Mathlib.Nat.{le_of_suc-le-suc, not-suc-le-zero}
use lib.Dec.{T, eqb, eqb→eq}
use lib.ListN.{length, get_or}
use Rattle.words.proofs.Truth.{is_T, both_T}
use Rattle.net.specs.Records.{no_operand}
use Rattle.net.specs.Net.{State, Rules, row_at, is_binding, fields_of, values_of}
use Rattle.net.specs.declared.Operand.{Operand}
use Rattle.net.specs.declared.Row.{Row}
use Rattle.policy.specs.Match.{fits}
use Rattle.policy.specs.declared.Act.{Act}
use Rattle.stepping.specs.Step.{hits, get, asking}
use Rattle.stepping.proofs.StepLaws.{chosen-hits, asked_get}

agree_count : (xs : List Operand) (vs : List ℕ) → T (fits xs vs) → length xs ≡ length vs
unfolding fits
agree_count [] [] t = refl
agree_count [] (v ∷ vs) t = absurd t
agree_count (x ∷ xs) [] t = absurd t
agree_count (x ∷ xs) (v ∷ vs) t = ap suc (agree_count xs vs (both_T (is_binding x || eqb x.value v) (fits xs vs) t).1)

agree_one : (b : Bool) (w v : ℕ) → T (b || eqb w v) → b ≡ false → w ≡ v
agree_one true w v t e = let z : true ≡ false = e in cc
agree_one false w v t e = eqb→eq w v t

agree_each : (xs : List Operand) (vs : List ℕ) → T (fits xs vs) → (j : ℕ) → j < length xs → is_binding (get_or xs j no_operand) ≡ false
    → (get_or xs j no_operand).value ≡ get_or vs j 0
unfolding fits
agree_each [] vs t j h e = absurd (not-suc-le-zero h)
agree_each (x ∷ xs) [] t j h e = absurd t
agree_each (x ∷ xs) (v ∷ vs) t zero h e = agree_one (is_binding x) x.value v (both_T (is_binding x || eqb x.value v) (fits xs vs) t).0 e
agree_each (x ∷ xs) (v ∷ vs) t (suc j) h e = agree_each xs vs (both_T (is_binding x || eqb x.value v) (fits xs vs) t).1 j (le_of_suc-le-suc h) e

-- a hit: the row stands at the target, has the action's count of fields, and equals every field that does not bind
pub record Agrees (act : Act) (x : Row) : Type 0 where
  pub place : x.owner ≡ act.target
  pub count : length (fields_of act.action) ≡ length (values_of x)
  pub each : (j : ℕ) → j < length (fields_of act.action) → is_binding (get_or (fields_of act.action) j no_operand) ≡ false
      → (get_or (fields_of act.action) j no_operand).value ≡ get_or (values_of x) j 0

-- the trainee's first mistake
pub hits_agree : (r : Rules) (s : State) (i : ℕ) (act : Act) (k : ℕ) → asking r s i ≡ get act k → (k < length s.rows) × Agrees act (row_at s.rows k)
hits_agree r s i act k e =
    let c = chosen-hits act s.rows k (asked_get r s i act k e).row in
    let x = row_at s.rows k in
    let t = both_T (eqb x.owner act.target) (fits (fields_of act.action) (values_of x)) (is_T (hits act.target act.action x) c.1) in (
      c.0,
      record {
        place = eqb→eq x.owner act.target t.0;
        count = agree_count (fields_of act.action) (values_of x) t.1;
        each = agree_each (fields_of act.action) (values_of x) t.1;
      },
    )
