-- What the actions of a program bind, action by action and as a set: one more action binds what it binds as well, and no action binds
-- nothing. Assumes nothing.
use mathlib.Core.Path.{◌≡◌, refl, sym, ap, ◌∙◌}
use mathlib.Core.Bool.{Bool, ◌||◌, or-false}
use mathlib.Core.List.{List, [], ◌∷◌, ◌++◌}
use Prim.Native.Nat.{ℕ, ◌+◌, ◌^◌, ◌<◌}
use native.Mathlib.Numerals.{add-one}
use native.Mathlib.Omega.{arith}
use lib.Bits.{bit_or, or_lt}
use lib.ListN.{length, get_or, take}
use lib.Seq.{take-suc}
use Rattle.words.specs.Lists.{some}
use Rattle.words.proofs.Lists.{some-append}
use Rattle.net.specs.Net.{fields_of}
use Rattle.net.specs.declared.Action.{Action}
use Rattle.rulebook.specs.Parts.{speaks}
use Rattle.format.specs.Format.{binds}
use Rattle.format.specs.Steps.{in_set, set_of, bound_by}
use Rattle.format.proofs.Binding.{in_set_lem, set_small}
use Rattle.format.proofs.Masks.{in_or, in_none, same_set}

-- one action more
pub binds_more : (p : List Action) (x : Action) (v : ℕ) → binds (p ++ (x ∷ [])) v ≡ (binds p v || some (speaks 2 v) (fields_of x))
binds_more p x v =
    some-append (λ y. some (speaks 2 v) (fields_of y)) p (x ∷ []) ∙ ap (λ (b : Bool). binds p v || b) (or-false (some (speaks 2 v) (fields_of x)))

-- ---- as sets
pub bound_none : bound_by [] ≡ 0
unfolding bound_by
bound_none = refl

pub bound_small : (p : List Action) → bound_by p < 2 ^ 8
unfolding bound_by
bound_small [] = omega arith
bound_small (x ∷ p) = or_lt 8 (set_of 2 (fields_of x)) (bound_by p) (set_small 2 (fields_of x)) (bound_small p)

pub in_bound : (p : List Action) (v : ℕ) → v < 8 → in_set (bound_by p) v ≡ binds p v
unfolding bound_by
in_bound [] v h = in_none v
in_bound (x ∷ p) v h = in_or (set_of 2 (fields_of x)) (bound_by p) v ∙ rw (in_set_lem 2 (fields_of x) v h, in_bound p v h)

pub bound_more : (p : List Action) (x : Action) → bit_or (bound_by p) (set_of 2 (fields_of x)) ≡ bound_by (p ++ (x ∷ []))
bound_more p x =
    let s = set_of 2 (fields_of x) in
    same_set 8 _ _ (or_lt 8 (bound_by p) s (bound_small p) (set_small 2 (fields_of x))) (bound_small (p ++ (x ∷ []))) (λ v h.
    in_or (bound_by p) s v ∙ rw (in_bound p v h, in_set_lem 2 (fields_of x) v h) (sym (in_bound (p ++ (x ∷ [])) v h ∙ binds_more p x v)))

pub bound_next : (l : List Action) (k : ℕ) (d : Action) → k < length l → bit_or (bound_by (take k l)) (set_of 2 (fields_of (get_or l k d))) ≡ bound_by (take (k + 1) l)
bound_next l k d h = rw (add-one k, take-suc l k d h) (bound_more (take k l) (get_or l k d))
