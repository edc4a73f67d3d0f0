-- Truth values: what a test that holds says of its parts, and back. Each is shown by looking at the cases. Assumes nothing.
use mathlib.Core.Path.{◌≡◌, refl, sym, ◌∙◌}
use mathlib.Core.Bool.{Bool, true, false, not, ◌&&◌, ◌||◌}
use mathlib.Core.List.{List, [], ◌∷◌}
use Prim.Native.Nat.{ℕ, zero, suc, ◌≤◌, ◌<◌}
use native.Mathlib.Omega.{arith}
use lib.Dec.{T, ltb}
use lib.ListN.{get_or}
use borrow.Author.Tests.{lt-ltb, le-ltb, not-true, not-false}
use Rattle.words.specs.Lists.{all_of}

-- from two constructors that would be equal, anything
pub no : {A : Type 0} → ◌≡◌ {A = ℕ} 0 1 → A
no e = absurd (let h : ⊥ = omega arith in h)

pub both_T : (a b : Bool) → T (a && b) → T a × T b
both_T true b t = (tt, t)
both_T false b t = absurd t

pub T_both : (a b : Bool) → T a → T b → T (a && b)
T_both true b s t = t
T_both false b s t = s

pub is_T : (b : Bool) → b ≡ true → T b
is_T b e = rw e tt

pub T_is : (b : Bool) → T b → b ≡ true
T_is true t = refl
T_is false t = absurd t

-- ---- each of some tests: by its place, and joined again
pub part : (l : List Bool) → T (all_of l) → (k : ℕ) → T (get_or l k true)
part [] t k = tt
part (a ∷ []) t zero = t
part (a ∷ []) t (suc k) = tt
part (a ∷ b ∷ l) t zero = (both_T a (all_of (b ∷ l)) t).0
part (a ∷ b ∷ l) t (suc k) = part (b ∷ l) (both_T a (all_of (b ∷ l)) t).1 k

abbrev pub Each : List Bool → Type 0
Each [] = Unit
Each (a ∷ []) = T a
Each (a ∷ b ∷ l) = T a × Each (b ∷ l)

infixr 20 ◌also◌
abbrev pub ◌also◌ : {A B : Type 0} → A → B → A × B
a also b = (a, b)

pub joined : (l : List Bool) → Each l → T (all_of l)
joined [] h = tt
joined (a ∷ []) h = h
joined (a ∷ b ∷ l) h = T_both a (all_of (b ∷ l)) h.0 (joined (b ∷ l) h.1)

-- ---- a test of the code, said of what its operands are by their contracts
pub fails : {r b : Bool} → r ≡ b → not r ≡ true → b ≡ false
fails {r} e t = sym e ∙ not-true r t

pub holds : {r b : Bool} → r ≡ b → not r ≡ false → b ≡ true
holds {r} e t = sym e ∙ not-false r t

pub below : {a b x y : ℕ} → a ≡ x → b ≡ y → a < b → ltb x y ≡ true
below {a} {b} p q h = rw (sym p, sym q) (lt-ltb a b h)

pub not_below : {a b x y : ℕ} → a ≡ x → b ≡ y → b ≤ a → ltb x y ≡ false
not_below {a} {b} p q h = rw (sym p, sym q) (le-ltb a b h)

pub both_left : (a b : Bool) → (a && b) ≡ true → a ≡ true
both_left true b e = refl
both_left false b e = e

pub both_right : (a : Bool) {b : Bool} → (a && b) ≡ true → b ≡ true
both_right true e = e
both_right false e = let z : true ≡ false = sym e in cc

-- a test's answer is that of what it tests
pub so : {r b v : Bool} → r ≡ b → r ≡ v → b ≡ v
so e t = sym e ∙ t

-- two tests that hold of each other are one
pub same_truth : (a b : Bool) → (T a → T b) → (T b → T a) → a ≡ b
same_truth true b f g = sym (T_is b (f tt))
same_truth false true f g = absurd (g tt)
same_truth false false f g = refl

pub or_left : (a b : Bool) → T a → T (a || b)
or_left true b t = tt
or_left false b t = absurd t

pub or_right : (a b : Bool) → T b → T (a || b)
or_right true b t = tt
or_right false b t = t
