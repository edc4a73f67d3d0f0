-- Matching: the fields of an action, its used variables resolved, and the values of a row. Assumes nothing.
use Rattle.std.specs.Prelude.{ℕ, Bool, cond, ◌||◌, List, [], ◌∷◌, eqb, set}
use Rattle.words.specs.Lists.{fit_all}
use Rattle.net.specs.Net.{is_binding}
use Rattle.net.specs.declared.Operand.{Operand}

-- "the same number of fields that equals every field not binding"
unfoldable pub fits : List Operand → List ℕ → Bool
fits = fit_all (λ x v. is_binding x || eqb x.value v)

-- a value handed through two lists, place by place, as far as both go
abbrev pub through : {A B C : Type 0} → (A → B → C → C) → List A → List B → C → C
through f [] l c = c
through f (x ∷ xs) [] c = c
through f (x ∷ xs) (y ∷ l) c = through f xs l (f x y c)

-- the variables, those that the fields bind now bound to the row's values
unfoldable pub binds : Operand → ℕ → List ℕ → List ℕ
binds x v vars = cond (is_binding x) (set vars x.value v) vars

unfoldable pub bound : List Operand → List ℕ → List ℕ → List ℕ
bound = through binds
