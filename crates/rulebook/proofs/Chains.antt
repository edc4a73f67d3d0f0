-- Tests joined by `&&`, as the code goes through them: it goes on where one holds, and its answer is that of the one that fails, or of the
-- last. Assumes nothing.
use mathlib.Core.Path.{◌≡◌, sym, ◌∙◌}
use mathlib.Core.Bool.{Bool, true, false, ◌&&◌}
use mathlib.Core.List.{List, [], ◌∷◌}
use Rattle.words.specs.Lists.{all_of}

-- r is the answer of the code to the tests of a list, each said by what it ensures
pub data Tried : Bool → List Bool → Type 0 where
  last : {r b : Bool} → r ≡ b → Tried r (b ∷ [])
  on : {r b s : Bool} {l : List Bool} → r ≡ b → r ≡ true → Tried s l → Tried s (b ∷ l)
  stop : {r b : Bool} {l : List Bool} → r ≡ b → r ≡ false → Tried r (b ∷ l)

pub tried : {r : Bool} (l : List Bool) → Tried r l → r ≡ all_of l
tried {r = r} [] x = elim x [ ]
tried (b ∷ []) (last e) = e
tried {r = r} (b ∷ []) (on e t h) = elim h [ ]
tried (b ∷ c ∷ l) (on e t h) = rw (sym e ∙ t) (tried (c ∷ l) h)
tried (b ∷ []) (stop e t) = e
tried (b ∷ c ∷ l) (stop e t) = rw (sym e ∙ t) t

-- tests joined by `&`, each said by what it ensures
pub both : {a b x y : Bool} → a ≡ x → b ≡ y → (a && b) ≡ (x && y)
both p q = cc
