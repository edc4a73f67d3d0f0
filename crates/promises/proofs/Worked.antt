-- The worked examples of document 01 that are proved: one table of what the product's definitions give and what is claimed, checked by one
-- theorem, which computes it. Assumes nothing.
use mathlib.Core.Bool.{Bool, cond}
use mathlib.Core.List.{List, [], ◌∷◌}
use Prim.Native.Nat.{ℕ}
use lib.Dec.{T, eqb}
use Rattle.words.specs.Lists.{all}
use Rattle.level.specs.Level.{dominates}
use Rattle.belnap.specs.Belnap.{not_of, and_of, or_of, consensus_of, gather_of, implies_of, before_of, grants}
use Rattle.net.specs.declared.Operand.{Operand}
use Rattle.policy.specs.Match.{fits}
use Rattle.policy.specs.House.{name}

-- a line of the table
pub record Example : Type 0 where
  pub given : ℕ
  pub claimed : ℕ

infix 40 ◌is◌
abbrev pub ◌is◌ : ℕ → ℕ → Example
g is c = record { given = g; claimed = c }

-- a yes or no, as 1 or 0
abbrev pub yes_no : Bool → ℕ
yes_no b = cond b 1 0

abbrev pub bind : ℕ → Operand
bind v = record { tag = 2; value = v }

abbrev pub row : List ℕ
row = 5 ∷ 6 ∷ 9 ∷ []

-- 0 none, 1 yes, 2 no, 3 conflict; a level is 256 times its rank and its categories
abbrev pub examples : List Example
examples =
    (and_of 0 3 is 2)
    ∷ (or_of 0 3 is 1)
    ∷ (not_of 3 is 3)
    ∷ (implies_of 3 2 is 1)
    ∷ (implies_of 0 2 is 2)
    ∷ (before_of 0 2 is 2)
    ∷ (gather_of 1 2 is 3)
    ∷ (yes_no (grants (gather_of 1 2)) is 0)
    ∷ (consensus_of 1 2 is 0)
    ∷ (yes_no (grants (consensus_of 1 2)) is 1)
    ∷ (yes_no (dominates 512 257) is 0)
    ∷ (yes_no (dominates 513 257) is 1)
    ∷ (yes_no (fits (name 5 ∷ name 6 ∷ bind 0 ∷ []) row) is 1)
    ∷ (yes_no (fits (name 5 ∷ name 7 ∷ bind 0 ∷ []) row) is 0)
    ∷ (yes_no (fits (name 5 ∷ bind 0 ∷ []) row) is 0)
    ∷ []

pub worked : T (all (λ x. eqb x.given x.claimed) examples)
unfolding fits dominates
worked = tt
