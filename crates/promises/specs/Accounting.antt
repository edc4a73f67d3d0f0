-- Counting over a run: rows lost, and granted steps of one capability. Assumes nothing.
use Rattle.std.specs.Prelude.{ℕ, ◌+◌, Bool, cond, ◌&&◌, List, [], ◌∷◌, ltb, eqb}
use Rattle.words.specs.Lists.{all}
use Rattle.net.specs.Net.{State, Rules}
use Rattle.net.specs.declared.Site.{Site}
use Rattle.stepping.specs.Step.{Out, next, step, is_granted}

-- the lost counts of all sites together; each of them is below 65,535
abbrev pub lost_in : List Site → ℕ
lost_in [] = 0
lost_in (x ∷ l) = x.lost + lost_in l

abbrev pub lost_below : State → Bool
lost_below s = all (λ x. ltb x.lost 65535) s.sites

-- 1 if the step is granted and its action has this capability, else 0; and how many such steps a run has
abbrev pub granted_one : ℕ → State → ℕ → Out → ℕ
granted_one cap s i o = cond (is_granted o.answer && eqb (next s i).capability cap) 1 0

abbrev pub granted_of : ℕ → Rules → State → List ℕ → ℕ
granted_of cap r s [] = 0
granted_of cap r s (i ∷ is) = granted_one cap s i (step r s i) + granted_of cap r (step r s i).after is

-- the lost counts stay below 65,535 in a run
abbrev pub stay_below : Rules → State → List ℕ → Bool
stay_below r s [] = lost_below s
stay_below r s (i ∷ is) = lost_below s && stay_below r (step r s i).after is
