-- Runs with the steps that are not granted struck out: on a net, and on memory, call by call. Assumes nothing.
use Rattle.std.specs.Prelude.{◌≡◌, Bool, true, false, List, [], ◌∷◌, ℕ, length, replicate}
use Rattle.net.specs.Net.{State, Rules}
use Rattle.stepping.specs.Step.{step, answers, final, is_granted}
use Rattle.stepping.specs.declared.Answer.{Answer}
use Rattle.stepping.specs.declared.Answer.TheVariants.{Granted}
use Rattle.monitor.specs.Memory.{step_answer, step_memory}

-- a step is kept, or struck out
abbrev pub keep : Bool → ℕ → List ℕ → List ℕ
keep true i l = i ∷ l
keep false i l = l

-- the steps of a run that are granted
abbrev pub granted : Rules → State → List ℕ → List ℕ
granted r s [] = []
granted r s (i ∷ is) = keep (is_granted (step r s i).answer) i (granted r (step r s i).after is)

-- stepped through l from s, every step is granted and the end is t
pub record Follows (r : Rules) (s : State) (l : List ℕ) (t : State) : Type 0 where
  pub all-granted : answers r s l ≡ replicate (length l) Granted
  pub alike : final r s l ≡ t

-- ---- memory: one call of step after the other
abbrev pub stepped : List ℕ → List ℕ → List ℕ
stepped m [] = m
stepped m (i ∷ is) = stepped (step_memory m i) is

abbrev pub step_answers : List ℕ → List ℕ → List Answer
step_answers m [] = []
step_answers m (i ∷ is) = step_answer m i ∷ step_answers (step_memory m i) is

abbrev pub granted_steps : List ℕ → List ℕ → List ℕ
granted_steps m [] = []
granted_steps m (i ∷ is) = keep (is_granted (step_answer m i)) i (granted_steps (step_memory m i) is)
