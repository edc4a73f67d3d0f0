-- The public calls on memory: steps, runs, loads and saves fit together. Memory that holds a net is the memory of that net, and a step keeps it
-- so; what is said of nets is thus said of memory. Assumes nothing.
use Rattle.std.specs.Prelude.{Ok}
use mathlib.Core.Path.{◌≡◌, refl, sym, ap, ◌∙◌}
use mathlib.Core.Bool.{true, false}
use mathlib.Core.List.{List, [], ◌∷◌, ◌++◌, map}
use Prim.Native.Nat.{ℕ}
use lib.Dec.{T}
use lib.ListN.{length, drop, replicate}
use Rattle.words.specs.Bytes.{Bytes}
use Rattle.net.specs.Net.{State, Rules}
use Rattle.format.specs.Format.{well_formed}
use Rattle.policy.specs.Adding.{Adds}
use Rattle.stepping.specs.Step.{step, answers, final, number_of, is_granted}
use Rattle.stepping.specs.declared.Answer.{Answer}
use Rattle.stepping.specs.declared.Answer.TheVariants.{Granted, Denied}
use Rattle.stepping.proofs.StepLaws.{not_granted_leaves}
use Rattle.stepping.proofs.Keeps.{step_keeps, run_keeps}
use Rattle.monitor.specs.Memory.{holds_net, rules_held, state_held, memory_with, step_answer, step_memory, run_answer, run_memory, run_answers}
use Rattle.monitor.proofs.Holding.{held_formed, held_memory, memory_holds, rules_back, state_back}
use Rattle.promises.specs.Runs.{keep, granted, stepped, step_answers, granted_steps}
use Rattle.promises.proofs.More.{more_deny, more_follow}

-- ---- the memory of a well-formed net, stepped
module _ (r : Rules) where
  abbrev Formed : State → Type 0
  Formed s = T (well_formed (record { state = s; rules = r }))

  answer_is : (s : State) → Formed s → (i : ℕ) → step_answer (memory_with r s) i ≡ (step r s i).answer
  unfolding step_answer
  answer_is s f i = rw (memory_holds r s f, rules_back r s f, state_back r s f)

  memory_is : (s : State) → Formed s → (i : ℕ) → step_memory (memory_with r s) i ≡ memory_with r (step r s i).after
  unfolding step_memory
  memory_is s f i = rw (memory_holds r s f, rules_back r s f, state_back r s f)

  stepped_is : (s : State) → Formed s → (is : List ℕ) → stepped (memory_with r s) is ≡ memory_with r (final r s is)
  stepped_is s f [] = refl
  stepped_is s f (i ∷ is) = ap (λ (m : List ℕ). stepped m is) (memory_is s f i) ∙ stepped_is (step r s i).after (step_keeps r s i f) is

  answers_are : (s : State) → Formed s → (is : List ℕ) → step_answers (memory_with r s) is ≡ answers r s is
  answers_are s f [] = refl
  answers_are s f (i ∷ is) = rw (answer_is s f i, memory_is s f i) (ap (λ (l : List Answer). (step r s i).answer ∷ l) (answers_are (step r s i).after (step_keeps r s i f) is))

  granted_are : (s : State) → Formed s → (is : List ℕ) → granted_steps (memory_with r s) is ≡ granted r s is
  granted_are s f [] = refl
  granted_are s f (i ∷ is) = rw (answer_is s f i, memory_is s f i) (ap (keep (is_granted (step r s i).answer) i) (granted_are (step r s i).after (step_keeps r s i f) is))

-- ---- memory that holds a net
module _ (m : List ℕ) (bytes : Bytes m) (held : holds_net m ≡ true) where
  abbrev r : Rules
  r = rules_held m

  abbrev s : State
  s = state_held m

  formed : Formed r s
  formed = held_formed m bytes held

  is_memory : m ≡ memory_with r s
  is_memory = held_memory m bytes held

  pub held_answer : (i : ℕ) → step_answer m i ≡ (step r s i).answer
  unfolding step_answer
  held_answer i = rw held

  held-stepped : (is : List ℕ) → stepped m is ≡ memory_with r (final r s is)
  held-stepped is = ap (λ (n : List ℕ). stepped n is) is_memory ∙ stepped_is r s formed is

  held-answers : (is : List ℕ) → step_answers m is ≡ answers r s is
  held-answers is = ap (λ (n : List ℕ). step_answers n is) is_memory ∙ answers_are r s formed is

  held-granted : (is : List ℕ) → granted_steps m is ≡ granted r s is
  held-granted is = ap (λ (n : List ℕ). granted_steps n is) is_memory ∙ granted_are r s formed is

  rules_stay : (is : List ℕ) → rules_held (stepped m is) ≡ r
  rules_stay is = ap rules_held (held-stepped is) ∙ rules_back r (final r s is) (run_keeps r s is formed)

  state_after : (is : List ℕ) → state_held (stepped m is) ≡ final r s is
  state_after is = ap state_held (held-stepped is) ∙ state_back r (final r s is) (run_keeps r s is formed)

  -- memory goes on to hold a net, whatever the steps
  pub stays_held : (is : List ℕ) → holds_net (stepped m is) ≡ true
  stays_held is = ap holds_net (held-stepped is) ∙ memory_holds r (final r s is) (run_keeps r s is formed)

  -- a step that is not granted leaves every byte as it was
  pub memory_left : (i : ℕ) → is_granted (step_answer m i) ≡ false → step_memory m i ≡ m
  unfolding step_memory
  memory_left i e = rw held (ap (memory_with r) (not_granted_leaves r s i (ap is_granted (sym (held_answer i)) ∙ e)) ∙ sym is_memory)

  -- a run is that many single steps
  pub run_steps : (steps out : List ℕ) → run_answer m steps (length out) ≡ Ok tt
      → (run_memory m steps (length out) ≡ stepped m steps) × (run_answers m steps out ≡ map number_of (step_answers m steps) ++ drop (length steps) out)
  unfolding run_memory run_answers
  run_steps steps out e = (rw e (sym (held-stepped steps)), rw e (ap (λ (l : List Answer). map number_of l ++ drop (length steps) out) (sym (held-answers steps))))

-- a step on memory that holds no net leaves it too
pub no_net_left : (m : List ℕ) → holds_net m ≡ false → (i : ℕ) → step_memory m i ≡ m
unfolding step_memory
no_net_left m e i = rw e

-- ---- more rules never allow more, on two memories
module _ (m₁ m₂ : List ℕ) (bytes₁ : Bytes m₁) (bytes₂ : Bytes m₂) (held₁ : holds_net m₁ ≡ true) (held₂ : holds_net m₂ ≡ true)
    (alike : state_held m₁ ≡ state_held m₂) (more : Adds (rules_held m₁) (rules_held m₂)) where
  -- what the first denies the second denies
  pub memory_deny : (i : ℕ) → step_answer m₁ i ≡ Denied → step_answer m₂ i ≡ Denied
  memory_deny i e =
      held_answer m₂ bytes₂ held₂ i
      ∙ rw (← alike) (more_deny (state_held m₁) (rules_held m₁) (rules_held m₂) (held_formed m₁ bytes₁ held₁) more i (sym (held_answer m₁ bytes₁ held₁ i) ∙ e))

  -- the second is stepped through any steps, and those that it did not grant are struck out: the first grants all the others, both memories end
  -- with nets alike but for their rules, and each keeps its own rules
  pub record Ends (is : List ℕ) : Type 0 where
    pub all-granted : step_answers m₁ (granted_steps m₂ is) ≡ replicate (length (granted_steps m₂ is)) Granted
    pub states_alike : state_held (stepped m₁ (granted_steps m₂ is)) ≡ state_held (stepped m₂ is)
    pub first_rules : rules_held (stepped m₁ (granted_steps m₂ is)) ≡ rules_held m₁
    pub second_rules : rules_held (stepped m₂ is) ≡ rules_held m₂

  pub memory_follow : (is : List ℕ) → Ends is
  memory_follow is =
      let l = granted_steps m₂ is in
      let g : l ≡ granted (rules_held m₂) (state_held m₁) is = held-granted m₂ bytes₂ held₂ is ∙ ap (λ (s : State). granted (rules_held m₂) s is) (sym alike) in
      let f = more_follow (state_held m₁) (rules_held m₁) (rules_held m₂) (held_formed m₁ bytes₁ held₁) more is in
      record {
        all-granted = held-answers m₁ bytes₁ held₁ l ∙ rw g f.all-granted;
        states_alike =
            state_after m₁ bytes₁ held₁ l
            ∙ ap (final (rules_held m₁) (state_held m₁)) g
            ∙ f.alike
            ∙ ap (λ (s : State). final (rules_held m₂) s is) alike
            ∙ sym (state_after m₂ bytes₂ held₂ is);
        first_rules = rules_stay m₁ bytes₁ held₁ l;
        second_rules = rules_stay m₂ bytes₂ held₂ is;
      }
