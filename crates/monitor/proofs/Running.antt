-- A run is that many single steps: one step more at the end of the list, and memory holds a net all along, since a step keeps it well formed.
-- Assumes nothing.
use Rattle.std.specs.Prelude.{Ok, Err, Result}
use mathlib.Core.Path.{◌≡◌, refl, sym, ap, ◌∙◌}
use mathlib.Core.Bool.{Bool, true, false, cond, ◌||◌}
use mathlib.Core.List.{List, [], ◌∷◌, ◌++◌, map}
use Prim.Native.Nat.{ℕ, suc, ◌+◌, ◌≤◌, ◌<◌}
use native.Mathlib.Numerals.{add-one}
use native.Mathlib.Omega.{arith}
use lib.Dec.{T, ltb}
use lib.ListN.{length, get_or, take, drop, set, length-map}
use lib.Seq.{take-suc, set_at, drop-cons, append_snoc, length-take-le, take-length}
use borrow.Author.Tests.{ltb-false}
use Rattle.words.proofs.Truth.{no}
use Rattle.net.specs.Net.{State, Rules}
use Rattle.format.specs.Format.{well_formed}
use Rattle.stepping.specs.Step.{step, answers, final, number_of}
use Rattle.stepping.specs.declared.Answer.{Answer}
use Rattle.stepping.proofs.Keeps.{run_keeps}
use Rattle.monitor.specs.Memory.{rules_held, state_held, memory_with, holds_net, most_steps, run_answer, run_memory, run_answers}
use Rattle.monitor.specs.declared.RunError.{RunError}
use Rattle.monitor.specs.declared.RunError.TheVariants.{Long, NoNet}
use Rattle.monitor.proofs.Holding.{memory_holds, rules_back, state_back}

-- ---- one step more at the end
final-snoc : (r : Rules) (s : State) (l : List ℕ) (i : ℕ) → final r s (l ++ (i ∷ [])) ≡ (step r (final r s l) i).after
final-snoc r s [] i = refl
final-snoc r s (j ∷ l) i = final-snoc r (step r s j).after l i

answers-snoc : (r : Rules) (s : State) (l : List ℕ) (i : ℕ) → answers r s (l ++ (i ∷ [])) ≡ answers r s l ++ ((step r (final r s l) i).answer ∷ [])
answers-snoc r s [] i = refl
answers-snoc r s (j ∷ l) i = ap (λ (k : List Answer). (step r s j).answer ∷ k) (answers-snoc r (step r s j).after l i)

length-answers : (r : Rules) (s : State) (l : List ℕ) → length (answers r s l) ≡ length l
length-answers r s [] = refl
length-answers r s (j ∷ l) = ap suc (length-answers r (step r s j).after l)

map-append : (a b : List Answer) → map number_of (a ++ b) ≡ map number_of a ++ map number_of b
map-append [] b = refl
map-append (x ∷ a) b = ap (λ (k : List ℕ). number_of x ∷ k) (map-append a b)

-- the state and the answers after k steps
abbrev pub state_at : Rules → State → List ℕ → ℕ → State
state_at r s steps k = final r s (take k steps)

abbrev pub numbers_at : Rules → State → List ℕ → ℕ → List ℕ
numbers_at r s steps k = map number_of (answers r s (take k steps))

module _ (r : Rules) (s : State) (formed : T (well_formed (record { state = s; rules = r }))) (steps : List ℕ) where
  formed_at : (k : ℕ) → T (well_formed (record { state = state_at r s steps k; rules = r }))
  formed_at k = run_keeps r s (take k steps) formed

  module _ (k : ℕ) {m : List ℕ} (e : m ≡ memory_with r (state_at r s steps k)) where
    pub still_holds : holds_net m ≡ true
    still_holds = rw e (memory_holds r (state_at r s steps k) (formed_at k))

    rules_are : rules_held m ≡ r
    rules_are = ap rules_held e ∙ rules_back r (state_at r s steps k) (formed_at k)

    state_is : state_held m ≡ state_at r s steps k
    state_is = ap state_held e ∙ state_back r (state_at r s steps k) (formed_at k)

    module _ (h : k < length steps) where
      pub memory-next : {n : List ℕ} → n ≡ memory_with (rules_held m) (step (rules_held m) (state_held m) (get_or steps k 0)).after → n ≡ memory_with r (state_at r s steps (k + 1))
      memory-next w =
          w
          ∙ rw (rules_are, state_is, add-one, take-suc steps k 0 h) (ap (memory_with r) (sym (final-snoc r s (take k steps) (get_or steps k 0))))

      pub answers_next : (out out₀ : List ℕ) {a : Answer} → k < length out₀ → out ≡ numbers_at r s steps k ++ drop k out₀
          → a ≡ (step (rules_held m) (state_held m) (get_or steps k 0)).answer → set out k (number_of a) ≡ numbers_at r s steps (k + 1) ++ drop (k + 1) out₀
      answers_next out out₀ l w q =
          let n : length (numbers_at r s steps k) ≡ k = length-map (answers r s (take k steps)) number_of ∙ length-answers r s (take k steps) ∙ length-take-le k steps (omega arith) in
          rw (
            w,
            drop-cons out₀ k 0 l,
            set_at (numbers_at r s steps k) (get_or out₀ k 0) (drop (suc k) out₀) (number_of _) k n,
            q,
            rules_are,
            state_is,
            add-one,
            take-suc steps k 0 h,
            answers-snoc r s (take k steps) (get_or steps k 0),
            map-append,
          )
          (sym (append_snoc (numbers_at r s steps k) (number_of (step r (state_at r s steps k) (get_or steps k 0)).answer) (drop (suc k) out₀)))

-- ---- the tests of run, in the code's order
module _ (m steps out : List ℕ) where
  abbrev long : Bool
  long = ltb most_steps (length steps) || ltb (length out) (length steps)

  abbrev pub Ends : Result Unit RunError → List ℕ → List ℕ → Type 0
  Ends v m₁ out₁ = (v ≡ run_answer m steps (length out)) × ((m₁ ≡ run_memory m steps (length out)) × (out₁ ≡ run_answers m steps out))

  -- past the first test there is room for every answer
  pub room_for_answers : long ≡ false → length steps ≤ length out
  room_for_answers e = ltb-false (length out) (length steps) (second (ltb most_steps (length steps)) _ e)
    where
      second : (a b : Bool) → (a || b) ≡ false → b ≡ false
      second true b q = no (ap (λ (z : Bool). cond z 1 0) (sym q))
      second false b q = q

  pub run_long : long ≡ true → Ends (Err Long) m out
  unfolding run_answer run_memory run_answers
  run_long e = (rw e, (rw e, rw e))

  pub run_none : long ≡ false → holds_net m ≡ false → Ends (Err NoNet) m out
  unfolding run_answer run_memory run_answers
  run_none e h = (rw (e, h), (rw (e, h), rw (e, h)))

  pub run_through : long ≡ false → holds_net m ≡ true → {m₁ out₁ : List ℕ} (k : ℕ) → k ≡ length steps → m₁ ≡ memory_with (rules_held m) (state_at (rules_held m) (state_held m) steps k)
      → out₁ ≡ numbers_at (rules_held m) (state_held m) steps k ++ drop k out → Ends (Ok tt) m₁ out₁
  unfolding run_answer run_memory run_answers
  run_through e h k q w a =
      (rw (e, h), (w ∙ rw (e, h, q, take-length steps), a ∙ rw (e, h, q, take-length steps)))
