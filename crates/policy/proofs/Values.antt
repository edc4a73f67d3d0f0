-- The value of node n, below top, in a table of bytes that is divided into nodes: by the name of its kind, which is its first byte. What
-- the two evaluators' proof cites. Assumes nothing.
use mathlib.Core.Path.{◌≡◌, refl, sym, ap, ◌∙◌}
use mathlib.Core.Bool.{Bool, true, false, cond, not, ◌&&◌, ◌||◌}
use mathlib.Core.List.{List, [], ◌∷◌}
use mathlib.Core.Logic.{◌⊎◌, inl, inr, ⊎_elim}
use Prim.Native.Nat.{ℕ, zero, suc, ◌+◌, ◌-◌, ◌%◌, ◌≤◌, ◌<◌}
use native.Mathlib.Omega.{arith}
use lib.Dec.{ltb}
use lib.ListN.{length, get_or, get_or-eq_default}
use borrow.Author.Tests.{ne_eqb, ltb-true, ltb-false}
use Rattle.std.specs.Prelude.{Result, Ok, Err}
use Rattle.level.specs.Level.{dominates}
use Rattle.belnap.specs.Belnap.{grants, not_of, and_of, or_of, consensus_of, gather_of, implies_of, before_of, operate_of, settles}
use Rattle.belnap.specs.Operator.{place}
use Rattle.belnap.proofs.Laws.{settles_any}
use Rattle.words.proofs.Lists.{length-fill}
use Rattle.words.proofs.Tables.{table_at}
use Rattle.net.specs.Codes as codes
use Rattle.net.specs.declared.codes.Unknown.{Unknown}
use Rattle.net.specs.declared.codes.Condition.{Condition}
use Rattle.net.specs.declared.codes.Condition.TheVariants.{Always, Not, And, Or, Equal, Test, Dominates, Grants}
use Rattle.net.specs.declared.codes.Advice.{Advice}
use Rattle.net.specs.declared.codes.Advice.TheVariants.{Constant, Of, Not as AdviceNot, Two}
use Rattle.net.specs.Records.{node_width, no_node, read_node}
use Rattle.net.specs.Net.{node_at}
use Rattle.net.specs.Image.{nodes_in}
use Rattle.net.specs.declared.Node.{Node}
use Rattle.policy.specs.House.{Ask, name, known, meant, test_of, yes, advice, condition_of, advice_of, value_of, row_of}
use Rattle.policy.specs.Asked.{Divided}
use Rattle.policy.proofs.Chunks.{node_of}
use Rattle.policy.proofs.Sorts.{value_read, yes_read, yes_none, advice_read, advice_none}

-- an operator's second value may be left out where the first decides
pub second_value : (k p q b : ℕ) → p < 4 → b < 4 → (q ≡ b) ⊎ ((settles k p ≡ true) × (q ≡ p)) → operate_of k p q ≡ operate_of k p b
second_value k p q b h g = ⊎_elim (ap (operate_of k p)) (λ v. ap (operate_of k p) v.1 ∙ sym (settles_any k p b h g v.0))

module _ (q : Ask) (x : Node) (row : List ℕ) where
  -- whether a node holds as this condition, and what it advises as this recommendation
  abbrev pub holds_as : Result Condition Unknown → Bool
  holds_as (Ok Always) = true
  holds_as (Ok Not) = not (yes (get_or row x.a 0))
  holds_as (Ok And) = yes (get_or row x.a 0) && yes (get_or row x.b 0)
  holds_as (Ok Or) = yes (get_or row x.a 0) || yes (get_or row x.b 0)
  holds_as (Ok Equal) = known (meant q.vars (get_or x.fields 0 (name 0))) (meant q.vars (get_or x.fields 1 (name 0)))
  holds_as (Ok Test) = test_of q.sites q.rows q.vars x
  holds_as (Ok Dominates) = dominates (get_or q.terms x.a 0) (get_or q.terms x.b 0)
  holds_as (Ok Grants) = grants (advice (get_or row x.a 0))
  holds_as (Err e) = false

  abbrev pub advises_as : Result Advice Unknown → ℕ
  advises_as (Ok Constant) = x.a % 4
  advises_as (Ok Of) = cond (yes (get_or row x.a 0)) 1 2
  advises_as (Ok AdviceNot) = not_of (advice (get_or row x.a 0))
  advises_as (Ok (Two op)) = operate_of (place op) (advice (get_or row x.a 0)) (advice (get_or row x.b 0))
  advises_as (Err e) = 0

  holds-cond : (b : Bool) (r s : Result Condition Unknown) → holds_as (cond b r s) ≡ cond b (holds_as r) (holds_as s)
  holds-cond true r s = refl
  holds-cond false r s = refl

  -- what a value says is what the name of its kind says: none, where it is of the other sort
  yes_by_name : yes (value_of q x row) ≡ holds_as (codes.condition_of x.kind)
  unfolding condition_of
  yes_by_name = pick (ltb x.kind 16) refl
    where
      same : holds_as (codes.condition_of x.kind) ≡ condition_of q x row
      same = simp holds-cond

      other : 16 ≤ x.kind → condition_of q x row ≡ false
      other h =
          simp (
            ne_eqb x.kind 1 (λ e. omega arith),
            ne_eqb x.kind 2 (λ e. omega arith),
            ne_eqb x.kind 3 (λ e. omega arith),
            ne_eqb x.kind 4 (λ e. omega arith),
            ne_eqb x.kind 5 (λ e. omega arith),
            ne_eqb x.kind 6 (λ e. omega arith),
            ne_eqb x.kind 7 (λ e. omega arith),
            ne_eqb x.kind 8 (λ e. omega arith),
          )

      pick : (t : Bool) → ltb x.kind 16 ≡ t → yes (value_of q x row) ≡ holds_as (codes.condition_of x.kind)
      pick true l = yes_read q x row (ltb-true x.kind 16 l) ∙ sym same
      pick false l = let h = ltb-false x.kind 16 l in yes_none q x row h ∙ sym (same ∙ other h)

  advice_by_name : advice (value_of q x row) ≡ advises_as (codes.advice_of x.kind)
  unfolding advice_of operate_of
  advice_by_name = pick (ltb x.kind 16) refl
    where
      none : (x.kind < 16) ⊎ (24 < x.kind) → advises_as (codes.advice_of x.kind) ≡ 0
      none h =
          simp (
            ne_eqb x.kind 16 (λ e. omega arith),
            ne_eqb x.kind 17 (λ e. omega arith),
            ne_eqb x.kind 18 (λ e. omega arith),
            ne_eqb x.kind 19 (λ e. omega arith),
            ne_eqb x.kind 20 (λ e. omega arith),
            ne_eqb x.kind 21 (λ e. omega arith),
            ne_eqb x.kind 22 (λ e. omega arith),
            ne_eqb x.kind 23 (λ e. omega arith),
            ne_eqb x.kind 24 (λ e. omega arith),
          )

      same : (j : ℕ) → x.kind ≡ 16 + j → advice_of x row ≡ advises_as (codes.advice_of x.kind)
      same zero e = rw e
      same (suc zero) e = rw e
      same (suc (suc zero)) e = rw e
      same (suc (suc (suc zero))) e = rw e
      same (suc (suc (suc (suc zero)))) e = rw e
      same (suc (suc (suc (suc (suc zero))))) e = rw e
      same (suc (suc (suc (suc (suc (suc zero)))))) e = rw e
      same (suc (suc (suc (suc (suc (suc (suc zero))))))) e = rw e
      same (suc (suc (suc (suc (suc (suc (suc (suc zero)))))))) e = rw e
      same (suc (suc (suc (suc (suc (suc (suc (suc (suc j))))))))) e = beyond (omega arith)
        where
          beyond : 24 < x.kind → advice_of x row ≡ advises_as (codes.advice_of x.kind)
          beyond h =
              let a = advice (get_or row x.a 0) in
              let b = advice (get_or row x.b 0) in
              simp (ne_eqb x.kind 16 (λ e. omega arith), ne_eqb x.kind 17 (λ e. omega arith), ne_eqb x.kind 18 (λ e. omega arith))
              (get_or-eq_default (and_of a b ∷ or_of a b ∷ consensus_of a b ∷ gather_of a b ∷ implies_of a b ∷ before_of a b ∷ []) 0 {n = x.kind - 19} (omega arith))
              ∙ sym (none (inr h))

      pick : (t : Bool) → ltb x.kind 16 ≡ t → advice (value_of q x row) ≡ advises_as (codes.advice_of x.kind)
      pick true l = let h = ltb-true x.kind 16 l in advice_none q x row h ∙ sym (none (inl h))
      pick false l = let h = ltb-false x.kind 16 l in advice_read q x row h ∙ same (x.kind - 16) (omega arith)

-- in a table of bytes
module _ (q : Ask) (s : List ℕ) (n top : ℕ) where
  abbrev row : ℕ → List ℕ
  row = row_of q (nodes_in s)

  -- past the row there is nothing
  past : top ≤ n → get_or (row top) n 0 ≡ 0
  past h = get_or-eq_default (row top) 0 (rw (length-fill (λ k r. value_of q (node_at (nodes_in s) k) r) top) h)

  pub yes_past : top ≤ n → false ≡ yes (get_or (row top) n 0)
  yes_past h = sym (ap yes (past h))

  pub advice_past : top ≤ n → 0 ≡ advice (get_or (row top) n 0)
  advice_past h = sym (ap advice (past h))

  -- below top, what is worked out by the name of the kind is the value
  module _ {l : List (List ℕ)} (divided : Divided node_width s l) (room : top ≤ length l) (h : n < top) where
    abbrev own : List ℕ
    own = get_or l n []

    abbrev pub node : Node
    node = read_node own 0

    here : get_or (row top) n 0 ≡ value_of q node (row n)
    here =
        let many = divided.many in
        value_read q (nodes_in s) top n h
        ∙ ap (λ (x : Node). value_of q x (row n)) (table_at read_node node_width s n no_node (omega arith) ∙ sym (node_of s divided n [] (omega arith)))

    pub yes_here : {r : Result Condition Unknown} {b : Bool} → r ≡ codes.condition_of (get_or own 0 0) → b ≡ holds_as q node (row n) r → b ≡ yes (get_or (row top) n 0)
    unfolding read_node
    yes_here e g = g ∙ ap (holds_as q node (row n)) e ∙ sym (ap yes here ∙ yes_by_name q node (row n))

    pub advice_here : {r : Result Advice Unknown} {v : ℕ} → r ≡ codes.advice_of (get_or own 0 0) → v ≡ advises_as q node (row n) r → v ≡ advice (get_or (row top) n 0)
    unfolding read_node
    advice_here e g = g ∙ ap (advises_as q node (row n)) e ∙ sym (ap advice here ∙ advice_by_name q node (row n))
