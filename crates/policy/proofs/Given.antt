-- What an aspect gives, by its two tests; the value of a node of its own, as the evaluators are asked for it; and the three parts of a
-- judgement. Assumes nothing.
use mathlib.Core.Path.{◌≡◌, refl, sym, ap, ◌∙◌}
use mathlib.Core.Bool.{Bool, true, false, ◌&&◌}
use mathlib.Core.List.{List, [], ◌∷◌}
use Prim.Native.Nat.{ℕ, ◌/◌}
use native.Mathlib.Omega.{arith}
use lib.ListN.{length, get_or}
use Rattle.belnap.specs.Belnap.{grants, gather_of}
use Rattle.belnap.proofs.Laws.{grants_gather}
use Rattle.words.specs.Tables.{table_of}
use Rattle.words.proofs.Tables.{table_length}
use Rattle.net.specs.Records.{node_width, read_node}
use Rattle.net.specs.Net.{Rules}
use Rattle.net.specs.Image.{nodes_in, aspects_in}
use Rattle.net.specs.declared.Node.{Node}
use Rattle.net.specs.declared.Site.{Site}
use Rattle.net.specs.declared.Row.{Row}
use Rattle.net.specs.declared.Aspect.{Aspect}
use Rattle.policy.specs.declared.Act.{Act}
use Rattle.policy.specs.House.{ask, ask_of, terms_in, traps, taken, yes, advice, row_of, value_at, gives, mandatory, policy, judge}

module _ (sites : List Site) (rows : List Row) (act : Act) (x : Aspect) where
  -- asked with the terms of the action, what the cut took, and the whole table
  pub value_asked : (nodes : List ℕ) {terms vars : List ℕ} {top : ℕ} (k : ℕ) → terms ≡ terms_in sites act → vars ≡ taken sites act x → top ≡ length nodes / node_width
      → get_or (row_of (ask sites rows terms vars) (nodes_in nodes) top) k 0 ≡ value_at (ask_of sites rows act x) (nodes_in nodes) k
  value_asked nodes k e f g = rw (e, f, g, table_length read_node node_width nodes)

  module _ (nodes : List Node) where
    pub gives_untrapped : traps sites act x ≡ false → gives nodes sites rows act x ≡ 0
    unfolding gives
    gives_untrapped t = rw t

    pub gives_unless : traps sites act x ≡ true → yes (value_at (ask_of sites rows act x) nodes x.condition) ≡ false → gives nodes sites rows act x ≡ 0
    unfolding gives
    gives_unless t u = rw (t, u)

    pub gives_trapped : traps sites act x ≡ true → yes (value_at (ask_of sites rows act x) nodes x.condition) ≡ true
        → gives nodes sites rows act x ≡ advice (value_at (ask_of sites rows act x) nodes x.recommendation)
    unfolding gives
    gives_trapped t u = rw (t, u)

-- what is judged grants exactly if the mandatory rules and both policies do
module _ (r : Rules) (sites : List Site) (rows : List Row) (act : Act) where
  abbrev ruled : ℕ
  ruled = mandatory act.action.capability (terms_in sites act)

  abbrev says : ℕ → ℕ
  says site = policy r.nodes sites rows act site r.aspects

  pub judged : {a b c : Bool} → grants ruled ≡ a → grants (says act.source) ≡ b → grants (says act.target) ≡ c → (a && (b && c)) ≡ grants (judge r sites rows act)
  unfolding judge
  judged e f g =
      rw (← e, ← f, ← g) (sym (grants_gather ruled (gather_of (says act.source) (says act.target))
      ∙ ap (λ (x : Bool). grants ruled && x) (grants_gather (says act.source) (says act.target))))

  -- without aspects a policy says nothing
  pub says_nothing : r.aspects ≡ [] → (site : ℕ) → grants (says site) ≡ true
  unfolding policy
  says_nothing e site = rw e

pub no_aspects : (s : List ℕ) → length s ≡ 0 → aspects_in s ≡ []
unfolding table_of
no_aspects [] e = refl
no_aspects (x ∷ s) e = let z : ⊥ = omega (arith, e) in absurd z
