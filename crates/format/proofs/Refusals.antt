-- The first bad record that a check finds in the bodies of an image is the one of the verdict, and what the code makes of it is the verdict's
-- step; a number of a record fits a u16, since an image is short. Assumes nothing.
use Rattle.std.specs.Prelude.{Result, Ok, Err, Option, None, Some, MatchOption, IfSome}
use mathlib.Core.Path.{◌≡◌, refl, sym, ◌∙◌}
use mathlib.Core.Bool.{Bool, true, false, cond}
use mathlib.Core.List.{List}
use Prim.Native.Nat.{ℕ, ◌*◌, ◌/◌, ◌≤◌, ◌<◌}
use native.Mathlib.Nat.{div-le_self}
use native.Mathlib.Omega.{arith}
use lib.Dec.{ltb}
use lib.ListN.{length, length-take, length-drop}
use Rattle.words.specs.Lists.{first_bad, first_failing, all}
use Rattle.words.specs.Tables.{table_of, Ordered}
use Rattle.words.proofs.First.{failing_at}
use Rattle.words.proofs.Truth.{no, T_is}
use Rattle.words.proofs.Tables.{table_length}
use Rattle.net.specs.Records.{site_width, node_width, action_width, read_site}
use Rattle.net.specs.Net.{most_nodes, names, Rising}
use Rattle.net.specs.Image.{width_of, most_of, contents_ok, body_in, sites_in, nodes_in, aspects_in, actions_in, rows_in, state_in, rules_in}
use Rattle.net.proofs.Bodies.{most_length_lem, entry_of, body_length}
use Rattle.rulebook.specs.Rulebook.{node_ok, aspect_ok}
use Rattle.format.specs.Format.{site_ok, action_ok, row_ok, state_ok}
use Rattle.format.specs.Verdict.{bad_site, bad_action}
use Rattle.format.specs.Steps.{operands_good}
use Rattle.format.specs.declared.Refusal.{Refusal}
use Rattle.format.proofs.Earlier.{actions_good}
use Rattle.format.proofs.Ordered.{names_rise, actions_sorted, actions_ordered}
use Rattle.format.proofs.Verdicts.{bad_none}

-- ---- what the code makes of the first bad record, if it found one
abbrev pub Made : Option ℕ → (ℕ → Refusal) → Result Unit Refusal → Type 0
Made bad why r = MatchOption bad (r ≡ Ok tt) (λ k. (x : Refusal) × (x ≡ why k) × (r ≡ Err x))

module _ (ok : ℕ → Bool) (n : ℕ) (why : ℕ → Refusal) {bad : Option ℕ} (e : bad ≡ first_failing ok n) where
  abbrev first : ℕ
  first = first_bad ok n

  pub step : {r : Result Unit Refusal} → Made bad why r → r ≡ cond (ltb first n) (Err (why first)) (Ok tt)
  step {r} m = pick (ltb first n) (rw e at m)
    where
      pick : (b : Bool) → Made (cond b (Some first) None) why r → r ≡ cond b (Err (why first)) (Ok tt)
      pick true m = cc
      pick false m = m

  pub refused : {x : Refusal} → Made bad why (Err x) → (ltb first n ≡ true) × (x ≡ why first)
  refused {x} m = pick (ltb first n) (step m)
    where
      pick : (b : Bool) → ◌≡◌ {A = Result Unit Refusal} (Err x) (cond b (Err (why first)) (Ok tt)) → (b ≡ true) × (x ≡ why first)
      pick true q = (refl, cc)
      pick false q = no (cc)

  pub passed : {u : Unit} → Made bad why (Ok u) → ltb first n ≡ false
  passed {u} m = pick (ltb first n) (step m)
    where
      pick : (b : Bool) → ◌≡◌ {A = Result Unit Refusal} (Ok u) (cond b (Err (why first)) (Ok tt)) → b ≡ false
      pick true q = no (cc)
      pick false q = refl

-- ---- how long bodies are
module _ (s : List ℕ) (ok : contents_ok s ≡ true) where
  pub nodes_few : {nodes : List ℕ} → nodes ≡ body_in s 2 → length nodes ≤ node_width * most_nodes
  unfolding width_of most_of
  nodes_few e = rw e (omega (arith, body_length s ok 2 (omega arith) (omega arith), (entry_of s ok 2 (omega arith) (omega arith)).most))

  body_small : (k : ℕ) → length (body_in s k) < 65536
  unfolding body_in
  body_small k = simp (length-take, length-drop) (omega (arith, most_length_lem s ok))

  -- so the number of a record fits
  pub small : {A : Type 0} (read : List ℕ → ℕ → A) (w k : ℕ) (good : ℕ → Bool) {body : List ℕ} {bad : Option ℕ}
      → body ≡ body_in s k → bad ≡ first_failing good (length (table_of read w body)) → IfSome bad (λ i. i < 65536)
  small read w k good {body} p e = pick _ e
    where
      pick : (bad : Option ℕ) → bad ≡ first_failing good (length (table_of read w body)) → IfSome bad (λ i. i < 65536)
      pick None e = tt
      pick (Some i) e =
          let h = (failing_at good (length (table_of read w body)) i (sym e)).0 in
          omega (arith, rw p at h, table_length read w (body_in s k), div-le_self (length (body_in s k)) w, body_small k)

-- ---- what the check found in its bodies
module _ (s : List ℕ) {sites : List ℕ} (p : sites ≡ body_in s 1) where
  count_is : {n : ℕ} → n ≡ length sites / site_width → n ≡ length (sites_in (body_in s 1))
  count_is e = e ∙ rw p (sym (table_length read_site site_width (body_in s 1)))

  pub site_is : {bad : Option ℕ} → bad ≡ first_failing (site_ok (sites_in sites)) (length (sites_in sites))
      → bad ≡ first_failing (site_ok (state_in s).sites) (length (state_in s).sites)
  site_is e = e ∙ rw p

  -- where no site is bad their names rise
  pub then_rising : ltb (bad_site (state_in s)) (length (sites_in (body_in s 1))) ≡ false → Rising (names (sites_in sites))
  then_rising e =
      let l = sites_in (body_in s 1) in
      rw p (names_rise l (bad_none (site_ok l) (length l) e))

  module _ {nodes : List ℕ} (q : nodes ≡ body_in s 2) where
    pub node_is : {bad : Option ℕ} → bad ≡ first_failing (node_ok (names (sites_in sites)) (nodes_in nodes)) (length (nodes_in nodes))
        → bad ≡ first_failing (node_ok (names (state_in s).sites) (rules_in s).nodes) (length (rules_in s).nodes)
    node_is e = e ∙ rw (p, q)

    pub aspect_is : {aspects : List ℕ} {n : ℕ} {bad : Option ℕ} → aspects ≡ body_in s 3 → n ≡ length sites / site_width
        → bad ≡ first_failing (aspect_ok n (nodes_in nodes) (aspects_in aspects)) (length (aspects_in aspects))
        → bad ≡ first_failing (aspect_ok (length (state_in s).sites) (rules_in s).nodes (rules_in s).aspects) (length (rules_in s).aspects)
    aspect_is a n e = e ∙ rw (count_is n, q, a)

  module _ {actions : List ℕ} (q : actions ≡ body_in s 4) where
    pub action_is : {n : ℕ} {bad : Option ℕ} → n ≡ length sites / site_width
        → bad ≡ first_failing (action_ok n (actions_in actions)) (length (actions_in actions))
        → bad ≡ first_failing (action_ok (length (state_in s).sites) (state_in s).actions) (length (state_in s).actions)
    action_is n e = e ∙ rw (count_is n, q)

    pub state_is : {bad : Option ℕ} → bad ≡ first_failing (state_ok (actions_in actions) (sites_in sites)) (length (sites_in sites))
        → bad ≡ first_failing (state_ok (state_in s).actions (state_in s).sites) (length (state_in s).sites)
    state_is e = e ∙ rw (p, q)

    -- where no action is bad their owners are in order
    pub then_ordered : ltb (bad_action (state_in s)) (length (actions_in (body_in s 4))) ≡ false → Ordered action_width actions
    then_ordered e =
        let n = length (sites_in (body_in s 1)) in
        let l = actions_in (body_in s 4) in
        rw q (actions_ordered (body_in s 4) (actions_sorted n l (bad_none (action_ok n l) (length l) e)))

    -- and their operands are good
    pub then_good : ltb (bad_action (state_in s)) (length (actions_in (body_in s 4))) ≡ false → all operands_good (actions_in actions) ≡ true
    then_good e =
        let n = length (sites_in (body_in s 1)) in
        let l = actions_in (body_in s 4) in
        rw q (T_is (all operands_good l) (actions_good n l (bad_none (action_ok n l) (length l) e)))

  pub row_is : {rows : List ℕ} {n : ℕ} {bad : Option ℕ} → rows ≡ body_in s 5 → n ≡ length sites / site_width
      → bad ≡ first_failing (row_ok n (rows_in rows)) (length (rows_in rows))
      → bad ≡ first_failing (row_ok (length (state_in s).sites) (state_in s).rows) (length (state_in s).rows)
  row_is q n e = e ∙ rw (count_is n, q)
