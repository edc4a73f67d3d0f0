-- More rules of the house never allow more. A longer table gives the lower nodes the same values; a policy grants exactly if each of its
-- aspects does; so what is granted with more aspects and a longer table is granted with fewer. And what is judged is one of the four values.
-- Assumes nothing.
use mathlib.Core.Path.{◌≡◌, refl, sym, ap, ◌∙◌, subst}
use mathlib.Core.Bool.{Bool, true, false, cond, ◌&&◌}
use mathlib.Core.List.{List, [], ◌∷◌, ◌++◌, map, Memᴰ}
use mathlib.Core.Logic.{⊎_elim}
use Prim.Native.Nat.{ℕ, zero, suc, ◌≤◌, ◌<◌}
use native.Mathlib.Nat.{le_refl, eq-or-lt_of_le, le_of_suc-le-suc}
use native.Mathlib.Omega.{arith}
use lib.Dec.{T, eqb}
use lib.ListN.{length, take, length-append, get_or-append}
use lib.Seq.{take_all, take-append-le}
use Rattle.belnap.specs.Belnap.{gather_of, grants}
use Rattle.belnap.proofs.Laws.{either_lt, gather_lt, gather_grants, gather_both}
use Rattle.words.specs.Lists.{fill, all, those}
use Rattle.words.proofs.Lists.{length-fill, fill_at, fill_same}
use Rattle.net.specs.Records.{no_node}
use Rattle.net.specs.Net.{Rules, node_at, house}
use Rattle.net.specs.declared.Node.{Node}
use Rattle.net.specs.declared.Site.{Site}
use Rattle.net.specs.declared.Row.{Row}
use Rattle.net.specs.declared.Aspect.{Aspect}
use Rattle.policy.specs.declared.Act.{Act}
use Rattle.policy.specs.House.{Ask, ask_of, terms_in, traps, yes, advice, value_of, row_of, value_at, gives, gather_all, mandatory, policy, judge}
use Rattle.policy.specs.Adding.{Adds}
use Rattle.policy.proofs.Mandatory.{each_grants, gathered_lt, mandatory-value}

-- ---- a longer table
module _ (q : Ask) (ns more : List Node) where
  alike : (j : ℕ) → j < length ns → (row : List ℕ) → value_of q (node_at (ns ++ more) j) row ≡ value_of q (node_at ns j) row
  alike j l row = ap (λ (x : Node). value_of q x row) (get_or-append ns more no_node j l)

  -- the values of the lower nodes are the same
  pub same_row : (k : ℕ) → k ≤ length ns → row_of q (ns ++ more) k ≡ row_of q ns k
  same_row k h = fill_same (λ j row. value_of q (node_at (ns ++ more) j) row) (λ j row. value_of q (node_at ns j) row) k (λ j l. alike j (omega arith))

  pub same_value : (k : ℕ) → k < length ns → value_at q (ns ++ more) k ≡ value_at q ns k
  same_value k h =
      fill_at (λ j row. value_of q (node_at (ns ++ more) j) row) (length (ns ++ more)) k (rw (length-append ns more) (omega arith))
      ∙ alike k h (row_of q (ns ++ more) k)
      ∙ ap (value_of q (node_at ns k)) (same_row k (omega arith))
      ∙ sym (fill_at (λ j row. value_of q (node_at ns j) row) (length ns) k h)

-- a row begins with the rows of fewer nodes
fill_begins : (f : ℕ → List ℕ → ℕ) (n k : ℕ) → k ≤ n → take k (fill f n) ≡ fill f k
unfolding fill
fill_begins f zero k h = let e : k ≡ 0 = omega arith in rw e
fill_begins f (suc n) k h =
    ⊎_elim (λ e. subst (λ (m : ℕ). take m (fill f (suc n)) ≡ fill f m) (sym e) (take_all (suc n) (fill f (suc n)) (rw (length-fill f (suc n)) (le_refl (suc n)))))
    (λ l. take-append-le k (fill f n) (f n (fill f n) ∷ []) (rw (length-fill f n) (le_of_suc-le-suc l)) ∙ fill_begins f n k (le_of_suc-le-suc l))
    (eq-or-lt_of_le h)

-- the row of the longer table begins with the row of the shorter
pub row-begins : (q : Ask) (ns more : List Node) → take (length ns) (row_of q (ns ++ more) (length (ns ++ more))) ≡ row_of q ns (length ns)
row-begins q ns more =
    fill_begins (λ j row. value_of q (node_at (ns ++ more) j) row) (length (ns ++ more)) (length ns) (rw (length-append ns more) (omega arith))
    ∙ same_row q ns more (length ns) (omega arith)

pub same_gives : (ns more : List Node) (sites : List Site) (rows : List Row) (act : Act) (a : Aspect) → a.condition < length ns → a.recommendation < length ns
    → gives (ns ++ more) sites rows act a ≡ gives ns sites rows act a
unfolding gives
same_gives ns more sites rows act a p q =
    rw (same_value (ask_of sites rows act a) ns more a.condition p, same_value (ask_of sites rows act a) ns more a.recommendation q)

-- ---- a policy grants exactly if each of its aspects does
pub policy-grants : (nodes : List Node) (sites : List Site) (rows : List Row) (act : Act) (site : ℕ) (l : List Aspect)
    → grants (policy nodes sites rows act site l) ≡ all (λ a. grants (gives nodes sites rows act a)) (house site l)
unfolding policy
policy-grants nodes sites rows act site l =
    each_grants (gives nodes sites rows act) (house site l)

gathered_each : (g : Aspect → ℕ) (l : List Aspect) → T (grants (gather_all (map g l))) → (a : Aspect) → Memᴰ a l → T (grants (g a))
gathered_each g [] t a h = elim h [ ]
gathered_each g (x ∷ l) t a (Memᴰ.head e) = subst (λ (y : Aspect). T (grants (g y))) (sym e) (gather_grants (g x) (gather_all (map g l)) t).0
gathered_each g (x ∷ l) t a (Memᴰ.tail h) = gathered_each g l (gather_grants (g x) (gather_all (map g l)) t).1 a h

gathered_all : (g : Aspect → ℕ) (l : List Aspect) → ((a : Aspect) → Memᴰ a l → T (grants (g a))) → T (grants (gather_all (map g l)))
gathered_all g [] f = tt
gathered_all g (x ∷ l) f = gather_both (g x) (gather_all (map g l)) (f x (Memᴰ.head refl)) (gathered_all g l (λ a h. f a (Memᴰ.tail h)))

-- those that pass a test: each stands in the list and passes, and each that does is one of them
module _ (p : Aspect → Bool) where
  of_those : (l : List Aspect) (a : Aspect) → Memᴰ a (those p l) → Memᴰ a l × (p a ≡ true)
  of_those [] a h = elim h [ ]
  of_those (x ∷ l) a h = pick (p x) refl h (of_those l a)
    where
      pick : (b : Bool) → p x ≡ b → Memᴰ a (cond b (x ∷ those p l) (those p l)) → (Memᴰ a (those p l) → Memᴰ a l × (p a ≡ true)) → Memᴰ a (x ∷ l) × (p a ≡ true)
      pick true e (Memᴰ.head q) f = (Memᴰ.head q, ap p q ∙ e)
      pick true e (Memᴰ.tail q) f = let r = f q in (Memᴰ.tail r.0, r.1)
      pick false e q f = let r = f q in (Memᴰ.tail r.0, r.1)

  in_those : (l : List Aspect) (a : Aspect) → Memᴰ a l → p a ≡ true → Memᴰ a (those p l)
  in_those [] a h e = elim h [ ]
  in_those (x ∷ l) a (Memᴰ.head q) e = rw (ap p (sym q) ∙ e) (Memᴰ.head q)
  in_those (x ∷ l) a (Memᴰ.tail q) e = pick (p x) (in_those l a q e)
    where
      pick : (b : Bool) → Memᴰ a (those p l) → Memᴰ a (cond b (x ∷ those p l) (those p l))
      pick true r = Memᴰ.tail r
      pick false r = r

-- ---- fewer rules
-- each aspect refers to nodes that are there
abbrev pub Own : Rules → Type 0
Own r = (a : Aspect) → Memᴰ a r.aspects → (a.condition < length r.nodes) × (a.recommendation < length r.nodes)

module _ (r₁ r₂ : Rules) (owned : Own r₁) (more : Adds r₁ r₂) (sites : List Site) (rows : List Row) (act : Act) where
  pub policy_fewer : (site : ℕ) → T (grants (policy r₂.nodes sites rows act site r₂.aspects)) → T (grants (policy r₁.nodes sites rows act site r₁.aspects))
  unfolding policy
  policy_fewer site t =
      gathered_all (gives r₁.nodes sites rows act) (house site r₁.aspects) (λ a h.
      let m = of_those (λ x. eqb x.owner site) r₁.aspects a h in
      let o = owned a m.0 in
      rw (← same_gives r₁.nodes more.extra sites rows act a o.0 o.1, ← more.begins)
      (gathered_each (gives r₂.nodes sites rows act) (house site r₂.aspects) t a (in_those (λ x. eqb x.owner site) r₂.aspects a (more.keeps a m.0) m.1)))

  -- adding rules never turns a denial into a grant
  pub judge_fewer : T (grants (judge r₂ sites rows act)) → T (grants (judge r₁ sites rows act))
  unfolding judge
  judge_fewer t =
      let m = mandatory act.action.capability (terms_in sites act) in
      let p : Rules → ℕ → ℕ = λ r site. policy r.nodes sites rows act site r.aspects in
      let x = gather_grants m (gather_of (p r₂ act.source) (p r₂ act.target)) t in
      let y = gather_grants (p r₂ act.source) (p r₂ act.target) x.1 in
      gather_both m (gather_of (p r₁ act.source) (p r₁ act.target)) x.0
      (gather_both (p r₁ act.source) (p r₁ act.target) (policy_fewer act.source y.0) (policy_fewer act.target y.1))

-- ---- one of the four values
pub gives_lt : (nodes : List Node) (sites : List Site) (rows : List Row) (act : Act) (a : Aspect) → gives nodes sites rows act a < 4
unfolding gives
gives_lt nodes sites rows act a =
    let q = ask_of sites rows act a in
    either_lt (traps sites act a && yes (value_at q nodes a.condition)) (advice (value_at q nodes a.recommendation)) 0 (omega arith) (omega arith)

pub policy_lt : (nodes : List Node) (sites : List Site) (rows : List Row) (act : Act) (site : ℕ) (l : List Aspect) → policy nodes sites rows act site l < 4
unfolding policy
policy_lt nodes sites rows act site l = gathered_lt (gives nodes sites rows act) (house site l) (gives_lt nodes sites rows act)

pub judge_lt : (r : Rules) (sites : List Site) (rows : List Row) (act : Act) → judge r sites rows act < 4
unfolding judge
judge_lt r sites rows act =
    gather_lt (mandatory act.action.capability (terms_in sites act)) _
    (⊎_elim (λ e. omega arith) (λ e. omega arith) (mandatory-value act.action.capability (terms_in sites act)))
    (gather_lt (policy r.nodes sites rows act act.source r.aspects) (policy r.nodes sites rows act act.target r.aspects)
    (policy_lt r.nodes sites rows act act.source r.aspects) (policy_lt r.nodes sites rows act act.target r.aspects))
