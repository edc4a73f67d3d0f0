-- A step keeps a net well formed: rows by facts of their owners under insertion and removal, sites by what a change of one record leaves, positions
-- and variables in the one place where a site moves on. Assumes nothing.
use mathlib.Core.Path.{◌≡◌, refl, sym, ap, ◌∙◌, subst, subst₂}
use mathlib.Core.Bool.{Bool, true, false, cond, not, ◌&&◌, ◌||◌, beq, or_comm}
use mathlib.Core.List.{List, [], ◌∷◌}
use Prim.Native.Nat.{ℕ, zero, suc, ◌≤◌, ◌<◌}
use native.Mathlib.Omega.{arith}
use lib.Dec.{T, ltb, leb, eqb, ltb→lt, lt→ltb, leb→le, le→leb, eqb→eq}
use lib.ListN.{length, get_or, take, set, length-map}
use lib.Seq.{get_or-set_same, get_or-set_other, map-set_same}
use borrow.Author.Tests.{eqb-true, eqb-false, ltb-true}
use Rattle.level.specs.Level.{join}
use Rattle.level.proofs.Laws.{join_lt}
use Rattle.words.specs.Lists.{all_of, before, all, some, count, insert_at, remove_at}
use Rattle.words.proofs.Truth.{no, part, joined, ◌also◌, both_T, T_both, is_T, T_is}
use Rattle.words.proofs.First.{every_at, every_of}
use Rattle.words.proofs.Lists.{all_at, all_get_d, all_take, all_set, keeps_at, map-take}
use Rattle.net.specs.Net.{State, Rules, most_sites, most_rows, store_limit, site_at, row_at, action_at, program, held, names, fields_of, values_of}
use Rattle.net.specs.Records.{no_site, no_row, no_action}
use Rattle.format.specs.Format.{well_formed, net_rules, shape_rules, count_rules, site_ok, action_rules, action_ok, variable_ok, parts_of, state_ok, placed, binds}
use Rattle.rulebook.specs.Parts.{count_ok, operand_ok, operands_ok, speaks}
use Rattle.net.specs.Records.{site_fits, words_fit, bytes_fit, action_fits, operands_fit}
use Rattle.format.proofs.Rows.{good_row, Rows, rows_of, rows_fit, rows_ok, rows_few, rows-remove, rows-insert}
use Rattle.stepping.proofs.Programs.{Standing, those_at, length-those, values, values_ok, values_fit, binds_next, bind_nothing, all-resolved-binds, bound-length, bound_all, bound_sets}
use Rattle.words.proofs.Truth.{or_right}
use Rattle.stepping.specs.Step.{Plan, asking, done, next, doing, resolved, change, advance, marked, loses, informed, bound_by, row_put, place_for, hits, has_room, put_after, got_after, step, final}
use Rattle.policy.specs.Match.{fits}
use Rattle.stepping.proofs.StepLaws.{Begun, chosen-hits, Plans, refuses, puts, gets, plans}
use Rattle.net.specs.declared.Site.{Site}
use Rattle.net.specs.declared.Action.{Action}
use Rattle.net.specs.declared.Row.{Row}

-- ---- the sites' numbers fit
abbrev small : ℕ → Bool
small v = ltb v 65536

abbrev words : Site → List ℕ
words x = x.name ∷ x.s ∷ x.c ∷ x.o ∷ x.hs ∷ x.ho ∷ x.position ∷ x.lost ∷ []

module _ (x : Site) (fit : T (site_fits x)) where
  words_small : T (all small (words x))
  words_small = (both_T (words_fit 8 (words x)) (words_fit 8 x.vars) fit).0

  vars_fit : T (words_fit 8 x.vars)
  vars_fit = (both_T (words_fit 8 (words x)) (words_fit 8 x.vars) fit).1

  word : (k : ℕ) → get_or (words x) k 0 < 65536
  word k = ltb→lt (get_or (words x) k 0) 65536 (all_get_d small (words x) k 0 words_small tt)

  -- with another word, and with other variables
  refit : (k v : ℕ) (vars : List ℕ) → v < 65536 → T (words_fit 8 vars) → T (all small (set (words x) k v) && words_fit 8 vars)
  refit k v vars h u = T_both (all small (set (words x) k v)) (words_fit 8 vars) (all_set small (words x) k v words_small (lt→ltb v 65536 h)) u

  advance-fits : (vars : List ℕ) → suc x.position < 65536 → T (words_fit 8 vars) → T (site_fits (advance vars x))
  advance-fits vars h u = refit 6 (suc x.position) vars h u

  marked-fits : (c hs : ℕ) → c < 65536 → hs < 65536 → T (site_fits (marked c hs x))
  marked-fits c hs p q = refit 5 (join (join x.ho c) hs) x.vars (join_lt (join x.ho c) hs (join_lt x.ho c (word 5) p) q) vars_fit

  informed-fits : (o ho : ℕ) → o < 65536 → ho < 65536 → T (site_fits (informed o ho x))
  informed-fits o ho p q = refit 4 (join (join x.hs o) ho) x.vars (join_lt (join x.hs o) ho (join_lt x.hs o (word 4) p) q) vars_fit

  loses-fits : T (site_fits (loses x))
  loses-fits = refit 7 (loses x).lost x.vars (pick (ltb x.lost 65535) refl) vars_fit
    where
      pick : (b : Bool) → ltb x.lost 65535 ≡ b → cond b (suc x.lost) x.lost < 65536
      pick true e = omega (arith, ltb-true x.lost 65535 e)
      pick false e = word 7

-- ---- positions and variables
beq_eq : (a b : Bool) → beq a b ≡ true → a ≡ b
beq_eq true true e = refl
beq_eq true false e = no (cc)
beq_eq false true e = no (cc)
beq_eq false false e = refl

eq_beq : (a b : Bool) → a ≡ b → beq a b ≡ true
eq_beq true b e = rw (← e)
eq_beq false b e = rw (← e)

abbrev is_set : List ℕ → ℕ → Bool
is_set vars v = not (eqb (get_or vars v 0) 0)

set_is_bound : (p : List Action) (position : ℕ) (vars : List ℕ) → T (all_of (placed p position vars)) → (v : ℕ) → v < 8 → is_set vars v ≡ binds (take position p) v
set_is_bound p position vars t v h =
    beq_eq (is_set vars v) (binds (take position p) v)
    (every_at (λ u. beq (is_set vars u) (binds (take position p) u)) 8 (part (placed p position vars) t 1) v h)

-- one action further, with what it binds set
placed_next : (p : List Action) (position : ℕ) (vars new : List ℕ) → position < length p → T (all_of (placed p position vars))
    → ((v : ℕ) → v < 8 → is_set new v ≡ (some (speaks 2 v) (fields_of (action_at p position)) || is_set vars v))
    → T (all_of (placed p (suc position) new))
placed_next p position vars new h t f =
    joined (placed p (suc position) new)
    (le→leb (suc position) (length p) h
    also every_of (λ v. beq (is_set new v) (binds (take (suc position) p) v)) 8 (λ v l.
    let b = some (speaks 2 v) (fields_of (action_at p position)) in
    eq_beq (is_set new v) (binds (take (suc position) p) v)
    (f v l ∙ ap (λ (c : Bool). b || c) (set_is_bound p position vars t v l) ∙ or_comm b (binds (take position p) v) ∙ sym (binds_next p position no_action h v))))

-- ---- the sites of a net after part of a step: names, S and C as before, numbers that fit, positions and variables as the programs have them
record Sites (s : State) (l : List Site) : Type 0 where
  same_names : names l ≡ names s.sites
  same_s : (k : ℕ) → (site_at l k).s ≡ (site_at s.sites k).s
  same_c : (k : ℕ) → (site_at l k).c ≡ (site_at s.sites k).c
  fit : T (all site_fits l)
  states : (k : ℕ) → k < length s.sites → T (state_ok s.actions l k)

sites_length : (s : State) (l : List Site) → Sites s l → length l ≡ length s.sites
sites_length s l g = sym (length-map l (λ x. x.name)) ∙ ap length g.same_names ∙ length-map s.sites (λ x. x.name)

-- what only a site's own step changes, and what none does
abbrev lasting : Site → Site
lasting x = record { name = x.name; s = x.s; c = x.c; o = 0; hs = 0; ho = 0; position = x.position; lost = 0; vars = x.vars }

-- one more site changed, but in nothing that lasts
touched : (s : State) (l : List Site) (f : Site → Site) (i : ℕ) → i < length s.sites → ((x : Site) → lasting (f x) ≡ lasting x)
    → ((x : Site) → T (site_fits x) → T (site_fits (f x))) → Sites s l → Sites s (change f i l)
unfolding state_ok
touched s l f i h e p g =
    let y = f (site_at l i) in
    let same = keeps_at lasting l i no_site y (e (site_at l i)) in
    record {
      same_names = map-set_same (λ x. x.name) l i y no_site (ap (λ (x : Site). x.name) (e (site_at l i))) ∙ g.same_names;
      same_s = λ k. ap (λ (x : Site). x.s) (same k) ∙ g.same_s k;
      same_c = λ k. ap (λ (x : Site). x.c) (same k) ∙ g.same_c k;
      fit = all_set site_fits l i y g.fit (p (site_at l i) (all_at site_fits l no_site g.fit i (rw (sites_length s l g) h)));
      states = λ k b. rw (ap (λ (x : Site). x.position) (same k), ap (λ (x : Site). x.vars) (same k)) (g.states k b);
    }

-- ---- a net with such sites and rows is well formed
module _ (s : State) (r : Rules) (formed : T (well_formed (record { state = s; rules = r }))) where
  rule_at : (k : ℕ) → T (get_or (net_rules s r) k true)
  unfolding well_formed
  rule_at = part (net_rules s r) formed

  shape_at : (k : ℕ) → T (get_or (shape_rules s r) k true)
  shape_at = part (shape_rules s r) (rule_at 0)

  count_at : (k : ℕ) → T (get_or (count_rules s r) k true)
  count_at = part (count_rules s r) (shape_at 0)

  few-sites : length s.sites ≤ most_sites
  few-sites = leb→le (length s.sites) most_sites (count_at 1)

  assemble : (sites : List Site) (rows : List Row) → Sites s sites → Rows (length s.sites) rows
      → T (well_formed (record { state = record { sites = sites; actions = s.actions; rows = rows }; rules = r }))
  unfolding well_formed site_ok
  assemble sites rows g good =
      let n = length s.sites in
      let e = sites_length s sites g in
      let new : State = record { sites = sites; actions = s.actions; rows = rows } in
      let few = le→leb (length rows) most_rows (rows_few n rows good few-sites) in
      joined (net_rules new r)
      (joined (shape_rules new r)
      (joined (count_rules new r) (rw e (count_at 0) also rw e (count_at 1) also count_at 2 also count_at 3 also count_at 4 also few)
      also g.fit also shape_at 2 also shape_at 3 also shape_at 4 also rows_fit n rows good)
      also every_of (site_ok sites) (length sites) (λ k h. rw (g.same_names, g.same_s k, g.same_c k) (every_at (site_ok s.sites) n (rule_at 1) k (rw e at h)))
      also rw g.same_names (rule_at 2)
      also rw e (rule_at 3)
      also rw e (rule_at 4)
      also rw e (rows_ok n rows good)
      also every_of (state_ok s.actions sites) (length sites) (λ k h. T_is (state_ok s.actions sites k) (g.states k (rw e at h))))

-- ---- the action that a site tries, by the rules of its record
module _ (s : State) (r : Rules) (formed : T (well_formed (record { state = s; rules = r }))) (i t : ℕ) (h : Begun s i t) where
  abbrev spot : Site
  spot = site_at s.sites i

  abbrev plan : List Action
  plan = program i s.actions

  abbrev act : Action
  act = action_at plan spot.position

  abbrev n : ℕ
  n = length s.sites

  site_fits_lem : (k : ℕ) → k < n → T (site_fits (site_at s.sites k))
  site_fits_lem k l = all_at site_fits s.sites no_site (shape_at s r formed 1) k l

  spot-fits : T (site_fits spot)
  spot-fits = site_fits_lem i h.source

  eight : length spot.vars ≡ 8
  eight = eqb→eq (length spot.vars) 8 (both_T (eqb (length spot.vars) 8) (all small spot.vars) (vars_fit spot spot-fits)).0

  vars_small : T (all small spot.vars)
  vars_small = (both_T (eqb (length spot.vars) 8) (all small spot.vars) (vars_fit spot spot-fits)).1

  state_good : (k : ℕ) → k < n → T (state_ok s.actions s.sites k)
  state_good k l = is_T (state_ok s.actions s.sites k) (every_at (state_ok s.actions s.sites) n (rule_at s r formed 6) k l)

  spot-placed : T (all_of (placed plan spot.position spot.vars))
  unfolding state_ok
  spot-placed = state_good i h.source

  rows_good : Rows n s.rows
  rows_good = rows_of n s.rows (shape_at s r formed 5) (rule_at s r formed 5)

  -- the position after the step is small
  pub next_small : suc spot.position < 65536
  next_small =
      omega (
        arith,
        h.unfinished,
        length-those (λ x. eqb x.owner i) no_action s.actions,
        leb→le (length s.actions) 512 (count_at s r formed 4),
      )

  found : Standing (λ x. eqb x.owner i) no_action s.actions spot.position
  found = those_at (λ x. eqb x.owner i) no_action s.actions spot.position h.unfinished

  rule : (k : ℕ) → T (get_or (action_rules n s.actions found.number (action_at s.actions found.number)) k true)
  unfolding action_ok
  rule = part (action_rules n s.actions found.number (action_at s.actions found.number))
      (is_T (action_ok n s.actions found.number) (every_at (action_ok n s.actions) (length s.actions) (rule_at s r formed 4) found.number found.inside))

  act-fits : T (action_fits act)
  act-fits = subst (λ (a : Action). T (action_fits a)) found.is (all_at action_fits s.actions no_action (shape_at s r formed 4) found.number found.inside)

  counted : T (count_ok act.count)
  counted = subst (λ (a : Action). T (count_ok a.count)) found.is (rule 4)

  operands : T (operands_ok (cond (eqb act.capability 1) (0 ∷ 1 ∷ []) (0 ∷ 1 ∷ 2 ∷ [])) act.count act.fields)
  operands = subst (λ (a : Action). T (operands_ok (cond (eqb a.capability 1) (0 ∷ 1 ∷ []) (0 ∷ 1 ∷ 2 ∷ [])) a.count a.fields)) found.is (rule 6)

  variables : (v : ℕ) → v < 8 → T (variable_ok (take spot.position plan) act v)
  variables v l =
      let a = action_at s.actions found.number in
      let before = program a.owner (take found.number s.actions) in
      let e : before ≡ take spot.position plan =
      ap (λ (o : ℕ). program o (take found.number s.actions)) (eqb-true a.owner i found.passes) ∙ found.earlier in
      subst₂ (λ (p : List Action) (x : Action). T (variable_ok p x v)) e found.is (is_T (variable_ok before a v) (every_at (variable_ok before a) 8 (rule 7) v l))

  -- a variable that the action uses is set
  used_set : (v : ℕ) → v < 8 → T (some (speaks 1 v) (fields_of act)) → T (is_set spot.vars v)
  used_set v l t =
      rw (set_is_bound plan spot.position spot.vars spot-placed v l)
      (pick (some (speaks 1 v) (parts_of act)) (some (speaks 2 v) (parts_of act)) (binds (take spot.position plan) v)
      (or_right (speaks 1 v act.target) (some (speaks 1 v) (fields_of act)) t)
      (both_T (leb (count (speaks 2 v) (parts_of act)) 1) _ (variables v l)).1)
    where
      pick : (a b c : Bool) → T a → T (not a || (not b && c)) → T c
      pick true b c t u = (both_T (not b) c u).1
      pick false b c t u = absurd t

  put_operands : (next s i).capability ≡ 1 → T (operands_ok (0 ∷ 1 ∷ []) act.count act.fields)
  put_operands e = subst (λ (c : ℕ). T (operands_ok (cond (eqb c 1) (0 ∷ 1 ∷ []) (0 ∷ 1 ∷ 2 ∷ [])) act.count act.fields)) e operands

  -- ---- the source one action further, with what the action binds set
  moved : (vars : List ℕ) → T (words_fit 8 vars) → T (all_of (placed plan (suc spot.position) vars)) → Sites s (change (advance vars) i s.sites)
  unfolding state_ok
  moved vars u v =
      let y = advance vars spot in
      record {
        same_names = map-set_same (λ x. x.name) s.sites i y no_site refl;
        same_s = keeps_at (λ x. x.s) s.sites i no_site y refl;
        same_c = keeps_at (λ x. x.c) s.sites i no_site y refl;
        fit = all_set site_fits s.sites i y (shape_at s r formed 1) (advance-fits spot spot-fits vars next_small u);
        states = λ k l. pick k l (eqb k i) refl;
      }
    where
      pick : (k : ℕ) → k < n → (b : Bool) → eqb k i ≡ b
          → T (all_of (placed (program k s.actions) (site_at (set s.sites i (advance vars spot)) k).position (site_at (set s.sites i (advance vars spot)) k).vars))
      pick k l true e = rw (eqb-true k i e, get_or-set_same s.sites i (advance vars spot) no_site h.source) v
      pick k l false e = rw (get_or-set_other s.sites i k (advance vars spot) no_site (eqb-false k i e)) (state_good k l)

  -- ---- a put: it binds nothing, and its row is good
  put_moved : (next s i).capability ≡ 1 → Sites s (change (advance spot.vars) i s.sites)
  put_moved e =
      moved spot.vars (vars_fit spot spot-fits)
      (placed_next plan spot.position spot.vars spot.vars h.unfinished spot-placed (λ v b.
      rw (bind_nothing v (fields_of act) (both_T (all (operand_ok (0 ∷ 1 ∷ [])) (fields_of act)) _ (put_operands e)).0)))

  row_put_lem : (next s i).capability ≡ 1 → T (all_of (good_row (row_put (doing s i t))))
  row_put_lem e =
      let c = leb→le act.count 4 (both_T (leb 1 act.count) (leb act.count 4) counted).1 in
      let f = (both_T (bytes_fit 4 (act.owner ∷ act.zero ∷ act.capability ∷ act.count ∷ [])) _ act-fits).1 in
      let g = (both_T (operands_fit 1 (act.target ∷ [])) (operands_fit 4 act.fields) f).1 in
      let p = lt→ltb t 256 (omega (arith, few-sites s r formed, h.target)) in
      let q = lt→ltb act.count 256 (omega arith) in
      joined (good_row (row_put (doing s i t)))
      (T_both (bytes_fit 2 (t ∷ act.count ∷ [])) (words_fit 4 (values spot.vars act.fields))
      (T_both (ltb t 256) (ltb act.count 256 && true) p (T_both (ltb act.count 256) true q tt)) (values_fit spot.vars act.fields g vars_small)
      also counted
      also values_ok spot.vars act.count act.fields (put_operands e) used_set)

  put_keeps : (next s i).capability ≡ 1 → (b : Bool) → has_room s (doing s i t) ≡ b → T (well_formed (record { state = put_after s (doing s i t) b; rules = r }))
  unfolding place_for
  put_keeps e true q =
      let f = marked spot.c spot.hs in
      let l = change (advance spot.vars) i s.sites in
      assemble s r formed (change f t l) (insert_at (place_for t s.rows) (row_put (doing s i t)) s.rows)
      (touched s l f t h.target (λ x. refl) (λ x u. marked-fits x u spot.c spot.hs (word spot spot-fits 2) (word spot spot-fits 4)) (put_moved e))
      (rows-insert n s.rows rows_good (row_put (doing s i t)) (row_put_lem e) h.target (ltb-true (held t s.rows) store_limit q))
  put_keeps e false q =
      let l = change (advance spot.vars) i s.sites in
      assemble s r formed (change loses t l) s.rows (touched s l loses t h.target (λ x. refl) loses-fits (put_moved e)) rows_good

  -- ---- a take or a read of row k, which hits
  module _ (k : ℕ) (l : k < length s.rows) (hit : T (hits t (next s i) (row_at s.rows k))) where
    abbrev met : Row
    met = row_at s.rows k

    abbrev vars : List ℕ
    vars = bound_by s (doing s i t) k

    met_good : (j : ℕ) → T (get_or (good_row met) j true)
    met_good = part (good_row met) (all_at (λ x. all_of (good_row x)) s.rows no_row rows_good.good k l)

    values_small : T (all small (values_of met))
    values_small =
        all_take small met.count met.fields
        (both_T (eqb (length met.fields) 4) _ (both_T (bytes_fit 2 (met.owner ∷ met.count ∷ [])) (words_fit 4 met.fields) (met_good 0)).1).1

    bound-fits : T (words_fit 8 vars)
    bound-fits =
        T_both (eqb (length vars) 8) (all small vars)
        (rw (bound-length (fields_of (next s i)) (values_of met) spot.vars, eight) tt)
        (bound_all small (fields_of (next s i)) (values_of met) spot.vars values_small vars_small)

    same_bindings : (v : ℕ) → some (speaks 2 v) (fields_of (next s i)) ≡ some (speaks 2 v) (fields_of act)
    same_bindings v =
        ap (some (speaks 2 v)) (sym (map-take (resolved spot.vars) act.count act.fields)) ∙ all-resolved-binds spot.vars v (fields_of act)

    got_moved : Sites s (change (advance vars) i s.sites)
    got_moved = moved vars bound-fits (placed_next plan spot.position spot.vars vars h.unfinished spot-placed (λ v b.
        bound_sets (fields_of (next s i)) (values_of met) spot.vars v
        (both_T (eqb met.owner t) (fits (fields_of (next s i)) (values_of met)) hit).1
        (both_T (all (λ w. not (eqb w 0)) (values_of met)) _ (met_good 2)).0
        (rw eight b)
        ∙ ap (λ (c : Bool). c || is_set spot.vars v) (same_bindings v)))

    got_rows : (b : Bool) → Rows n (cond b (remove_at k s.rows) s.rows)
    got_rows true = rows-remove n s.rows rows_good k
    got_rows false = rows_good

    got_keeps : T (well_formed (record { state = got_after s (doing s i t) k; rules = r }))
    got_keeps =
        let y = site_at s.sites t in
        let f = informed y.o y.ho in
        let m = change (advance vars) i s.sites in
        let u = site_fits_lem t h.target in
        assemble s r formed (change f i m) (cond (eqb act.capability 2) (remove_at k s.rows) s.rows)
        (touched s m f i h.source (λ x. refl) (λ x v. informed-fits x v y.o y.ho (word y u 3) (word y u 5)) got_moved)
        (got_rows (eqb act.capability 2))

-- ---- the promise
module _ (r : Rules) where
  keeps : (s : State) (i : ℕ) (p : Plan) → Plans r s i p → T (well_formed (record { state = s; rules = r })) → T (well_formed (record { state = (done s p).after; rules = r }))
  keeps s i p (refuses a e) f = f
  keeps s i p (puts t h g e) f = put_keeps s r f i t h e (has_room s (doing s i t)) refl
  keeps s i p (gets t k h g e c) f =
      let q = chosen-hits (doing s i t) s.rows k c in
      got_keeps s r f i t h k q.0 (is_T (hits t (next s i) (row_at s.rows k)) q.1)

  -- a step keeps a net well formed, and so does a run
  pub step_keeps : (s : State) (i : ℕ) → T (well_formed (record { state = s; rules = r })) → T (well_formed (record { state = (step r s i).after; rules = r }))
  step_keeps s i = keeps s i (asking r s i) (plans r s i)

  pub run_keeps : (s : State) (is : List ℕ) → T (well_formed (record { state = s; rules = r })) → T (well_formed (record { state = final r s is; rules = r }))
  run_keeps s [] f = f
  run_keeps s (i ∷ is) f = run_keeps (step r s i).after is (step_keeps s i f)
