-- Rows are accounted: a put with room adds a row, one without adds to a lost count, a take removes a row, and nothing else changes either;
-- the sum over a run follows step by step. Assumes nothing.
use mathlib.Core.Path.{◌≡◌, refl, subst}
use mathlib.Core.Bool.{Bool, true, false, cond}
use mathlib.Core.List.{List, [], ◌∷◌}
use Prim.Native.Nat.{ℕ, zero, suc, ◌+◌, ◌<◌}
use native.Mathlib.Omega.{arith}
use native.Mathlib.Nat.{le_of_suc-le-suc, not-suc-le-zero}
use lib.Dec.{T, ltb, eqb, ltb→lt}
use lib.ListN.{length, set}
use lib.Seq.{get_or-set_same, lt-length-set}
use borrow.Author.Tests.{ltb-false}
use Rattle.words.specs.Lists.{remove_at}
use Rattle.words.proofs.Truth.{both_T}
use Rattle.words.proofs.Lists.{all_at, length-insert, length-remove}
use Rattle.net.specs.Records.{no_site}
use Rattle.net.specs.Net.{State, Rules, site_at}
use Rattle.net.specs.declared.Site.{Site}
use Rattle.net.specs.declared.Row.{Row}
use Rattle.stepping.specs.Step.{Out, next, doing, place_for, change, advance, marked, loses, informed, bound_by, row_put, has_room, put_after, Plan, asking, done, step, final}
use Rattle.stepping.proofs.StepLaws.{Begun, chosen-hits, Plans, refuses, puts, gets, plans}
use Rattle.promises.specs.Accounting.{lost_in, lost_below, granted_one, granted_of, stay_below}

stays_now : (r : Rules) (s : State) (is : List ℕ) → T (stay_below r s is) → T (lost_below s)
stays_now r s [] t = t
stays_now r s (i ∷ is) t = (both_T (lost_below s) (stay_below r (step r s i).after is) t).0

lost_change : (f : Site → Site) (i : ℕ) (l : List Site) → i < length l → lost_in (change f i l) + (site_at l i).lost ≡ lost_in l + (f (site_at l i)).lost
lost_change f i [] h = absurd (not-suc-le-zero h)
lost_change f zero (x ∷ l) h = omega arith
lost_change f (suc i) (x ∷ l) h = omega (arith, lost_change f i l (le_of_suc-le-suc h))

one_more : (b : Bool) (x : ℕ) → ltb x 65535 ≡ b → cond b (suc x) x < 65535 → cond b (suc x) x ≡ suc x
one_more true x e h = refl
one_more false x e h = let l = ltb-false x 65535 e in absurd (let z : ⊥ = omega arith in z)

abbrev Accounted : State → ℕ → Out → Type 0
Accounted s i o =
    length o.after.rows + lost_in o.after.sites + granted_one 2 s i o ≡ length s.rows + lost_in s.sites + granted_one 1 s i o

module _ (s : State) (i t : ℕ) (h : Begun s i t) (vars : List ℕ) where
  abbrev advanced : List Site
  advanced = change (advance vars) i s.sites

  still_in : (k : ℕ) → k < length s.sites → k < length advanced
  still_in k = lt-length-set s.sites i (advance vars (site_at s.sites i))

  advance_loses_none : lost_in advanced ≡ lost_in s.sites
  advance_loses_none = omega (arith, lost_change (advance vars) i s.sites h.source)

put_accounts : (s : State) (i t : ℕ) (h : Begun s i t) (b : Bool) → T (lost_below (put_after s (doing s i t) b))
    → length (put_after s (doing s i t) b).rows + lost_in (put_after s (doing s i t) b).sites ≡ length s.rows + lost_in s.sites + 1
put_accounts s i t h true u =
    let x = site_at s.sites i in
    let l = advanced s i t h x.vars in
    omega (
      arith,
      lost_change (marked x.c x.hs) t l (still_in s i t h x.vars t h.target),
      advance_loses_none s i t h x.vars,
      length-insert (place_for t s.rows) (row_put (doing s i t)) s.rows,
    )
put_accounts s i t h false u =
    let vars = (site_at s.sites i).vars in
    let l = advanced s i t h vars in
    let b = still_in s i t h vars t h.target in
    let x = site_at l t in
    let v = all_at (λ y. ltb y.lost 65535) (set l t (loses x)) no_site u t (lt-length-set l t (loses x) b) in
    let w : T (ltb (loses x).lost 65535) = subst (λ (y : Site). T (ltb y.lost 65535)) (get_or-set_same l t (loses x) no_site b) v in
    omega (
      arith,
      lost_change loses t l b,
      advance_loses_none s i t h vars,
      one_more (ltb x.lost 65535) x.lost refl (ltb→lt (loses x).lost 65535 w),
    )

got_accounts : (l : List Row) (k : ℕ) → k < length l → (b : Bool) → length (cond b (remove_at k l) l) + cond b 1 0 ≡ length l
got_accounts l k q true = omega (arith, length-remove k l q)
got_accounts l k q false = omega arith

accounts : (r : Rules) (s : State) (i : ℕ) (p : Plan) → Plans r s i p → T (lost_below (done s p).after) → Accounted s i (done s p)
accounts r s i o (refuses a e) u = rw e
accounts r s i o (puts t h g p) u = let a = put_accounts s i t h (has_room s (doing s i t)) u in rw p (omega (arith, rw p at a))
accounts r s i o (gets t k h g p q) u =
    let y = site_at s.sites t in
    let vars = bound_by s (doing s i t) k in
    rw p (omega (
      arith,
      got_accounts s.rows k (chosen-hits (doing s i t) s.rows k q).0 (eqb (next s i).capability 2),
      advance_loses_none s i t h vars,
      lost_change (informed y.o y.ho) i (advanced s i t h vars) (still_in s i t h vars i h.source),
    ))

-- "while the lost counts stay below 65,535, rows held plus growth of lost counts equals rows at the start plus granted puts less granted takes"
pub rows_accounted : (r : Rules) (s : State) (is : List ℕ) → T (stay_below r s is)
    → length (final r s is).rows + lost_in (final r s is).sites + granted_of 2 r s is ≡ length s.rows + lost_in s.sites + granted_of 1 r s is
rows_accounted r s [] t = refl
rows_accounted r s (i ∷ is) t =
    let o = step r s i in
    let u = (both_T (lost_below s) (stay_below r o.after is) t).1 in
    omega (arith, rows_accounted r o.after is u, accounts r s i (asking r s i) (plans r s i) (stays_now r o.after is u))
