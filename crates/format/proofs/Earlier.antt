-- What is known of the actions before action k while the check goes through them: they are good, none has a later owner than the last of them,
-- and the set has what the program of that owner binds so far. So the rules of action k are those that the check tests. Assumes nothing.
use mathlib.Core.Path.{◌≡◌, refl, sym, ap, ◌∙◌}
use mathlib.Core.Bool.{Bool, true, false, cond, not, ◌&&◌, and_assoc}
use mathlib.Core.List.{List, [], ◌∷◌, ◌++◌, map}
use mathlib.Core.Logic.{⊎_elim}
use Prim.Native.Nat.{ℕ, ◌+◌, ◌≤◌, ◌<◌}
use native.Mathlib.Nat.{not-suc-le-zero, le_of_suc-le-suc, eq-or-lt_of_le}
use native.Mathlib.Numerals.{add-one}
use native.Mathlib.Omega.{arith}
use lib.Bits.{bit_or}
use lib.Dec.{T, ltb, eqb, leb→le}
use lib.ListN.{length, get_or, take}
use lib.Seq.{get_or-take, length-take-le, take-suc}
use borrow.Author.Tests.{eqb-true, eqb-false, ne_eqb, eq-eqb}
use Rattle.words.specs.Lists.{first_bad, every, before, all, all_of}
use Rattle.words.proofs.Truth.{both_T, is_T, part}
use Rattle.words.proofs.First.{first_none, first_more, every_at}
use Rattle.words.proofs.Lists.{all_of_lem}
use Rattle.words.proofs.Groups.{those_none, those-append}
use Rattle.net.specs.Records.{no_action}
use Rattle.net.specs.Net.{program_limit, action_at, program, fields_of}
use Rattle.net.specs.declared.Action.{Action}
use Rattle.rulebook.specs.Parts.{tags_of, operand_ok, count_ok, capability_ok, owner_ok, room_ok}
use Rattle.format.specs.Format.{action_rules, action_ok, variable_ok}
use Rattle.format.specs.Steps.{set_of, bound_by, parts_ok, operands_good, form_rules}
use Rattle.format.proofs.Order.{never_fell, owner_of}
use Rattle.format.proofs.Parts.{parts}
use Rattle.format.proofs.Programs.{bound_none, bound_more}

abbrev pub owners : List Action → List ℕ
owners = map (λ x. x.owner)

pub record Earlier (sites : ℕ) (l : List Action) (k last bound : ℕ) : Type 0 where
  pub good : first_bad (action_ok sites l) k ≡ k
  pub highest : (j : ℕ) → j < k → get_or (owners l) j 0 ≤ last
  pub latest : last ≡ before (owners l) k
  pub binds : bound ≡ bound_by (program last (take k l))

-- the last of some tests may be another that agrees with it where those before it hold
last_same : (l : List Bool) (a b : Bool) → (T (all_of l) → a ≡ b) → all_of (l ++ (a ∷ [])) ≡ all_of (l ++ (b ∷ []))
last_same [] a b f = f tt
last_same (true ∷ []) a b f = f tt
last_same (false ∷ []) a b f = refl
last_same (true ∷ y ∷ l) a b f = last_same (y ∷ l) a b f
last_same (false ∷ y ∷ l) a b f = refl

-- the tags of an action's fields: a put binds nothing
field_tags : (put : Bool) → cond put (0 ∷ 1 ∷ []) (0 ∷ 1 ∷ 2 ∷ []) ≡ tags_of (not put) false false
field_tags true = refl
field_tags false = refl

-- the operands of a good action are good, and those of good actions
pub action_good : (sites : ℕ) (l : List Action) (k : ℕ) → action_ok sites l k ≡ true → T (operands_good (action_at l k))
unfolding action_ok
action_good sites l k e = rw (← field_tags (eqb (action_at l k).capability 1)) (part (action_rules sites l k (action_at l k)) (is_T _ e) 6)

pub actions_good : (sites : ℕ) (l : List Action) → T (every (action_ok sites l) (length l)) → T (all operands_good l)
actions_good sites l t = all_of_lem operands_good l no_action (λ k h. action_good sites l k (every_at (action_ok sites l) (length l) t k h))

module _ (sites : ℕ) (l : List Action) (k : ℕ) where
  abbrev here : Action
  here = action_at l k

  owner_good : (j : ℕ) → action_ok sites l j ≡ true → T (owner_ok sites (owners l) j)
  unfolding action_ok
  owner_good j e = part (action_rules sites l j (action_at l j)) (is_T _ e) 0

  abbrev rules : List Bool
  rules =
      owner_ok sites (owners l) k
      ∷ room_ok program_limit (owners l) k
      ∷ eqb here.zero 0
      ∷ capability_ok here.capability
      ∷ count_ok here.count
      ∷ operand_ok (tags_of false false false) here.target
      ∷ operands_good here
      ∷ []

  -- the rules of action k, with the variables that its program binds so far as a set
  pub rules_with : (bound : ℕ) → (T (owner_ok sites (owners l) k) → bound ≡ bound_by (program here.owner (take k l)))
      → ((owner_ok sites (owners l) k && room_ok program_limit (owners l) k) && all_of (form_rules bound here)) ≡ action_ok sites l k
  unfolding action_ok
  rules_with bound f =
      let p = program here.owner (take k l) in
      and_assoc (owner_ok sites (owners l) k) (room_ok program_limit (owners l) k) (all_of (form_rules bound here))
      ∙ sym (last_same rules (every (variable_ok p here) 8) (parts_ok bound here.target (fields_of here))
      (λ t. parts p here (part rules t 5) ∙ ap (λ (b : ℕ). parts_ok b here.target (fields_of here)) (sym (f (part rules t 0)))))
      ∙ rw (field_tags (eqb here.capability 1))

  module _ (last bound : ℕ) (e : Earlier sites l k last bound) where
    -- owners never fall so far
    pub in_order : (j : ℕ) → j < k → before (owners l) j ≤ get_or (owners l) j 0
    in_order = never_fell sites (owners l) k (action_ok sites l) owner_good e.good

    owner_is : get_or (owners l) k 0 ≡ here.owner
    owner_is = owner_of (λ x. x.owner) no_action refl l k

    risen : T (owner_ok sites (owners l) k) → last ≤ here.owner
    risen t =
        let h = leb→le (before (owners l) k) (get_or (owners l) k 0) (both_T (ltb (get_or (owners l) k 0) sites) _ t).1 in
        omega (arith, e.latest, owner_is)

    module _ (inside : k < length l) where
      -- where a program begins no earlier action is of its owner
      begins : T (owner_ok sites (owners l) k) → eqb here.owner last ≡ false → program here.owner (take k l) ≡ []
      begins t q =
          those_none (λ x. eqb x.owner here.owner) (take k l) no_action (λ j h.
          let b : j < k = omega (arith, length-take-le k l (omega arith)) in
          rw (get_or-take k l j no_action b)
          (ne_eqb (action_at l j).owner here.owner (λ z. eqb-false here.owner last q (omega (arith, e.highest j b, owner_of (λ x. x.owner) no_action refl l j, risen t)))))

      -- the set for action k
      pub bound-now : T (owner_ok sites (owners l) k) → cond (eqb here.owner last) bound 0 ≡ bound_by (program here.owner (take k l))
      bound-now t = pick (eqb here.owner last) refl
        where
          pick : (b : Bool) → eqb here.owner last ≡ b → cond b bound 0 ≡ bound_by (program here.owner (take k l))
          pick true q = e.binds ∙ ap (λ (o : ℕ). bound_by (program o (take k l))) (sym (eqb-true here.owner last q))
          pick false q = sym (ap bound_by (begins t q) ∙ bound_none)

      -- one action more
      pub earlier_more : action_ok sites l k ≡ true → {after : ℕ} → after ≡ bit_or (cond (eqb here.owner last) bound 0) (set_of 2 (fields_of here))
          → Earlier sites l (k + 1) here.owner after
      earlier_more ok f =
          let t = owner_good k ok in
          let o = here.owner in
          record {
            good = first_more (action_ok sites l) k e.good ok;
            highest = λ j h. ⊎_elim (λ q. rw q (omega (arith, owner_is))) (λ b. omega (arith, e.highest j b, risen t)) (eq-or-lt_of_le (le_of_suc-le-suc (rw (add-one k) at h)));
            latest = rw (add-one k) (sym owner_is);
            binds =
                f ∙ rw (bound-now t)
                (bound_more (program o (take k l)) here
                ∙ ap bound_by (sym (rw (add-one k, take-suc l k no_action inside, those-append (λ x. eqb x.owner o) (take k l) (here ∷ []), eq-eqb o o refl))));
          }

-- none yet
pub earlier_none : (sites : ℕ) (l : List Action) → Earlier sites l 0 0 0
earlier_none sites l = record { good = first_none (action_ok sites l); highest = λ j h. absurd (not-suc-le-zero h); latest = refl; binds = sym bound_none }
