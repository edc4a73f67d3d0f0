-- Nodes in their table, and the row of their depths: what the check works out of a node's parts is what the rules say of a and b, and its
-- answer is the depth of a good node. Assumes nothing.
use mathlib.Core.Path.{◌≡◌, refl, sym, ap, ◌∙◌}
use mathlib.Core.Bool.{Bool, true, false, cond, ◌&&◌, ◌||◌, and_assoc, and-false}
use mathlib.Core.List.{List, [], ◌∷◌, ◌++◌}
use Prim.Native.Nat.{ℕ, suc, ◌+◌, ◌*◌, ◌≤◌, ◌<◌}
use native.Mathlib.Omega.{arith}
use native.Mathlib.Numerals.{add-one}
use lib.Dec.{ltb, leb, eqb}
use lib.ListN.{length, get_or, take, set}
use Rattle.std.proofs.Math.Seq.{take-suc-set}
use Rattle.std.specs.Prelude.{max, Some, None}
use Rattle.std.proofs.lemmas.Option.{cond_some}
use Rattle.words.specs.Lists.{all_of, fill}
use Rattle.words.proofs.Truth.{no}
use Rattle.words.proofs.Lists.{length-fill}
use Rattle.words.proofs.Tables.{table_at}
use Rattle.net.specs.Records.{node_width, no_node, read_node}
use Rattle.net.specs.Net.{node_at, depth_limit, place_of, is_there}
use Rattle.net.specs.Image.{nodes_in}
use Rattle.net.specs.declared.Node.{Node}
use Rattle.rulebook.specs.declared.nodes.Part.{Part}
use Rattle.rulebook.specs.declared.nodes.Part.TheVariants.{Condition, Advice, Place, UpTo}
use Rattle.rulebook.specs.Rulebook.{is_condition, is_advice, has_one, has_two, first_ok, second_ok, asked_ok, depth_of, depths, node_rules, node_ok}
use Rattle.rulebook.specs.Steps.{first_part, second_part, parts_of, part_depth, shape_ok, good_depth}

-- ---- a node in its table, and its kind
pub node_is : (s : List ℕ) (k : ℕ) → 24 * k + 24 ≤ length s → node_at (nodes_in s) k ≡ read_node s (24 * k)
node_is s k h = table_at read_node node_width s k no_node (omega arith)

pub kind_is : (s : List ℕ) (k : ℕ) → 24 * k + 24 ≤ length s → (node_at (nodes_in s) k).kind ≡ get_or s (24 * k) 0
unfolding read_node
kind_is s k h = ap (λ x. x.kind) (node_is s k h)

-- ---- the last of some tests
all_last : (l : List Bool) (b : Bool) → all_of (l ++ (b ∷ [])) ≡ (all_of l && b)
all_last [] b = refl
all_last (a ∷ []) b = refl
all_last (a ∷ c ∷ l) b = ap (λ (t : Bool). a && t) (all_last (c ∷ l) b) ∙ sym (and_assoc a (all_of (c ∷ l)) b)

-- ---- what the parts of a node come to
none_of : {A : Type 0} (b : Bool) (x : A) → cond b (Some x) None ≡ None → b ≡ false
none_of true x e = no (cc)
none_of false x e = refl

-- a node of which only the byte that is 0, the operands and the depth are still to be looked at
left : (kind zero first second asked : Bool) (d : ℕ) → kind ≡ true → first ≡ true → second ≡ true
    → cond ((kind && (zero && (first && (second && asked)))) && leb (1 + d) depth_limit) (Some (1 + d)) None ≡ cond (zero && (asked && ltb d depth_limit)) (Some (1 + d)) None
left kind zero first second asked d k f s =
    let next : 1 + d ≡ suc d = omega arith in
    rw (k, f, s, next) (ap (λ (b : Bool). cond b (Some (suc d)) None) (and_assoc zero asked (ltb d depth_limit)))

module _ (places : List ℕ) (l : List Node) (row : List ℕ) where
  -- a child of one sort or the other, the name of a place, or a number up to this
  part_is : (child low place : Bool) (most v : ℕ) → part_depth places l row (cond child (cond low Condition Advice) (cond place Place (UpTo most))) v
      ≡ cond (cond child (ltb v (length row) && cond low (is_condition (node_at l v)) (is_advice (node_at l v))) (cond place (is_there (place_of places v)) (leb v most)))
      (Some (cond child (get_or row v 0) 0)) None
  part_is true true place most v = refl
  part_is true false place most v = refl
  part_is false low true most v = refl
  part_is false low false most v = refl

  -- what the rules say of a and b, and of the depth: where a rule holds, the part has the depth that it adds
  module _ (x : Node) where
    pub first_is : part_depth places l row (first_part x.kind) x.a ≡ cond (first_ok places l (length row) x) (Some (cond (has_one x.kind) (get_or row x.a 0) 0)) None
    first_is = part_is (has_one x.kind) (leb x.kind 4 || eqb x.kind 17) (eqb x.kind 6) (cond (eqb x.kind 7) 7 (cond (eqb x.kind 16) 3 0)) x.a

    pub second_is : part_depth places l row (second_part x.kind) x.b ≡ cond (second_ok l (length row) x) (Some (cond (has_two x.kind) (get_or row x.b 0) 0)) None
    second_is = part_is (has_two x.kind) (leb x.kind 4 || eqb x.kind 17) false (cond (eqb x.kind 7) 7 0) x.b

    -- a node whose kind, a or b is bad has no depth; each other is one deeper than its deeper part, where the rest is good
    module _ (same : x ≡ node_at l (length row)) where
      pub bad_kind : parts_of x.kind ≡ None → good_depth places l row ≡ None
      unfolding good_depth shape_ok
      bad_kind e = rw (← same, none_of (is_condition x || is_advice x) _ e)

      module _ (a b : Part) (of_kind : parts_of x.kind ≡ Some (a, b)) where
        kind_ok : (is_condition x || is_advice x) ≡ true
        kind_ok = (cond_some (is_condition x || is_advice x) _ (a, b) of_kind).0

        both : ◌≡◌ {A = Part × Part} (first_part x.kind, second_part x.kind) (a, b)
        both = (cond_some (is_condition x || is_advice x) _ (a, b) of_kind).1

        in_a : part_depth places l row a x.a ≡ cond (first_ok places l (length row) x) (Some (cond (has_one x.kind) (get_or row x.a 0) 0)) None
        in_a = ap (λ (p : Part × Part). part_depth places l row p.0 x.a) (sym both) ∙ first_is

        in_b : part_depth places l row b x.b ≡ cond (second_ok l (length row) x) (Some (cond (has_two x.kind) (get_or row x.b 0) 0)) None
        in_b = ap (λ (p : Part × Part). part_depth places l row p.1 x.b) (sym both) ∙ second_is

        pub bad_first : part_depth places l row a x.a ≡ None → good_depth places l row ≡ None
        unfolding good_depth shape_ok
        bad_first e = rw (← same) (simp (none_of (first_ok places l (length row) x) _ (sym in_a ∙ e), and-false))

        pub bad_second : part_depth places l row b x.b ≡ None → good_depth places l row ≡ None
        unfolding good_depth shape_ok
        bad_second e = rw (← same) (simp (none_of (second_ok l (length row) x) _ (sym in_b ∙ e), and-false))

        module _ (d e : ℕ) (f : part_depth places l row a x.a ≡ Some d) (s : part_depth places l row b x.b ≡ Some e) where
          good_parts : good_depth places l row ≡ cond (eqb x.zero 0 && (asked_ok x && ltb (max d e) depth_limit)) (Some (1 + max d e)) None
          unfolding good_depth shape_ok
          good_parts =
              let p = cond_some (first_ok places l (length row) x) _ d (sym in_a ∙ f) in
              let q = cond_some (second_ok l (length row) x) _ e (sym in_b ∙ s) in
              rw (← same, ← p.1, ← q.1)
              (left (is_condition x || is_advice x) (eqb x.zero 0) (first_ok places l (length row) x) (second_ok l (length row) x) (asked_ok x) _ kind_ok p.0 q.0)

          pub good_rest : (asked : Bool) (m : ℕ) → asked ≡ asked_ok x → m ≡ max d e → (eqb x.zero 0 && (asked && ltb m depth_limit)) ≡ true
              → good_depth places l row ≡ Some (1 + m)
          good_rest asked m p q t = good_parts ∙ rw (← p, ← q, t)

          pub bad_rest : (asked : Bool) (m : ℕ) → asked ≡ asked_ok x → m ≡ max d e → (eqb x.zero 0 && (asked && ltb m depth_limit)) ≡ false
              → good_depth places l row ≡ None
          bad_rest asked m p q t = good_parts ∙ rw (← p, ← q, t)

-- ---- whether a node is good
module _ (places : List ℕ) (l : List Node) (k : ℕ) where
  pub node-split : node_ok places l k ≡ (shape_ok places l k (node_at l k) && leb (depth_of (node_at l k) (depths l k)) depth_limit)
  unfolding node_ok shape_ok
  node-split = all_last (take 5 (node_rules places l k (node_at l k))) (leb (depth_of (node_at l k) (depths l k)) depth_limit)

  -- over the row of those before it, it has a depth if it is good, and that one
  pub depth_is : good_depth places l (depths l k) ≡ cond (node_ok places l k) (Some (depth_of (node_at l k) (depths l k))) None
  unfolding good_depth
  depth_is = rw (length-fill (λ j row. depth_of (node_at l j) row) k, node-split)

-- ---- a loop whose row begins with the depths of the nodes below k, and what it works out of node k
module _ (places : List ℕ) (l : List Node) (row : List ℕ) (k : ℕ) (e : take k row ≡ depths l k) where
  worked : good_depth places l (take k row) ≡ cond (node_ok places l k) (Some (depth_of (node_at l k) (depths l k))) None
  worked = ap (good_depth places l) e ∙ depth_is places l k

  pub bad_here : good_depth places l (take k row) ≡ None → node_ok places l k ≡ false
  bad_here n = none_of (node_ok places l k) _ (sym worked ∙ n)

  module _ (x : ℕ) (v : good_depth places l (take k row) ≡ Some x) where
    pub good_here : node_ok places l k ≡ true
    good_here = (cond_some (node_ok places l k) _ x (sym worked ∙ v)).0

    pub row_more : k < length row → take (k + 1) (set row k x) ≡ depths l (k + 1)
    unfolding fill
    row_more h = rw (add-one, take-suc-set row k x h, e, ← (cond_some (node_ok places l k) _ x (sym worked ∙ v)).1)
