-- Steps of the check that no rule names: what the code works out before it decides. Assumes nothing.
use Rattle.std.specs.Prelude.{ℕ, Bool, true, cond, not, ◌&&◌, ◌||◌, List, [], ◌∷◌, ltb, leb, eqb, length, get_or, take, drop, Option, Some, None}
use Rattle.words.specs.Lists.{all_of, some}
use Rattle.net.specs.Net.{depth_limit, node_at, place_of, is_there}
use Rattle.net.specs.declared.Operand.{Operand}
use Rattle.net.specs.declared.Node.{Node}
use Rattle.net.specs.declared.Aspect.{Aspect}
use Rattle.rulebook.specs.Parts.{speaks}
use Rattle.rulebook.specs.Rulebook.{is_condition, is_advice, has_one, has_two, depth_of, node_rules, aspect_rules}
use Rattle.rulebook.specs.declared.nodes.Part.{Part}
use Rattle.rulebook.specs.declared.nodes.Part.TheVariants.{Condition, Advice, Place, UpTo}

-- ---- variables: an operand, where it has this tag, speaks of a variable that none of these speaks of with the tag
unfoldable pub alone : ℕ → Operand → List Operand → Bool
alone tag x l = not (eqb x.tag tag) || not (some (speaks tag x.value) l)

-- no two of these, with this tag, speak of one variable
unfoldable pub once_each : ℕ → List Operand → Bool
once_each tag [] = true
once_each tag (x ∷ l) = alone tag x l && once_each tag l

-- ---- nodes: what stands in a and in b, by the node's kind. A child is a condition or a recommendation
abbrev pub child_part : ℕ → Part
child_part kind = cond (leb kind 4 || eqb kind 17) Condition Advice

-- a: a child, the name of a test's place, a term of dominates, the value of a constant, or nothing
abbrev pub first_part : ℕ → Part
first_part kind =
    cond (has_one kind) (child_part kind) (cond (eqb kind 6) Place (UpTo (cond (eqb kind 7) 7 (cond (eqb kind 16) 3 0))))

-- b: a child, a term of dominates, or nothing
abbrev pub second_part : ℕ → Part
second_part kind = cond (has_two kind) (child_part kind) (UpTo (cond (eqb kind 7) 7 0))

-- both; conditions are kinds 1 to 8, recommendations 16 to 24, and no node has another kind
abbrev pub parts_of : ℕ → Option (Part × Part)
parts_of kind =
    cond ((leb 1 kind && leb kind 8) || (leb 16 kind && leb kind 24)) (Some (first_part kind, second_part kind)) None

-- the depth of child j, which has to pass a test, of the node after a row, which has the depths of those before it
abbrev pub child_depth : (Node → Bool) → List Node → List ℕ → ℕ → Option ℕ
child_depth sort l row j = cond (ltb j (length row) && sort (node_at l j)) (Some (get_or row j 0)) None

-- the depth of what stands in a part of that node, 0 of what is no child, where it is good
abbrev pub part_depth : List ℕ → List Node → List ℕ → Part → ℕ → Option ℕ
part_depth places l row Condition j = child_depth is_condition l row j
part_depth places l row Advice j = child_depth is_advice l row j
part_depth places l row Place name = cond (is_there (place_of places name)) (Some 0) None
part_depth places l row (UpTo most) n = cond (leb n most) (Some 0) None

-- one is good but for its depth, the last of its rules
unfoldable pub shape_ok : List ℕ → List Node → ℕ → Node → Bool
shape_ok places l k x = all_of (take 5 (node_rules places l k x))

-- the depth of the node after a row, where it is good and that depth allowed
unfoldable pub good_depth : List ℕ → List Node → List ℕ → Option ℕ
good_depth places l row =
    let x = node_at l (length row) in
    cond (shape_ok places l (length row) x && leb (depth_of x row) depth_limit) (Some (depth_of x row)) None

-- ---- aspects: of its rules, those that speak of its record alone, of its head and of its cut; and of the nodes that it names
abbrev pub head_ok : Aspect → Bool
head_ok x = all_of (take 3 (drop 1 (aspect_rules 0 [] [] 0 x)))

abbrev pub cut_rules : Aspect → List Bool
cut_rules x = take 4 (drop 4 (aspect_rules 0 [] [] 0 x))

unfoldable pub cut_ok : Aspect → Bool
cut_ok x = all_of (cut_rules x)

abbrev pub names_ok : List Node → Aspect → Bool
names_ok nodes x = all_of (drop 8 (aspect_rules 0 nodes [] 0 x))
