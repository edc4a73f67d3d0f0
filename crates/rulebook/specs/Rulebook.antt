-- Which nodes and aspects are good: the rules of the house, as an image may hold them. Each rule speaks of the record with number k, given
-- all records of its kind, and says that it is good where those before it are. Assumes nothing.
use Rattle.std.specs.Prelude.{ℕ, ◌+◌, max, Bool, cond, ◌&&◌, ◌||◌, List, [], ◌∷◌, map, ltb, leb, eqb, length, get_or}
use Rattle.words.specs.Lists.{every, all_of, fill, count}
use Rattle.net.specs.Net.{depth_limit, node_at, aspect_at, place_of, is_there, cut_of}
use Rattle.net.specs.declared.Node.{Node}
use Rattle.net.specs.declared.Aspect.{Aspect}
use Rattle.rulebook.specs.Parts.{operand_ok, operands_ok, count_ok, capability_ok, speaks, owner_ok}

-- ---- nodes: conditions are kinds 1 to 8, recommendations 16 to 24
abbrev pub is_condition : Node → Bool
is_condition x = leb 1 x.kind && leb x.kind 8

abbrev pub is_advice : Node → Bool
is_advice x = leb 16 x.kind && leb x.kind 24

-- "One-child nodes use a; two-child nodes a, b"
abbrev pub has_two : ℕ → Bool
has_two kind = eqb kind 3 || (eqb kind 4 || leb 19 kind)

abbrev pub has_one : ℕ → Bool
has_one kind = eqb kind 2 || (eqb kind 8 || (eqb kind 17 || (eqb kind 18 || has_two kind)))

-- "a node refers only to lower nodes"; "Children of 2, 3, 4 and 17 are conditions, those of 8 and 18 to 24 recommendations"
abbrev pub child_ok : List Node → ℕ → ℕ → ℕ → Bool
child_ok l k kind j =
    ltb j k && cond (leb kind 4 || eqb kind 17) (is_condition (node_at l j)) (is_advice (node_at l j))

-- "A node without children has depth 1"; each other is one deeper than its deepest child
abbrev pub depth_of : Node → List ℕ → ℕ
depth_of x row = 1 + max (cond (has_one x.kind) (get_or row x.a 0) 0) (cond (has_two x.kind) (get_or row x.b 0) 0)

abbrev pub depths : List Node → ℕ → List ℕ
depths l = fill (λ k row. depth_of (node_at l k) row)

-- "test keeps its place's name in a, which must be a site; 16 keeps 0..3 in a"; dominates keeps two terms in a, b
abbrev pub first_ok : List ℕ → List Node → ℕ → Node → Bool
first_ok places l k x =
    cond (has_one x.kind) (child_ok l k x.kind x.a)
    (cond (eqb x.kind 6) (is_there (place_of places x.a))
    (leb x.a (cond (eqb x.kind 7) 7 (cond (eqb x.kind 16) 3 0))))

abbrev pub second_ok : List Node → ℕ → Node → Bool
second_ok l k x =
    cond (has_two x.kind) (child_ok l k x.kind x.b) (leb x.b (cond (eqb x.kind 7) 7 0))

-- "Equal allows 0, 1; test 0, 1, 3"; "Counts of fields are 1..4; other nodes have count 0"
abbrev pub asked_ok : Node → Bool
asked_ok x =
    cond (eqb x.kind 6) (count_ok x.count && operands_ok (0 ∷ 1 ∷ 3 ∷ []) x.count x.fields)
    (eqb x.count 0 && operands_ok (0 ∷ 1 ∷ []) (cond (eqb x.kind 5) 2 0) x.fields)

abbrev pub node_rules : List ℕ → List Node → ℕ → Node → List Bool
node_rules places l k x =
    (is_condition x || is_advice x)
    ∷ eqb x.zero 0
    ∷ first_ok places l k x
    ∷ second_ok l k x
    ∷ asked_ok x
    ∷ leb (depth_of x (depths l k)) depth_limit
    ∷ []

unfoldable pub node_ok : List ℕ → List Node → ℕ → Bool
node_ok places l k = all_of (node_rules places l k (node_at l k))

-- ---- aspects
abbrev pub aspect_rules : ℕ → List Node → List Aspect → ℕ → Aspect → List Bool
aspect_rules sites nodes l k x =
    owner_ok sites (map (λ y. y.owner) l) k
    ∷ capability_ok x.capability
    ∷ count_ok x.count
    ∷ eqb x.zero 0
    -- "aspect source and target 0, 1, 3; aspect fields 0, 1, 3, 4"
    ∷ operand_ok (0 ∷ 1 ∷ 3 ∷ []) x.source
    ∷ operand_ok (0 ∷ 1 ∷ 3 ∷ []) x.target
    ∷ operands_ok (0 ∷ 1 ∷ 3 ∷ 4 ∷ []) x.count x.fields
    -- "An aspect's cut takes no variable twice."
    ∷ every (λ v. leb (count (speaks 1 v) (cut_of x)) 1) 8
    -- "An aspect names one of each sort"
    ∷ ltb x.condition (length nodes)
    ∷ is_condition (node_at nodes x.condition)
    ∷ ltb x.recommendation (length nodes)
    ∷ is_advice (node_at nodes x.recommendation)
    ∷ []

unfoldable pub aspect_ok : ℕ → List Node → List Aspect → ℕ → Bool
aspect_ok sites nodes l k = all_of (aspect_rules sites nodes l k (aspect_at l k))
