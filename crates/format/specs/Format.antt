-- Which nets are accepted: a rule for each kind of record, in the paper's order (those of nodes and aspects are the rulebook's). Each says of
-- the record with number k, given all records of its kind, that it is good where those before it are. Assumes nothing.
use Rattle.std.specs.Prelude.{ℕ, Bool, cond, not, ◌&&◌, ◌||◌, List, [], ◌∷◌, map, ltb, leb, eqb, length, get_or, take, drop}
use Rattle.std.specs.Bool.{beq}
use Rattle.words.specs.Lists.{every, before, all_of, all, some, count}
use Rattle.level.specs.Level.{dominates}
use Rattle.net.specs.Records.{site_fits, node_fits, aspect_fits, action_fits, row_fits}
use Rattle.net.specs.Net.{State, Rules, Net, most_sites, most_nodes, most_aspects, most_actions, most_rows, program_limit, store_limit, site_at, action_at, row_at, program, names, fields_of}
use Rattle.net.specs.declared.Operand.{Operand}
use Rattle.net.specs.declared.Site.{Site}
use Rattle.net.specs.declared.Action.{Action}
use Rattle.net.specs.declared.Row.{Row}
use Rattle.rulebook.specs.Parts.{operand_ok, operands_ok, count_ok, capability_ok, speaks, owner_ok, room_ok}
use Rattle.rulebook.specs.Rulebook.{node_ok, aspect_ok}

-- ---- sites: "Site names rise strictly", from 1; "S dominates C"
abbrev pub site_rules : List Site → ℕ → List Bool
site_rules l k =
    ltb (before (names l) k) (get_or (names l) k 0)
    ∷ dominates (site_at l k).s (site_at l k).c
    ∷ []

unfoldable pub site_ok : List Site → ℕ → Bool
site_ok l k = all_of (site_rules l k)

-- ---- actions
-- some action of a program binds variable v
abbrev pub binds : List Action → ℕ → Bool
binds l v = some (λ x. some (speaks 2 v) (fields_of x)) l

abbrev pub parts_of : Action → List Operand
parts_of x = x.target ∷ fields_of x

-- "no variable is bound twice or both bound and used, the target counted. A used variable is bound by an earlier action of that program."
abbrev pub variable_ok : List Action → Action → ℕ → Bool
variable_ok earlier x v =
    leb (count (speaks 2 v) (parts_of x)) 1
    && (not (some (speaks 1 v) (parts_of x)) || (not (some (speaks 2 v) (parts_of x)) && binds earlier v))

abbrev pub action_rules : ℕ → List Action → ℕ → Action → List Bool
action_rules sites l k x =
    owner_ok sites (map (λ y. y.owner) l) k
    ∷ room_ok program_limit (map (λ y. y.owner) l) k
    ∷ eqb x.zero 0
    ∷ capability_ok x.capability
    ∷ count_ok x.count
    -- "A target is a name or a used variable; a field may, in take and read, also bind a variable."
    ∷ operand_ok (0 ∷ 1 ∷ []) x.target
    ∷ operands_ok (cond (eqb x.capability 1) (0 ∷ 1 ∷ []) (0 ∷ 1 ∷ 2 ∷ [])) x.count x.fields
    ∷ every (variable_ok (program x.owner (take k l)) x) 8
    ∷ []

unfoldable pub action_ok : ℕ → List Action → ℕ → Bool
action_ok sites l k = all_of (action_rules sites l k (action_at l k))

-- ---- rows: "1 to 4 fields, each 1..65,535"
abbrev pub fields_ok : ℕ → List ℕ → Bool
fields_ok n l = all (λ v. not (eqb v 0)) (take n l) && all (eqb 0) (drop n l)

abbrev pub row_rules : ℕ → List Row → ℕ → Row → List Bool
row_rules sites l k x =
    owner_ok sites (map (λ y. y.owner) l) k
    ∷ room_ok store_limit (map (λ y. y.owner) l) k
    ∷ count_ok x.count
    ∷ fields_ok x.count x.fields
    ∷ []

unfoldable pub row_ok : ℕ → List Row → ℕ → Bool
row_ok sites l k = all_of (row_rules sites l k (row_at l k))

-- ---- state: not a site "whose position exceeds its action count, or whose variable is set otherwise than exactly when an action
-- before its position binds it"
abbrev pub placed : List Action → ℕ → List ℕ → List Bool
placed p position vars =
    leb position (length p)
    ∷ every (λ v. beq (not (eqb (get_or vars v 0) 0)) (binds (take position p) v)) 8
    ∷ []

unfoldable pub state_ok : List Action → List Site → ℕ → Bool
state_ok actions l k = all_of (placed (program k actions) (site_at l k).position (site_at l k).vars)

-- ---- nets: so many records of each kind, every number fits its place, every record is good
abbrev pub count_rules : State → Rules → List Bool
count_rules s r =
    leb 1 (length s.sites)
    ∷ leb (length s.sites) most_sites
    ∷ leb (length r.nodes) most_nodes
    ∷ leb (length r.aspects) most_aspects
    ∷ leb (length s.actions) most_actions
    ∷ leb (length s.rows) most_rows
    ∷ []

abbrev pub shape_rules : State → Rules → List Bool
shape_rules s r =
    all_of (count_rules s r)
    ∷ all site_fits s.sites
    ∷ all node_fits r.nodes
    ∷ all aspect_fits r.aspects
    ∷ all action_fits s.actions
    ∷ all row_fits s.rows
    ∷ []

-- a net that an accepted image has
abbrev pub net_rules : State → Rules → List Bool
net_rules s r =
    all_of (shape_rules s r)
    ∷ every (site_ok s.sites) (length s.sites)
    ∷ every (node_ok (names s.sites) r.nodes) (length r.nodes)
    ∷ every (aspect_ok (length s.sites) r.nodes r.aspects) (length r.aspects)
    ∷ every (action_ok (length s.sites) s.actions) (length s.actions)
    ∷ every (row_ok (length s.sites) s.rows) (length s.rows)
    ∷ every (state_ok s.actions s.sites) (length s.sites)
    ∷ []

unfoldable pub well_formed : Net → Bool
well_formed n = all_of (net_rules n.state n.rules)
