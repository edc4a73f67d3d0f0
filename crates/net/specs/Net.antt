-- What a net is: five flat lists of records, in the image's order, each record with its owner inside. Assumes nothing.
use Rattle.std.specs.Prelude.{ℕ, ◌<◌, Bool, true, false, List, ◌∷◌, map, eqb, length, get_or, take, None, Option, Some}
use Rattle.words.specs.Lists.{first, those, count}
use Rattle.net.specs.Records.{no_site, no_node, no_aspect, no_action, no_row}
use Rattle.net.specs.declared.Operand.{Operand}
use Rattle.net.specs.declared.Site.{Site}
use Rattle.net.specs.declared.Node.{Node}
use Rattle.net.specs.declared.Aspect.{Aspect}
use Rattle.net.specs.declared.Action.{Action}
use Rattle.net.specs.declared.Row.{Row}

-- all that a step can read or change but the rules of the house
pub record State : Type 0 where
  pub sites : List Site
  pub actions : List Action
  pub rows : List Row

-- the rules of the house
pub record Rules : Type 0 where
  pub nodes : List Node
  pub aspects : List Aspect

pub record Net : Type 0 where
  pub state : State
  pub rules : Rules

-- ---- the limits
abbrev pub most_sites : ℕ
most_sites = 32

abbrev pub most_nodes : ℕ
most_nodes = 1024

abbrev pub most_aspects : ℕ
most_aspects = 256

abbrev pub most_actions : ℕ
most_actions = 512

abbrev pub most_rows : ℕ
most_rows = 512

abbrev pub program_limit : ℕ
program_limit = 16

abbrev pub store_limit : ℕ
store_limit = 16

abbrev pub depth_limit : ℕ
depth_limit = 8

-- ---- the records by number
abbrev pub site_at : List Site → ℕ → Site
site_at l k = get_or l k no_site

abbrev pub node_at : List Node → ℕ → Node
node_at l k = get_or l k no_node

abbrev pub aspect_at : List Aspect → ℕ → Aspect
aspect_at l k = get_or l k no_aspect

abbrev pub action_at : List Action → ℕ → Action
action_at l k = get_or l k no_action

abbrev pub row_at : List Row → ℕ → Row
row_at l k = get_or l k no_row

-- ---- the records of one owner, in order: a site's program, its store, its rules of the house
abbrev pub program : ℕ → List Action → List Action
program i = those (λ x. eqb x.owner i)

abbrev pub store : ℕ → List Row → List Row
store i = those (λ x. eqb x.owner i)

abbrev pub house : ℕ → List Aspect → List Aspect
house i = those (λ x. eqb x.owner i)

-- how many rows a site holds
abbrev pub held : ℕ → List Row → ℕ
held i = count (λ x. eqb x.owner i)

-- ---- names: "Site numbers count from 0 in order of name."
abbrev pub names : List Site → List ℕ
names = map (λ x. x.name)

-- the number of the site that has a name
unfoldable pub place_of : List ℕ → ℕ → Option ℕ
place_of l wanted = first (λ k. eqb (get_or l k 0) wanted) (length l)

-- names that rise, as those of an accepted net do, so that one is found by halving
abbrev pub Rising : List ℕ → Type 0
Rising l = (i j : ℕ) → i < j → j < length l → get_or l i 0 < get_or l j 0

-- a place is there; it is site i
abbrev pub is_there : Option ℕ → Bool
is_there (Some k) = true
is_there None = false

abbrev pub is_at : ℕ → Option ℕ → Bool
is_at i (Some k) = eqb i k
is_at i None = false

-- ---- operands: "0 name, 1 variable 0..7, 2 binds variable 0..7, 3 any, 4 binder"
abbrev pub is_name : Operand → Bool
is_name x = eqb x.tag 0

abbrev pub is_variable : Operand → Bool
is_variable x = eqb x.tag 1

abbrev pub is_binding : Operand → Bool
is_binding x = eqb x.tag 2

abbrev pub is_any : Operand → Bool
is_any x = eqb x.tag 3

abbrev pub is_binder : Operand → Bool
is_binder x = eqb x.tag 4

-- ---- the parts of an aspect's cut, the fields of an action, those of a row
abbrev pub cut_of : Aspect → List Operand
cut_of x = x.source ∷ x.target ∷ take x.count x.fields

abbrev pub fields_of : Action → List Operand
fields_of x = take x.count x.fields

abbrev pub values_of : Row → List ℕ
values_of x = take x.count x.fields
