-- Rules of the house: what an action may be cut by, what a node's value is, what a site's policy gives. Assumes nothing.
use Rattle.std.specs.Prelude.{ℕ, ◌+◌, ◌-◌, ◌%◌, Bool, true, false, cond, not, ◌&&◌, ◌||◌, List, [], ◌∷◌, map, ltb, eqb, length, get_or, take, set, replicate}
use Rattle.level.specs.Level.{dominates}
use Rattle.belnap.specs.Belnap.{grants, not_of, gather_of, operate_of}
use Rattle.words.specs.Lists.{fill, some, fit_all}
use Rattle.net.specs.Net.{Rules, site_at, node_at, names, place_of, is_at, is_name, is_variable, is_binding, is_any, is_binder, fields_of, values_of, cut_of, house}
use Rattle.net.specs.declared.Operand.{Operand}
use Rattle.net.specs.declared.Site.{Site}
use Rattle.net.specs.declared.Node.{Node}
use Rattle.net.specs.declared.Aspect.{Aspect}
use Rattle.net.specs.declared.Action.{Action}
use Rattle.net.specs.declared.Row.{Row}
use Rattle.policy.specs.Match.{through}
use Rattle.net.specs.Codes.{capability_code}
use Rattle.net.specs.declared.codes.Capability.{Capability}
use Rattle.net.specs.declared.codes.Capability.TheVariants.{Put, Take, Read}
use Rattle.policy.specs.declared.Act.{Act}
use Rattle.policy.specs.declared.rules.Term.{Term}
use Rattle.policy.specs.declared.rules.Term.TheVariants.{SourceS, SourceC, SourceO, SourceHs, TargetO, TargetHo, TargetS, TargetC}
use Rattle.policy.specs.declared.rules.Rule.{Rule}

abbrev pub name : ℕ → Operand
name v = record { tag = 0; value = v }

-- an action about to be judged
abbrev pub act_of : ℕ → ℕ → Action → Act
act_of s t x = record { source = s; target = t; action = x }

-- ---- terms: "0 S, 1 C, 2 O, 3 HS of the source; 4 O, 5 HO, 6 S, 7 C of the target"
abbrev pub terms_of : Site → Site → List ℕ
terms_of x y = x.s ∷ x.c ∷ x.o ∷ x.hs ∷ y.o ∷ y.ho ∷ y.s ∷ y.c ∷ []

abbrev pub terms_in : List Site → Act → List ℕ
terms_in sites act = terms_of (site_at sites act.source) (site_at sites act.target)

-- ---- the mandatory rules: rows of capability, left term, right term, "each giving 2 where the left does not dominate the right, else 0"
abbrev pub term_number : Term → ℕ
term_number SourceS = 0
term_number SourceC = 1
term_number SourceO = 2
term_number SourceHs = 3
term_number TargetO = 4
term_number TargetHo = 5
term_number TargetS = 6
term_number TargetC = 7

abbrev pub demands : Capability → Term → Term → Rule
demands c l r = record { capability = c; left = l; right = r }

abbrev pub mandatory_rules : List Rule
mandatory_rules =
    -- put: O of the target over C and HS of the source
    demands Put TargetO SourceC
    ∷ demands Put TargetO SourceHs
    -- take: both these and those of read
    ∷ demands Take TargetO SourceC
    ∷ demands Take TargetO SourceHs
    ∷ demands Take SourceS TargetO
    ∷ demands Take SourceS TargetHo
    -- read: S of the source over O and HO of the target
    ∷ demands Read SourceS TargetO
    ∷ demands Read SourceS TargetHo
    ∷ []

abbrev pub rule_gives : ℕ → List ℕ → Rule → ℕ
rule_gives capability terms x =
    cond (eqb (capability_code x.capability) capability)
    (cond (dominates (get_or terms (term_number x.left) 0) (get_or terms (term_number x.right) 0)) 0 2)
    0

-- values gathered, none giving 0
abbrev pub gather_all : List ℕ → ℕ
gather_all [] = 0
gather_all (v ∷ l) = gather_of v (gather_all l)

unfoldable pub mandatory : ℕ → List ℕ → ℕ
mandatory capability terms = gather_all (map (rule_gives capability terms) mandatory_rules)

-- ---- cuts: "a name fits that name; a variable fits any value and takes it; "any" fits all; "binder" fits only a binding field.
-- Name and variable don't fit a binding field." The part of an action is a name or binds.
unfoldable pub pattern_fits : Operand → Operand → Bool
pattern_fits p x =
    cond (is_name p) (is_name x && eqb p.value x.value)
    (cond (is_variable p) (is_name x)
    (cond (is_any p) true
    (is_binder p && is_binding x)))

-- the action's parts as a cut sees them
abbrev pub facing : List Site → Act → List Operand
facing sites act = name (site_at sites act.source).name ∷ name (site_at sites act.target).name ∷ fields_of act.action

-- "It traps an action of the same capability and field count whose parts all fit"
unfoldable pub traps : List Site → Act → Aspect → Bool
traps sites act x =
    eqb x.capability act.action.capability
    && (eqb x.count act.action.count
    && fit_all pattern_fits (cut_of x) (facing sites act))

-- what the cut's variables take; the others are unset
unfoldable pub takes : Operand → Operand → List ℕ → List ℕ
takes p x vars = cond (is_variable p) (set vars p.value x.value) vars

unfoldable pub taken : List Site → Act → Aspect → List ℕ
taken sites act x = through takes (cut_of x) (facing sites act) (replicate 8 0)

-- ---- nodes: all that a node's value depends on but the node and the lower values
pub record Ask : Type 0 where
  pub sites : List Site
  pub rows : List Row
  pub terms : List ℕ
  pub vars : List ℕ

abbrev pub ask : List Site → List Row → List ℕ → List ℕ → Ask
ask sites rows terms vars = record { sites = sites; rows = rows; terms = terms; vars = vars }

-- an operand's value, 0 where its variable is unset
abbrev pub meant : List ℕ → Operand → ℕ
meant vars x = cond (is_variable x) (get_or vars x.value 0) x.value

-- a known value, and the same one: "An unset variable makes 5 and 6 false."
abbrev pub known : ℕ → ℕ → Bool
known v w = not (eqb v 0) && eqb v w

-- an operand of a test "fits names, variables and any"
unfoldable pub asks : List ℕ → Operand → ℕ → Bool
asks vars p v = is_any p || known (meant vars p) v

-- a row that a test looks for: it "has this count and fits"
unfoldable pub wanted : List ℕ → Node → Row → Bool
wanted vars x r = eqb r.count x.count && fit_all (asks vars) (take x.count x.fields) (values_of r)

-- "some row at the named place" is one
unfoldable pub test_of : List Site → List Row → List ℕ → Node → Bool
test_of sites rows vars x = some (λ r. is_at r.owner (place_of (names sites) x.a) && wanted vars x r) rows

-- A value tells its sort: a condition's is 0 or 1, a recommendation's is 4 more than its code. Of a value of the other sort, and of none,
-- `yes` is false and `advice` is 0: an accepted table has no such child.
abbrev pub yes : ℕ → Bool
yes v = eqb v 1

abbrev pub advice : ℕ → ℕ
advice v = (v - 4) % 4

-- 1 always, 2 not, 3 and, 4 or, 5 equal, 6 test, 7 dominates, 8 grants
unfoldable pub condition_of : Ask → Node → List ℕ → Bool
condition_of q x row =
    cond (eqb x.kind 1) true
    (cond (eqb x.kind 2) (not (yes (get_or row x.a 0)))
    (cond (eqb x.kind 3) (yes (get_or row x.a 0) && yes (get_or row x.b 0))
    (cond (eqb x.kind 4) (yes (get_or row x.a 0) || yes (get_or row x.b 0))
    (cond (eqb x.kind 5) (known (meant q.vars (get_or x.fields 0 (name 0))) (meant q.vars (get_or x.fields 1 (name 0))))
    (cond (eqb x.kind 6) (test_of q.sites q.rows q.vars x)
    (cond (eqb x.kind 7) (dominates (get_or q.terms x.a 0) (get_or q.terms x.b 0))
    (cond (eqb x.kind 8) (grants (advice (get_or row x.a 0)))
    false)))))))

-- 16 constant, 17 of a condition (1 or 2), 18 not, 19 and, 20 or, 21 consensus, 22 gather, 23 implies, 24 before
unfoldable pub advice_of : Node → List ℕ → ℕ
advice_of x row =
    cond (eqb x.kind 16) (x.a % 4)
    (cond (eqb x.kind 17) (cond (yes (get_or row x.a 0)) 1 2)
    (cond (eqb x.kind 18) (not_of (advice (get_or row x.a 0)))
    (operate_of (x.kind - 19) (advice (get_or row x.a 0)) (advice (get_or row x.b 0)))))

unfoldable pub value_of : Ask → Node → List ℕ → ℕ
value_of q x row = cond (ltb x.kind 16) (cond (condition_of q x row) 1 0) (4 + advice_of x row)

-- the values of the lowest k nodes, lowest first, each from those before it
abbrev pub row_of : Ask → List Node → ℕ → List ℕ
row_of q nodes = fill (λ k row. value_of q (node_at nodes k) row)

abbrev pub value_at : Ask → List Node → ℕ → ℕ
value_at q nodes k = get_or (row_of q nodes (length nodes)) k 0

-- ---- policies: what the rules of the house say of an action, by the sites and the rows as they are
abbrev pub ask_of : List Site → List Row → Act → Aspect → Ask
ask_of sites rows act x = ask sites rows (terms_in sites act) (taken sites act x)

-- "Trapped with its condition true it gives its recommendation, else 0."
unfoldable pub gives : List Node → List Site → List Row → Act → Aspect → ℕ
gives nodes sites rows act x =
    let q = ask_of sites rows act x in
    cond (traps sites act x && yes (value_at q nodes x.condition)) (advice (value_at q nodes x.recommendation)) 0

-- "A site's policy gathers its aspects; none gives 0."
unfoldable pub policy : List Node → List Site → List Row → Act → ℕ → List Aspect → ℕ
policy nodes sites rows act site l = gather_all (map (gives nodes sites rows act) (house site l))

abbrev pub rules_of : List Node → List Aspect → Rules
rules_of nodes aspects = record { nodes = nodes; aspects = aspects }

-- "Gather the mandatory rules, the source's policy and the target's."
unfoldable pub judge : Rules → List Site → List Row → Act → ℕ
judge r sites rows act =
    gather_of (mandatory act.action.capability (terms_in sites act))
    (gather_of (policy r.nodes sites rows act act.source r.aspects) (policy r.nodes sites rows act act.target r.aspects))
