-- How the code goes through the rules, for its contracts: it keeps variables as sets, a bit for each of the eight, where the rule
-- `variable_ok` speaks of each variable by itself, and gives the last part of the verdict by itself. Theorems say that all this comes to the
-- rules of `Format` and `Verdict`. Assumes nothing.
use Rattle.std.specs.Prelude.{ℕ, ◌/◌, ◌%◌, ◌^◌, ◌<◌, ◌≡◌, Bool, true, false, cond, not, ◌&&◌, List, [], ◌∷◌, ltb, eqb, length, get_or, Result, Ok, Err}
use Rattle.std.specs.Int.Bits.{bit_and, bit_or}
use Rattle.net.specs.declared.Operand.{Operand}
use Rattle.net.specs.declared.Action.{Action}
use Rattle.rulebook.specs.Parts.{tags_of, operand_ok, operands_ok, count_ok, capability_ok}
use Rattle.net.specs.Records.{no_operand}
use Rattle.net.specs.Net.{State, fields_of}
use Rattle.format.specs.Verdict.{bad_action, bad_row, bad_state}
use Rattle.format.specs.declared.Refusal.{Refusal}
use Rattle.format.specs.declared.Refusal.TheVariants.{BadAction, BadRow, BadState}

-- ---- sets of the eight variables, a bit for each
abbrev pub in_set : ℕ → ℕ → Bool
in_set m v = eqb (m / 2 ^ v % 2) 1

-- where a part of an action has this tag its value is one of the eight; so it is of each of some parts
abbrev pub Ranged : ℕ → Operand → Type 0
Ranged tag x = x.tag ≡ tag → x.value < 8

abbrev pub EachRanged : ℕ → List Operand → Type 0
EachRanged tag l = (k : ℕ) → Ranged tag (get_or l k no_operand)

-- the variable of a part that has this tag; those of some parts
unfoldable pub bit_of : ℕ → Operand → ℕ
bit_of tag x = cond (eqb x.tag tag && ltb x.value 8) (2 ^ x.value) 0

unfoldable pub set_of : ℕ → List Operand → ℕ
set_of tag [] = 0
set_of tag (x ∷ l) = bit_or (bit_of tag x) (set_of tag l)

-- no two of some parts that have this tag have one variable
unfoldable pub apart : ℕ → List Operand → Bool
apart tag [] = true
apart tag (x ∷ l) = eqb (bit_and (bit_of tag x) (set_of tag l)) 0 && apart tag l

-- what the actions of a program bind
unfoldable pub bound_by : List Action → ℕ
bound_by [] = 0
bound_by (x ∷ p) = bit_or (set_of 2 (fields_of x)) (bound_by p)

-- the rule for variables, of a target and the fields in use: no variable is bound twice, those used are not bound here, but by earlier actions
unfoldable pub parts_ok : ℕ → Operand → List Operand → Bool
parts_ok bound target l =
    let uses = bit_or (bit_of 1 target) (set_of 1 l) in
    apart 2 l && (eqb (bit_and uses (set_of 2 l)) 0 && eqb (bit_and uses bound) uses)

-- the fields of an action are good: those in use as its capability has them, the others 0
abbrev pub operands_good : Action → Bool
operands_good x = operands_ok (tags_of (not (eqb x.capability 1)) false false) x.count x.fields

-- the rules of an action by itself, where `bound` has the variables that its program's earlier actions bind
abbrev pub form_rules : ℕ → Action → List Bool
form_rules bound x =
    eqb x.zero 0
    ∷ capability_ok x.capability
    ∷ count_ok x.count
    ∷ operand_ok (tags_of false false false) x.target
    ∷ operands_good x
    ∷ parts_ok bound x.target (fields_of x)
    ∷ []

-- ---- 16 to 18: the part of the verdict that turns on actions, rows and the state
unfoldable pub state_verdict : State → Result Unit Refusal
state_verdict s =
    cond (ltb (bad_action s) (length s.actions)) (Err (BadAction (bad_action s)))
    (cond (ltb (bad_row s) (length s.rows)) (Err (BadRow (bad_row s)))
    (cond (ltb (bad_state s) (length s.sites)) (Err (BadState (bad_state s)))
    (Ok tt)))
