-- One step, and a run of steps. Assumes nothing.
use Rattle.std.specs.Prelude.{ℕ, zero, suc, Bool, true, false, cond, ◌&&◌, List, [], ◌∷◌, map, ltb, leb, eqb, length, get_or, set, None, Option, Some}
use Rattle.level.specs.Level.{join}
use Rattle.belnap.specs.Belnap.{grants}
use Rattle.words.specs.Lists.{first_bad, first, insert_at, remove_at}
use Rattle.net.specs.Net.{State, Rules, store_limit, site_at, action_at, row_at, program, held, names, place_of, is_variable, fields_of, values_of}
use Rattle.policy.specs.Match.{fits, bound}
use Rattle.policy.specs.House.{name, judge}
use Rattle.policy.specs.declared.Act.{Act}
use Rattle.net.specs.declared.Operand.{Operand}
use Rattle.net.specs.declared.Site.{Site}
use Rattle.net.specs.declared.Action.{Action}
use Rattle.net.specs.declared.Row.{Row}
use Rattle.stepping.specs.declared.Answer.{Answer}
use Rattle.stepping.specs.declared.Answer.TheVariants.{Granted, Done, Denied, NoMatch, NoPlace, NoSite, NoNet}

-- the paper's number of each answer
abbrev pub number_of : Answer → ℕ
number_of Granted = 0
number_of Done = 1
number_of Denied = 2
number_of NoMatch = 3
number_of NoPlace = 4
number_of NoSite = 5
number_of NoNet = 6

abbrev pub is_granted : Answer → Bool
is_granted a = eqb (number_of a) 0

-- what a step gives: the answer, and the state after it
pub record Out : Type 0 where
  pub answer : Answer
  pub after : State

abbrev pub answered : Answer → State → Out
answered a s = record { answer = a; after = s }

-- ---- steps 1 to 3: an answer already, or an action to be judged
pub data Start : Type 0 where
  stop : Answer → Start
  go : Act → Start

-- an operand with the value of a used variable in its place
abbrev pub resolved : List ℕ → Operand → Operand
resolved vars x = cond (is_variable x) (name (get_or vars x.value 0)) x

abbrev pub resolved_action : List ℕ → Action → Action
resolved_action vars x = record {
  owner = x.owner;
  zero = x.zero;
  capability = x.capability;
  count = x.count;
  target = resolved vars x.target;
  fields = map (resolved vars) x.fields;
}

-- the action that site i tries next
abbrev pub next : State → ℕ → Action
next s i = resolved_action (site_at s.sites i).vars (action_at (program i s.actions) (site_at s.sites i).position)

-- site i's next action, done at site t
abbrev pub doing : State → ℕ → ℕ → Act
doing s i t = record { source = i; target = t; action = next s i }

abbrev pub going : State → ℕ → Option ℕ → Start
going s i (Some t) = go (doing s i t)
going s i None = stop NoPlace

-- "1. Site number not below the number of sites: NOSITE. 2. Position at the program's end: DONE. 3. Target's value is no site's name: NOPLACE."
unfoldable pub start : State → ℕ → Start
start s i =
    cond (ltb i (length s.sites))
    (cond (ltb (site_at s.sites i).position (length (program i s.actions)))
    (going s i (place_of (names s.sites) (next s i).target.value))
    (stop Done))
    (stop NoSite)

-- ---- step 5: the row that take and read choose
-- it stands at the target and fits the action's fields
abbrev pub hits : ℕ → Action → Row → Bool
hits target x r = eqb r.owner target && fits (fields_of x) (values_of r)

-- the oldest that hits
unfoldable pub oldest : ℕ → Action → List Row → Option ℕ
oldest target x l = first (λ k. hits target x (row_at l k)) (length l)

abbrev pub chosen : Act → List Row → Option ℕ
chosen act = oldest act.target act.action

-- ---- asking: what the step will do, steps 1 to 5. An answer that is no grant; a put; a take or read of row k
pub data Plan : Type 0 where
  refuse : Answer → Plan
  put : Act → Plan
  get : Act → ℕ → Plan

-- step 5: "None: NOMATCH."
abbrev pub getting : Act → Option ℕ → Plan
getting act (Some k) = get act k
getting act None = refuse NoMatch

abbrev pub allowed : State → Act → Plan
allowed s act = cond (eqb act.action.capability 1) (put act) (getting act (chosen act s.rows))

-- step 4: "If the value does not grant: DENIED."
abbrev pub judged : State → Act → Bool → Plan
judged s act true = allowed s act
judged s act false = refuse Denied

abbrev pub planned : Rules → State → Start → Plan
planned r s (stop a) = refuse a
planned r s (go act) = judged s act (grants (judge r s.sites s.rows act))

unfoldable pub asking : Rules → State → ℕ → Plan
asking r s i = planned r s (start s i)

-- ---- doing: what changes, step 6
abbrev pub change : (Site → Site) → ℕ → List Site → List Site
change f i l = set l i (f (site_at l i))

-- "Position goes up by one", with the variables as they are then
abbrev pub advance : List ℕ → Site → Site
advance vars x = record { name = x.name; s = x.s; c = x.c; o = x.o; hs = x.hs; ho = x.ho; position = suc x.position; lost = x.lost; vars = vars }

-- HO joined with what a writer brings: C and HS
abbrev pub marked : ℕ → ℕ → Site → Site
marked c hs x = record { name = x.name; s = x.s; c = x.c; o = x.o; hs = x.hs; ho = join (join x.ho c) hs; position = x.position; lost = x.lost; vars = x.vars }

-- the lost count "stays at 65,535"
abbrev pub loses : Site → Site
loses x = record { name = x.name; s = x.s; c = x.c; o = x.o; hs = x.hs; ho = x.ho; position = x.position; lost = cond (ltb x.lost 65535) (suc x.lost) x.lost; vars = x.vars }

-- HS joined with what a reader meets: O and HO
abbrev pub informed : ℕ → ℕ → Site → Site
informed o ho x = record { name = x.name; s = x.s; c = x.c; o = x.o; hs = join (join x.hs o) ho; ho = x.ho; position = x.position; lost = x.lost; vars = x.vars }

-- the row that a put adds
abbrev pub row_put : Act → Row
row_put act = record { owner = act.target; count = act.action.count; fields = map (λ x. x.value) act.action.fields }

-- where it is added: after the rows of the owners up to the target, so last of the target's
unfoldable pub place_for : ℕ → List Row → ℕ
place_for i l = first_bad (λ k. leb (row_at l k).owner i) (length l)

-- "with fewer than 16 rows the row is added last and HO(target) is joined with C and HS of the source; with 16, the row is dropped,
-- apart from the position only the target's lost count rises"
abbrev pub put_after : State → Act → Bool → State
put_after s act true =
    let x = site_at s.sites act.source in
    record {
      sites = change (marked x.c x.hs) act.target (change (advance x.vars) act.source s.sites);
      actions = s.actions;
      rows = insert_at (place_for act.target s.rows) (row_put act) s.rows;
    }
put_after s act false =
    let x = site_at s.sites act.source in
    record { sites = change loses act.target (change (advance x.vars) act.source s.sites); actions = s.actions; rows = s.rows }

abbrev pub has_room : State → Act → Bool
has_room s act = ltb (held act.target s.rows) store_limit

-- the source's variables after its fields met row k
abbrev pub bound_by : State → Act → ℕ → List ℕ
bound_by s act k = bound (fields_of act.action) (values_of (row_at s.rows k)) (site_at s.sites act.source).vars

-- "variables are bound, HS(source) is joined with O and HO of the target; take also removes that row, the others keep their order"
abbrev pub got_after : State → Act → ℕ → State
got_after s act k =
    let y = site_at s.sites act.target in
    record {
      sites = change (informed y.o y.ho) act.source (change (advance (bound_by s act k)) act.source s.sites);
      actions = s.actions;
      rows = cond (eqb act.action.capability 2) (remove_at k s.rows) s.rows;
    }

-- "GRANTED", or nothing changes
abbrev pub done : State → Plan → Out
done s (refuse a) = answered a s
done s (put act) = answered Granted (put_after s act (has_room s act))
done s (get act k) = answered Granted (got_after s act k)

-- ---- one step
abbrev pub step : Rules → State → ℕ → Out
step r s i = done s (asking r s i)

-- ---- a run: the answers, and the state at the end
abbrev pub answers : Rules → State → List ℕ → List Answer
answers r s [] = []
answers r s (i ∷ is) = (step r s i).answer ∷ answers r (step r s i).after is

abbrev pub final : Rules → State → List ℕ → State
final r s [] = s
final r s (i ∷ is) = final r (step r s i).after is
