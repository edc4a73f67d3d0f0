-- What the code's answer to asking stands for, and what acting on it reads. Assumes nothing.
use Rattle.std.specs.Prelude.{◌≡◌, ℕ, suc, ◌+◌, ◌/◌, ◌<◌, true, cond, List, ltb, length, None, Option, Some, Result, Ok, Err}
use Rattle.words.specs.Tables.{count_below}
use Rattle.net.specs.Records.{action_width}
use Rattle.net.specs.Net.{State, store_limit, site_at, program, held}
use Rattle.net.specs.Image.{actions_in, state_in}
use Rattle.net.specs.declared.Action.{Action}
use Rattle.net.specs.declared.Site.{Site}
use Rattle.net.specs.declared.Row.{Row}
use Rattle.policy.specs.House.{act_of}
use Rattle.policy.specs.declared.Act.{Act}
use Rattle.stepping.specs.Step.{Start, stop, go, Plan, refuse, put, get, change, advance, marked, loses, informed, bound_by, place_for, asking, step}
use Rattle.stepping.specs.declared.Answer.{Answer}
use Rattle.stepping.specs.declared.Answer.TheVariants.{NoPlace}
use Rattle.monitor.specs.Memory.{image_in, holds_net, rules_held, state_held, memory_with}
use Rattle.monitor.specs.declared.ask.Grant.{Grant}
use Rattle.monitor.specs.declared.ask.Grant.TheVariants.{Put, Get}
use Rattle.monitor.specs.declared.act.Writes.{Writes}

-- step 3, of an action with its used variables resolved
abbrev pub toward : ℕ → Action → Option ℕ → Start
toward i x (Some t) = go (act_of i t x)
toward i x None = stop NoPlace

-- where action number p of site i stands among the actions of a body, if i has so many
abbrev pub next_in : List ℕ → ℕ → ℕ → Option ℕ
next_in b i p = cond (ltb p (length (program i (actions_in b)))) (Some (count_below b action_width (length b / action_width) i + p)) None

-- the plan that what asking found stands for
abbrev pub plan_of : Result Grant Answer → Plan
plan_of (Ok (Put act)) = put act
plan_of (Ok (Get act k)) = get act k
plan_of (Err a) = refuse a

-- the action of a grant
abbrev pub act_in : Grant → Act
act_in (Put act) = act
act_in (Get act k) = act

-- ---- on memory that holds a net: what a site would do, and memory after a step of the site
abbrev pub asked_of : List ℕ → ℕ → Plan
asked_of m i = asking (rules_held m) (state_held m) i

abbrev pub stepped : List ℕ → ℕ → List ℕ
stepped m i = memory_with (rules_held m) (step (rules_held m) (state_held m) i).after

-- ---- an image in which sites i and t are, and i can go one action further
pub record Sited (s : List ℕ) (i t : ℕ) : Type 0 where
  pub source : i < length (state_in s).sites
  pub target : t < length (state_in s).sites
  pub small : suc (site_at (state_in s).sites i).position < 65536

-- the source of a take or read of row k, after it
abbrev pub informed_by : State → Act → ℕ → Site
informed_by s act k =
    informed (site_at s.sites act.target).o (site_at s.sites act.target).ho (advance (bound_by s act k) (site_at s.sites act.source))

-- where a row of a put goes, if the store of site t has room for it
abbrev pub room_in : ℕ → List Row → Option ℕ
room_in t rows = cond (ltb (held t rows) store_limit) (Some (place_for t rows)) None

-- what a put will write
pub record Reads (s : State) (i t : ℕ) (x : Writes) : Type 0 where
  pub source : x.source ≡ advance (site_at s.sites i).vars (site_at s.sites i)
  pub target : x.target
      ≡ cond (ltb (held t s.rows) store_limit)
      (marked (site_at s.sites i).c (site_at s.sites i).hs (site_at (change (advance (site_at s.sites i).vars) i s.sites) t))
      (loses (site_at (change (advance (site_at s.sites i).vars) i s.sites) t))
  pub place : x.place ≡ room_in t s.rows

-- memory that holds a net in which sites i and t are, and i can go one action further
pub record Ready (m : List ℕ) (i t : ℕ) : Type 0 where
  pub held : holds_net m ≡ true
  pub sited : Sited (image_in m) i t
