-- Doing what asking found: a grant stands for a put or a get that memory is ready for, and any other answer leaves the net. Assumes nothing.
use Rattle.std.specs.Prelude.{Ok}
use mathlib.Core.Path.{◌≡◌, sym, ap, ◌∙◌}
use mathlib.Core.Bool.{true}
use mathlib.Core.List.{List}
use Prim.Native.Nat.{ℕ, ◌<◌}
use lib.Dec.{T, eqb}
use lib.ListN.{length}
use borrow.Author.Tests.{eqb-true}
use Rattle.words.specs.Lists.{all}
use Rattle.words.specs.Bytes.{Bytes}
use Rattle.words.proofs.Truth.{both_left}
use Rattle.net.specs.Records.{site_fits}
use Rattle.net.specs.Net.{State, Rules, row_at}
use Rattle.policy.specs.declared.Act.{Act}
use Rattle.format.proofs.Verdicts.{formed_fits}
use Rattle.stepping.specs.Step.{Plan, refuse, put, get, has_room, put_after, got_after, asking, done, step}
use Rattle.stepping.specs.declared.Answer.{Answer}
use Rattle.stepping.specs.declared.Answer.TheVariants.{Granted}
use Rattle.stepping.proofs.StepLaws.{Begun, chosen-hits, asked_put, asked_get}
use Rattle.stepping.proofs.Keeps.{next_small, step_keeps}
use Rattle.monitor.specs.Memory.{holds_net, rules_held, state_held, memory_with}
use Rattle.monitor.specs.Plan.{plan_of, act_in, stepped, Ready}
use Rattle.monitor.specs.declared.ask.Grant.{Grant}
use Rattle.monitor.specs.declared.ask.Grant.TheVariants.{Put, Get}
use Rattle.monitor.proofs.Holding.{held_memory, held_formed}

-- ---- the answer of a plan
pub granted_answer : (r : Rules) (s : State) (i : ℕ) (x : Grant) → plan_of (Ok x) ≡ asking r s i → Granted ≡ (step r s i).answer
granted_answer r s i (Put act) p = ap (λ (q : Plan). (done s q).answer) p
granted_answer r s i (Get act k) p = ap (λ (q : Plan). (done s q).answer) p

pub refused_answer : (r : Rules) (s : State) (i : ℕ) (a : Answer) → refuse a ≡ asking r s i → a ≡ (step r s i).answer
refused_answer r s i a p = ap (λ (q : Plan). (done s q).answer) p

-- ---- a grant is of the site that asked
pub granted_source : (r : Rules) (s : State) (i : ℕ) (x : Grant) → plan_of (Ok x) ≡ asking r s i → (act_in x).source ≡ i
granted_source r s i (Put act) p = ap (λ (a : Act). a.source) (asked_put r s i act (sym p)).tried
granted_source r s i (Get act k) p = ap (λ (a : Act). a.source) (asked_get r s i act k (sym p)).tried

-- ---- not granted: the net stays, and so does memory
pub tried_not : (m : List ℕ) (g : Bytes m) (e : holds_net m ≡ true) (i : ℕ) (a : Answer) → refuse a ≡ asking (rules_held m) (state_held m) i
    → m ≡ memory_with (rules_held m) (step (rules_held m) (state_held m) i).after
tried_not m g e i a p = held_memory m g e ∙ ap (λ (y : Plan). memory_with (rules_held m) (done (state_held m) y).after) p

-- ---- granted
module _ (m : List ℕ) (g : Bytes m) (e : holds_net m ≡ true) (i : ℕ) (act : Act) where
  abbrev r : Rules
  r = rules_held m

  abbrev s : State
  s = state_held m

  ready : Begun s i act.target → Ready m i act.target
  ready h = record { held = e; sited = record { source = h.source; target = h.target; small = next_small s r (held_formed m g e) i act.target h } }

  fits_after : (q : Plan) → q ≡ asking r s i → T (all site_fits (done s q).after.sites)
  fits_after q w =
      rw w (formed_fits (record { state = (step r s i).after; rules = r }) (step_keeps r s i (held_formed m g e))).sites

  module _ (p : put act ≡ asking r s i) where
    pub put_ready : Ready m i act.target
    put_ready = ready (asked_put r s i act (sym p)).begun

    pub put_fits : T (all site_fits (put_after s act (has_room s act)).sites)
    put_fits = fits_after (put act) p

    pub put_done : put_after s act (has_room s act) ≡ (step r s i).after
    put_done = ap (λ (q : Plan). (done s q).after) p

    pub put_memory : {n : List ℕ} → n ≡ memory_with r (put_after s act (has_room s act)) → n ≡ stepped m i
    put_memory w = w ∙ ap (memory_with r) put_done

  module _ (k : ℕ) (p : get act k ≡ asking r s i) where
    pub get_ready : Ready m i act.target
    get_ready = ready (asked_get r s i act k (sym p)).begun

    pub get_row : k < length s.rows
    get_row = (chosen-hits act s.rows k (asked_get r s i act k (sym p)).row).0

    pub get_owner : (row_at s.rows k).owner ≡ act.target
    get_owner =
        let h = (chosen-hits act s.rows k (asked_get r s i act k (sym p)).row).1 in
        eqb-true (row_at s.rows k).owner act.target (both_left (eqb (row_at s.rows k).owner act.target) _ h)

    pub get_fits : T (all site_fits (got_after s act k).sites)
    get_fits = fits_after (get act k) p

    pub get_done : got_after s act k ≡ (step r s i).after
    get_done = ap (λ (q : Plan). (done s q).after) p

    pub get_memory : {n : List ℕ} → n ≡ memory_with r (got_after s act k) → n ≡ stepped m i
    get_memory w = w ∙ ap (memory_with r) get_done
