-- Up to site k every state is good, and `from` is the first action of site k or a later one.
use Rattle.std.proofs.Common.{◌≡◌, ℕ, List}
use Rattle.words.specs.Lists.{first_bad}
use Rattle.words.proofs.Groups.{below}
use Rattle.net.specs.Records.{no_action}
use Rattle.net.specs.Image.{sites_in, actions_in}
use Rattle.net.specs.declared.Action.{Action}
use Rattle.format.specs.Format.{state_ok}
use Rattle.format.proofs.states.Programs.first_bad_state.Given as goal

abbrev pub owner : Action → ℕ
owner x = x.owner

-- the actions of sites before site k
abbrev pub lower : List ℕ → ℕ → ℕ
lower s k = below owner no_action (actions_in s) k

abbrev pub invariant-loop-k : goal.invariant-loop-k
invariant-loop-k l = record {
  from : l.from ≡ lower l.self.actions.now l.k;
  good : first_bad (state_ok (actions_in l.self.actions.now) (sites_in l.sites)) l.k ≡ l.k;
}
