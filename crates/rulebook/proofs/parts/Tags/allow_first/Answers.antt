-- `rulebook::Tags::allow_first` meets its contract: the four are looked at one by one. Assumes nothing.
use Rattle.std.proofs.Common.{rules, ◌∙◌}
use Rattle.rulebook.specs.Parts.{tags_of}
use Rattle.rulebook.proofs.Chains.{both}
use Rattle.rulebook.proofs.Operands.{fields_ok_lem}
use Rattle.rulebook.proofs.parts.Tags.allow_first.Goals as goal

pub returns : goal.returns
returns c =
    both c.allow_at.ensures (both c.allow_at-2.ensures (both c.allow_at-3.ensures c.allow_at-4.ensures))
    ∙ fields_ok_lem (tags_of c.args.self.binds c.args.self.any c.args.self.binder) c.args.n c.args.l (search rules)
