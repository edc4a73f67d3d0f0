-- When one net's rules add to another's. Assumes nothing.
use Rattle.std.specs.Prelude.{◌≡◌}
use mathlib.Core.List.{List, ◌++◌, Memᴰ}
use Rattle.net.specs.Net.{Rules}
use Rattle.net.specs.declared.Node.{Node}
use Rattle.net.specs.declared.Aspect.{Aspect}

-- the second rules keep each aspect of the first, and so under its owner, in any position; their node table begins with the first's
pub record Adds (r₁ r₂ : Rules) : Type 0 where
  pub extra : List Node
  pub begins : r₂.nodes ≡ r₁.nodes ++ extra
  pub keeps : (a : Aspect) → Memᴰ a r₁.aspects → Memᴰ a r₂.aspects
