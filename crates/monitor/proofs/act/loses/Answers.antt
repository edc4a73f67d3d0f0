-- `monitor::act::loses` meets its contract: the count goes up by one, and stays at the most that it can be. Assumes nothing.
use Rattle.std.proofs.Common.{◌≡◌, refl, ℕ, ◌+◌, ◌<◌, Bool, true, false, cond, ltb, suc, min, arith, rules}
use borrow.Author.Tests.{ltb-true, ltb-false}
use Rattle.monitor.proofs.act.loses.Goals as goal

up : (n : ℕ) → n < 65536 → min (n + 1) 65535 ≡ cond (ltb n 65535) (suc n) n
up n h = pick (ltb n 65535) refl
  where
    pick : (b : Bool) → ltb n 65535 ≡ b → min (n + 1) 65535 ≡ cond b (suc n) n
    pick true e = let l = ltb-true n 65535 e in omega arith
    pick false e = let l = ltb-false n 65535 e in omega arith

pub returns : goal.returns
returns c = rw (c.saturating_add.ensures, up c.args.x.lost (search rules))
