-- Where the two ends of `words::count_below` meet is the first record that is not below the bound. Assumes nothing.
use Rattle.std.proofs.Common.{◌≡◌, ◌*◌, sym, ltb, get_or, arith}
use borrow.Author.Tests.{lt-ltb, le-ltb}
use Rattle.words.proofs.First.{first_is}
use Rattle.words.proofs.count_below.Goals as goal

pub returns : goal.returns
returns c =
    let l = c.loop-low in
    let a = c.args in
    let e : l.low ≡ l.high = omega arith in (
      sym (first_is (λ k. ltb (get_or a.s.now (a.w * k) 0) a.bound) a.n l.low (omega arith)
          (λ k h. lt-ltb _ _ (l.invariant.below k h))
          (λ h. le-ltb (get_or a.s.now (a.w * l.low) 0) a.bound (rw e (l.invariant.above (omega arith))))),
      omega arith,
    )
