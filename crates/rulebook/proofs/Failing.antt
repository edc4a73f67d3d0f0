-- The first number at which a test fails, where there is one, as a search over a range finds it. Assumes nothing.
use mathlib.Core.Path.{◌≡◌, sym}
use mathlib.Core.Bool.{Bool, true, false}
use Prim.Native.Nat.{ℕ, ◌≤◌, ◌<◌, zero-le}
use lib.Dec.{eqb→eq}
use Rattle.std.specs.Prelude.{Option, Some, None}
use Rattle.std.specs.Option.{MatchOption}
use Rattle.words.specs.Lists.{first_bad, first_failing}
use Rattle.words.proofs.First.{every_of, failing_none, failing_here}

module _ (ok : ℕ → Bool) where
  below : (k : ℕ) → ((j : ℕ) → 0 ≤ j → j < k → ok j ≡ true) → first_bad ok k ≡ k
  below k f = eqb→eq (first_bad ok k) k (every_of ok k (λ j h. f j zero-le h))

  pub first_is_failing : (n : ℕ) (r : Option ℕ)
      → MatchOption r ((k : ℕ) → 0 ≤ k → k < n → ok k ≡ true) (λ i. (0 ≤ i) × (i < n) × (ok i ≡ false) × ((k : ℕ) → 0 ≤ k → k < i → ok k ≡ true))
      → r ≡ first_failing ok n
  first_is_failing n None f = sym (failing_none ok n (below n f))
  first_is_failing n (Some i) f = sym (failing_here ok i n (below i f.3) f.2 f.1)
