-- What a search through the records of a table has found: the record where it stops, or none where it comes to the end. Assumes nothing.
use Rattle.std.specs.Prelude.{None, Some}
use mathlib.Core.Path.{◌≡◌, sym, subst}
use mathlib.Core.Bool.{Bool, false}
use mathlib.Core.List.{List}
use Prim.Native.Nat.{ℕ, ◌/◌, ◌≤◌, ◌<◌}
use native.Mathlib.Omega.{arith}
use lib.ListN.{length}
use Rattle.words.specs.Lists.{first_bad, first_failing}
use Rattle.words.specs.Tables.{table_of}
use Rattle.words.proofs.First.{failing_none, failing_here}
use Rattle.words.proofs.Tables.{table_length}

module _ {A : Type 0} (read : List ℕ → ℕ → A) (w : ℕ) (s : List ℕ) (ok : ℕ → Bool) (k n : ℕ) (count : n ≡ length s / w) (good : first_bad ok k ≡ k) where
  pub stopped : ok k ≡ false → k < n → Some k ≡ first_failing ok (length (table_of read w s))
  stopped bad h = sym (failing_here ok k (length (table_of read w s)) good bad (omega (arith, table_length read w s)))

  pub ended : k ≤ n → n ≤ k → None ≡ first_failing ok (length (table_of read w s))
  ended h g =
      let e : k ≡ length (table_of read w s) = omega (arith, table_length read w s) in
      sym (failing_none ok (length (table_of read w s)) (subst (λ m. first_bad ok m ≡ m) e good))
