-- The rule of the six tables, once for all of them: the constant is the list that the rule builds, by computation, and each entry of a
-- built list is the rule's. Assumes nothing.
use mathlib.Core.Path.{◌≡◌}
use mathlib.Core.List.{List, []}
use Prim.Native.Nat.{ℕ, ◌<◌}
use lib.ListN.{get_or}
use Rattle.words.specs.Tables.{build}
use Rattle.words.proofs.Tables.{get_or-build}
use Rattle.belnap.specs.Belnap.{operate_of}
use Rattle.belnap.proofs.Laws.{operate_lt}

-- the six tables, as the rules build them
abbrev pub tables : List (List (List ℕ))
tables = build 6 (λ k. build 4 (λ p. build 4 (operate_of k p)))

abbrev entry : ℕ → ℕ → ℕ → ℕ
entry k p q = get_or (get_or (get_or tables k []) p []) q 0

entry_is : (k p q : ℕ) → k < 6 → p < 4 → q < 4 → entry k p q ≡ operate_of k p q
entry_is k p q hk hp hq =
    rw (get_or-build 6 (λ i. build 4 (λ j. build 4 (operate_of i j))) k [] hk, get_or-build 4 (λ j. build 4 (operate_of k j)) p [] hp) (get_or-build 4 (operate_of k p) q 0 hq)

-- each entry is the rule's, and a value
pub built : (k p q : ℕ) → k < 6 → p < 4 → q < 4 → (entry k p q ≡ operate_of k p q) × (entry k p q < 4)
built k p q hk hp hq = let e = entry_is k p q hk hp hq in (e, rw e (operate_lt k p q hp hq))
