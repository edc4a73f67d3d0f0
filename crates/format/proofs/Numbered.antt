-- A test of each element of a list together with its number, as a test of each number. Assumes nothing.
use Rattle.std.specs.List.{list_all, enumerate_from}
use Rattle.std.proofs.lemmas.List.FromFn.{length-enumerate_from, get_or-enumerate_from}
use mathlib.Core.Path.{◌≡◌, refl, ap, sym, ◌∙◌}
use mathlib.Core.Bool.{Bool, ◌&&◌}
use mathlib.Core.List.{List, [], ◌∷◌}
use Prim.Native.Nat.{ℕ, ◌<◌}
use native.Mathlib.Nat.{zero-add}
use lib.ListN.{length, get_or}
use Rattle.words.specs.Lists.{every, all}
use Rattle.words.proofs.Truth.{is_T, T_is, same_truth}
use Rattle.words.proofs.First.{every_at, every_of}
use Rattle.words.proofs.Lists.{all_at, all_of_lem}

each : {A : Type 0} (test : A → Bool) (l : List A) → list_all test l ≡ all test l
each test [] = refl
each test (x ∷ l) = ap (λ (b : Bool). test x && b) (each test l)

module _ (test : ℕ × ℕ → Bool) (xs : List ℕ) (n : ℕ) (long : length xs ≡ n) where
  abbrev numbered : List (ℕ × ℕ)
  numbered = enumerate_from 0 xs

  many : length numbered ≡ n
  many = length-enumerate_from 0 xs ∙ long

  here : (k : ℕ) → k < n → test (get_or numbered k (0, 0)) ≡ test (k, get_or xs k 0)
  here k h = let i : k < length xs = rw long h in rw (get_or-enumerate_from 0 xs k (0, 0) i, zero-add k)

  pub each_numbered : list_all test numbered ≡ every (λ v. test (v, get_or xs v 0)) n
  each_numbered =
      let at = λ (v : ℕ). test (v, get_or xs v 0) in
      rw (each test numbered)
      (same_truth (all test numbered) (every at n)
      (λ t. every_of at n (λ k h. sym (here k h) ∙ T_is _ (all_at test numbered (0, 0) t k (rw many h))))
      (λ t. all_of_lem test numbered (0, 0) (λ k h. let i : k < n = rw many at h in is_T _ (here k i ∙ every_at at n t k i))))
