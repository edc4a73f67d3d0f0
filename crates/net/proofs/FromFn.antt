-- An array made of a closure that gives the same at each number whenever it is called: the list that the rule builds. Each element is what
-- one call gave, and no call changes the closure. Assumes nothing.
use Rattle.std.proofs.Common.{◌≡◌, refl, sym, ◌∙◌, ℕ, zero, suc, ◌+◌, ◌<◌, List, get_or, arith, subst}
use native.Mathlib.Nat.{zero-add}
use denote.Param.Members.{Mut, Called}
use Rattle.std.specs.Array.{IsFromFnResult, IsFromFnResultFrom}
use Rattle.std.specs.Iterator.{ActsAs}
use Rattle.words.specs.Tables.{build}
use Rattle.words.proofs.Tables.{build_same, build_list}

module _ {F B : Type 0} (g : Mut F (ℕ × Unit {0}) B) (f : F) (h : ℕ → B) (acts : ActsAs g f h) (ys : List B) where
  -- the elements from number i on, whose calls began with the closure as it was
  from_calls : (p : F) (i n : ℕ) → p ≡ f → IsFromFnResultFrom g p ys i n → (k : ℕ) (d : B) → k < n → get_or ys (i + k) d ≡ h (i + k)
  from_calls p i zero e r k d l = absurd (let z : ⊥ = omega arith in z)
  from_calls p i (suc n) e r zero d l =
      let c = acts i r.1 r.0 (subst (λ x. Called g x (i, tt) r.1 r.0) e r.3) in
      let s : i + 0 ≡ i = omega arith in
      rw s (r.2.1 d ∙ c.1)
  from_calls p i (suc n) e r (suc k) d l =
      let c = acts i r.1 r.0 (subst (λ x. Called g x (i, tt) r.1 r.0) e r.3) in
      let s : i + suc k ≡ i + 1 + k = omega arith in
      rw s (from_calls r.0 (i + 1) n c.0 r.4 k d (omega arith))

  pub from_fn_builds : (n : ℕ) → IsFromFnResult g f ys n → ys ≡ build n h
  from_fn_builds n r =
      let at : (k : ℕ) → k < n → get_or ys k (h 0) ≡ h k = λ k l. let e = from_calls f 0 n refl r.each k (h 0) l in rw zero-add at e in
      sym (build_list ys (h 0)) ∙ rw r.long (build_same n (λ k. get_or ys k (h 0)) h at)
