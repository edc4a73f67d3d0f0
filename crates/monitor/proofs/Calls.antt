-- What each public call's tests say of its definition, test by test in the code's order. Assumes nothing.
use Rattle.std.specs.Prelude.{Err, Ok, Result}
use mathlib.Core.Path.{◌≡◌, refl, sym, ◌∙◌}
use mathlib.Core.Bool.{Bool, true, false, and-false}
use mathlib.Core.List.{List}
use Prim.Native.Nat.{ℕ, ◌≤◌, ◌<◌}
use native.Mathlib.Omega.{arith}
use lib.ListN.{length, drop, length-take}
use borrow.Author.Tests.{eq-eqb, ne_eqb, lt-ltb, le-ltb, lt-leb}
use Rattle.words.specs.Bytes.{all_zero, padded, splice}
use Rattle.words.proofs.Truth.{no}
use Rattle.net.specs.Image.{memory_size, end_in}
use Rattle.format.specs.Verdict.{most_size, is_accepted, size_ok, verdict_of}
use Rattle.format.specs.declared.Refusal.{Refusal}
use Rattle.format.specs.declared.Refusal.TheVariants.{Small}
use Rattle.stepping.specs.Step.{step}
use Rattle.stepping.specs.declared.Answer.{Answer}
use Rattle.stepping.specs.declared.Answer.TheVariants.{NoNet}
use Rattle.monitor.specs.Memory.{image_in, load_answer, load_memory, holds_net, rules_held, state_held, memory_with, save_answer, save_output, step_answer, step_memory}
use Rattle.monitor.specs.declared.SaveError.TheVariants.{Room, NoNet as SaveNoNet}
use Rattle.monitor.proofs.Holding.{is_accepted_lem, accepted_length}

-- ---- load
-- an image that is refused is not accepted
refused : (v : Result Unit Refusal) {e : Refusal} → v ≡ Err e → is_accepted v ≡ false
refused v {e} r = pick (is_accepted v) refl
  where
    pick : (b : Bool) → is_accepted v ≡ b → is_accepted v ≡ false
    pick true q = no (let a = is_accepted_lem v q in cc)
    pick false q = q

module _ (b m : List ℕ) where
  pub load_small : (length m ≡ memory_size → ⊥) → (Err Small ≡ load_answer b m) × (m ≡ load_memory b m)
  unfolding load_answer load_memory
  load_small n = let e = ne_eqb (length m) memory_size n in (rw e, rw e)

  module _ (size : length m ≡ memory_size) where
    answer_is : load_answer b m ≡ verdict_of b
    unfolding load_answer
    answer_is = rw (eq-eqb (length m) memory_size size)

    pub load_refused : {e : Refusal} → verdict_of b ≡ Err e → (Err e ≡ load_answer b m) × (m ≡ load_memory b m)
    unfolding load_memory
    load_refused r = (sym (answer_is ∙ r), rw (answer_is, refused (verdict_of b) r))

    pub load_fits : verdict_of b ≡ Ok tt → length b ≤ length m
    load_fits a = rw size (accepted_length b a)

    pub load_accepted : verdict_of b ≡ Ok tt → {after : List ℕ} → after ≡ padded (length m) b → (Ok tt ≡ load_answer b m) × (after ≡ load_memory b m)
    unfolding load_memory
    load_accepted a w = (sym (answer_is ∙ a), w ∙ rw (answer_is, a, size))

-- ---- holding
module _ (m : List ℕ) where
  pub holds_not_size : (length m ≡ memory_size → ⊥) → holds_net m ≡ false
  unfolding holds_net
  holds_not_size n = rw (ne_eqb (length m) memory_size n)

  -- an image that would end past memory is too long
  too_long : length m ≡ memory_size → memory_size < end_in m → is_accepted (verdict_of (image_in m)) ≡ false
  unfolding verdict_of size_ok
  too_long size h =
      let l : length (image_in m) ≡ memory_size = length-take (end_in m) m ∙ omega arith in
      rw (lt-leb (length (image_in m)) most_size (omega arith), and-false)

  pub holds_not_end : length m ≡ memory_size → memory_size < end_in m → holds_net m ≡ false
  unfolding holds_net
  holds_not_end size h = rw (eq-eqb (length m) memory_size size, too_long size h)

  pub holds_not_image : length m ≡ memory_size → is_accepted (verdict_of (image_in m)) ≡ false → holds_net m ≡ false
  unfolding holds_net
  holds_not_image size a = rw (eq-eqb (length m) memory_size size, a)

  pub holds_zeros : length m ≡ memory_size → verdict_of (image_in m) ≡ Ok tt → holds_net m ≡ all_zero (drop (end_in m) m)
  unfolding holds_net
  holds_zeros size a = rw (eq-eqb (length m) memory_size size, a)

-- ---- save
module _ (m out : List ℕ) where
  pub save_none : holds_net m ≡ false → (Err SaveNoNet ≡ save_answer m (length out)) × (out ≡ save_output m out)
  unfolding save_answer save_output
  save_none e = (rw e, rw e)

  pub save_short : holds_net m ≡ true → length out < end_in m → (Err Room ≡ save_answer m (length out)) × (out ≡ save_output m out)
  unfolding save_answer save_output
  save_short e h = let q = lt-ltb (length out) (end_in m) h in (rw (e, q), rw (e, q))

  pub save_whole : holds_net m ≡ true → end_in m ≤ length out → {n : ℕ} {after : List ℕ} → n ≡ end_in m → after ≡ splice out 0 (image_in m)
      → (Ok n ≡ save_answer m (length out)) × (after ≡ save_output m out)
  unfolding save_answer save_output
  save_whole e h p w = let q = le-ltb (length out) (end_in m) h in (rw (e, q, p), w ∙ rw (e, q))

-- ---- step
module _ (m : List ℕ) (i : ℕ) where
  pub step_none : holds_net m ≡ false → (NoNet ≡ step_answer m i) × (m ≡ step_memory m i)
  unfolding step_answer step_memory
  step_none e = (rw e, rw e)

  pub step_tried : holds_net m ≡ true → {a : Answer} {after : List ℕ} → a ≡ (step (rules_held m) (state_held m) i).answer
      → after ≡ memory_with (rules_held m) (step (rules_held m) (state_held m) i).after → (a ≡ step_answer m i) × (after ≡ step_memory m i)
  unfolding step_answer step_memory
  step_tried e p w = (p ∙ rw e, w ∙ rw e)
