-- Memory holds a net exactly if loading some accepted image leaves it so: the test finds the image at the front, by the length that its header
-- says, and zeros behind it. Assumes nothing.
use Rattle.std.specs.Prelude.{Err, Ok, Result}
use mathlib.Core.Path.{◌≡◌, refl, sym, ap, ◌∙◌}
use mathlib.Core.Bool.{true}
use mathlib.Core.List.{List, [], ◌∷◌, ◌++◌}
use Prim.Native.Nat.{ℕ, zero, suc, ◌+◌, ◌-◌, ◌≤◌, ◌<◌}
use native.Mathlib.Omega.{arith}
use lib.Dec.{T, eqb}
use lib.ListN.{length, get_or, take, drop, take-append-drop, length-drop, length-take}
use lib.Seq.{get_or-take, drop_at}
use borrow.Author.Tests.{eqb-true}
use Rattle.words.specs.Bytes.{Bytes, u16_at, u32_at, blank, all_zero, padded}
use Rattle.words.proofs.Truth.{both_left, both_right}
use Rattle.net.specs.Net.{State, Rules, Net}
use Rattle.net.specs.Image.{memory_size, end_in, net_of, image_of}
use Rattle.net.proofs.Bodies.{contents, least_length, most_length_lem, bytes_take}
use Rattle.net.proofs.Padding.{length-padded, take-padded, u16_at-padded, u32_at-padded}
use Rattle.net.proofs.Images.{Fits, bytes_of_image}
use Rattle.format.specs.Format.{well_formed}
use Rattle.format.specs.Verdict.{is_accepted, size_ok, verdict_of}
use Rattle.format.specs.declared.Refusal.{Refusal}
use Rattle.format.specs.declared.Refusal.TheVariants.{Size, Edition, Contents, BadSite, BadNode, BadAspect, BadAction, BadRow, BadState, Small}
use Rattle.monitor.specs.Memory.{Held, image_in, holds_net, rules_held, state_held, memory_with}
use Rattle.format.proofs.Verdicts.{Right, accepted_right, accepted_image, image_accepted, net_of_formed, formed_fits}

-- ---- an answer is accepted exactly if its number is 0
pub is_accepted_lem : (v : Result Unit Refusal) → is_accepted v ≡ true → v ≡ Ok tt
is_accepted_lem (Ok x) e = refl
is_accepted_lem (Err Size) e = let z = eqb-true 10 0 e in absurd (let y : ⊥ = omega arith in y)
is_accepted_lem (Err Edition) e = let z = eqb-true 11 0 e in absurd (let y : ⊥ = omega arith in y)
is_accepted_lem (Err Contents) e = let z = eqb-true 12 0 e in absurd (let y : ⊥ = omega arith in y)
is_accepted_lem (Err (BadSite k)) e = let z = eqb-true 13 0 e in absurd (let y : ⊥ = omega arith in y)
is_accepted_lem (Err (BadNode k)) e = let z = eqb-true 14 0 e in absurd (let y : ⊥ = omega arith in y)
is_accepted_lem (Err (BadAspect k)) e = let z = eqb-true 15 0 e in absurd (let y : ⊥ = omega arith in y)
is_accepted_lem (Err (BadAction k)) e = let z = eqb-true 16 0 e in absurd (let y : ⊥ = omega arith in y)
is_accepted_lem (Err (BadRow k)) e = let z = eqb-true 17 0 e in absurd (let y : ⊥ = omega arith in y)
is_accepted_lem (Err (BadState k)) e = let z = eqb-true 18 0 e in absurd (let y : ⊥ = omega arith in y)
is_accepted_lem (Err Small) e = let z = eqb-true 19 0 e in absurd (let y : ⊥ = omega arith in y)

-- ---- zeros
zeros_blank : (l : List ℕ) → all_zero l ≡ true → l ≡ blank (length l)
unfolding all_zero
zeros_blank [] e = refl
zeros_blank (x ∷ l) e =
    let a = eqb-true x 0 (both_left (eqb x 0) (all_zero l) e) in
    rw a (ap (λ (m : List ℕ). 0 ∷ m) (zeros_blank l (both_right (eqb x 0) e)))

blank_zeros : (n : ℕ) → all_zero (blank n) ≡ true
unfolding all_zero
blank_zeros zero = refl
blank_zeros (suc n) = blank_zeros n

-- ---- the header at the front of a part that has it whole
u16_at-take : (n : ℕ) (m : List ℕ) (k : ℕ) → k + 1 < n → u16_at (take n m) k ≡ u16_at m k
unfolding u16_at
u16_at-take n m k h = rw (get_or-take n m k 0 (omega arith), get_or-take n m (k + 1) 0 h)

u32_at-take : (n : ℕ) (m : List ℕ) (k : ℕ) → k + 3 < n → u32_at (take n m) k ≡ u32_at m k
unfolding u32_at
u32_at-take n m k h = rw (u16_at-take n m k (omega arith), u16_at-take n m (k + 2) (omega arith))

end_take : (n : ℕ) (m : List ℕ) → 44 ≤ n → end_in (take n m) ≡ end_in m
end_take n m h = rw (u32_at-take n m 40 (omega arith), u16_at-take n m 38 (omega arith))

-- ---- what memory that holds a net is made of
pub record Holds (m : List ℕ) : Type 0 where
  pub size : length m ≡ memory_size
  pub accepted : verdict_of (image_in m) ≡ Ok tt
  pub whole : length (image_in m) ≡ end_in m
  pub fits : end_in m ≤ memory_size
  pub made : m ≡ padded memory_size (image_in m)

pub holds_parts : (m : List ℕ) → holds_net m ≡ true → Holds m
unfolding holds_net padded size_ok
holds_parts m e =
    let size = eqb-true (length m) memory_size (both_left (eqb (length m) memory_size) _ e) in
    let r = both_right (eqb (length m) memory_size) e in
    let i = image_in m in
    let a = is_accepted_lem (verdict_of i) (both_left (is_accepted (verdict_of i)) _ r) in
    let z = both_right (is_accepted (verdict_of i)) r in
    let p = accepted_right i a in
    let least = least_length i p.contents in
    let t = length-take (end_in m) m in
    let whole : length i ≡ end_in m = sym (contents i p.contents).end ∙ end_take (end_in m) m (omega arith) in
    let l : length (drop (end_in m) m) ≡ memory_size - length i = length-drop (end_in m) m ∙ rw (size, whole) in
    record {
      size = size;
      accepted = a;
      whole = whole;
      fits = omega arith;
      made = sym (take-append-drop (end_in m) m) ∙ ap (λ (d : List ℕ). i ++ d) (zeros_blank (drop (end_in m) m) z ∙ ap blank l);
    }

-- ---- and back
module _ (b : List ℕ) (a : verdict_of b ≡ Ok tt) where
  passed : Right b
  passed = accepted_right b a

  pub accepted_length : length b ≤ memory_size
  accepted_length = let h = most_length_lem b passed.contents in omega arith

  end-padded : end_in (padded memory_size b) ≡ length b
  end-padded =
      rw (u32_at-padded memory_size b 40, u16_at-padded memory_size b 38) (contents b passed.contents).end

  pub image_padded : image_in (padded memory_size b) ≡ b
  image_padded = ap (λ (n : ℕ). take n (padded memory_size b)) end-padded ∙ take-padded memory_size b

  rest_zero : all_zero (drop (length b) (padded memory_size b)) ≡ true
  unfolding padded
  rest_zero = rw (drop_at b (blank (memory_size - length b)) (length b) refl) (blank_zeros (memory_size - length b))

  pub padded_holds : holds_net (padded memory_size b) ≡ true
  unfolding holds_net
  padded_holds = rw (length-padded memory_size b accepted_length, image_padded, a, end-padded) rest_zero

-- "It holds a net exactly if loading some accepted image leaves it so."
pub holds_held : (m : List ℕ) → Bytes m → holds_net m ≡ true → Held m
holds_held m g e =
    let h = holds_parts m e in
    record { image = image_in m; bytes = bytes_take (end_in m) m g; accepted = h.accepted; left = h.made }

pub held_holds : (m : List ℕ) → Held m → holds_net m ≡ true
held_holds m h = rw h.left (padded_holds h.image h.accepted)

-- ---- the net that memory holds
module _ (m : List ℕ) (g : Bytes m) (e : holds_net m ≡ true) where
  pub held_formed : T (well_formed (record { state = state_held m; rules = rules_held m }))
  held_formed = (accepted_image (image_in m) (bytes_take (end_in m) m g) (holds_parts m e).accepted).0

  pub held_image : image_of (net_of (image_in m)) ≡ image_in m
  held_image = (accepted_image (image_in m) (bytes_take (end_in m) m g) (holds_parts m e).accepted).1

  -- memory is the memory of its net
  pub held_memory : m ≡ memory_with (rules_held m) (state_held m)
  held_memory = (holds_parts m e).made ∙ ap (padded memory_size) (sym held_image)

  pub held_fits : Fits (net_of (image_in m))
  held_fits = formed_fits (net_of (image_in m)) held_formed

-- ---- bytes with zeros after them are bytes
zero_small : (n k : ℕ) → get_or (blank n) k 0 < 256
zero_small zero k = omega arith
zero_small (suc n) zero = omega arith
zero_small (suc n) (suc k) = zero_small n k

zeros_after : (b : List ℕ) → Bytes b → (n : ℕ) → Bytes (b ++ blank n)
zeros_after [] h n k = zero_small n k
zeros_after (x ∷ b) h n zero = h 0
zeros_after (x ∷ b) h n (suc k) = zeros_after b (λ j. h (suc j)) n k

-- ---- the memory of a well-formed net holds it
module _ (r : Rules) (s : State) (t : T (well_formed (record { state = s; rules = r }))) where
  abbrev net : Net
  net = record { state = s; rules = r }

  pub memory_holds : holds_net (memory_with r s) ≡ true
  memory_holds = padded_holds (image_of net) (image_accepted net t)

  pub memory_bytes : Bytes (memory_with r s)
  unfolding padded
  memory_bytes = zeros_after (image_of net) (bytes_of_image net (formed_fits net t)) (memory_size - length (image_of net))

  net_back : net_of (image_in (memory_with r s)) ≡ net
  net_back = ap net_of (image_padded (image_of net) (image_accepted net t)) ∙ net_of_formed net t

  pub rules_back : rules_held (memory_with r s) ≡ r
  rules_back = ap (λ (n : Net). n.rules) net_back

  pub state_back : state_held (memory_with r s) ≡ s
  state_back = ap (λ (n : Net). n.state) net_back
