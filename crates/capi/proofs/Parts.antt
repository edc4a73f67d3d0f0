-- What is packed is small: a saved image fits in memory, and a part lies in an accepted image, whose directory can be read. Assumes nothing.
use Rattle.std.specs.Prelude.{Ok, Err}
use mathlib.Core.Path.{◌≡◌, refl}
use mathlib.Core.Bool.{Bool, true, false, cond, ◌&&◌}
use mathlib.Core.List.{List, []}
use Prim.Native.Nat.{ℕ, ◌+◌, ◌*◌, ◌≤◌, ◌<◌}
use native.Mathlib.Omega.{arith}
use lib.Dec.{ltb, leb}
use lib.ListN.{length, drop, length-take, length-drop}
use borrow.Author.Tests.{lt-leb, leb-true, ne_eqb}
use Rattle.net.specs.Image.{end_in, body_in, length_in, offset_in}
use Rattle.net.proofs.Bodies.{least_length, most_length_lem}
use Rattle.format.specs.Verdict.{is_accepted, verdict_of, handed_out, body_of}
use Rattle.format.proofs.Verdicts.{accepted_right}
use Rattle.monitor.specs.Memory.{holds_net, save_answer, saved_length}
use Rattle.monitor.specs.declared.SaveError.TheVariants.{Room, NoNet}
use Rattle.monitor.proofs.Holding.{holds_parts, is_accepted_lem}
use Rattle.capi.specs.Packed.{packed_body}

pub saved_small : (m : List ℕ) (room : ℕ) → saved_length (save_answer m room) ≤ 65536
unfolding save_answer
saved_small m room = pick (holds_net m) (ltb room (end_in m)) refl
  where
    pick : (b t : Bool) → holds_net m ≡ b → saved_length (cond b (cond t (Err Room) (Ok (end_in m))) (Err NoNet)) ≤ 65536
    pick true true e = omega arith
    pick true false e = (holds_parts m e).fits
    pick false t e = omega arith

-- ---- a part that is not empty is of an accepted image, and of one of the five kinds
module _ (s : List ℕ) (kind : ℕ) where
  pub record Part (n : ℕ) : Type 0 where
    pub readable : 44 ≤ length s
    pub known : kind ≤ 5
    pub short : n ≤ 51244

  accepted_part : verdict_of s ≡ Ok tt → kind ≤ 5 → Part (length (body_in s kind))
  unfolding body_in
  accepted_part e h =
      let c = (accepted_right s e).contents in
      let l = least_length s c in
      let m = most_length_lem s c in
      let t = length-take (length_in s kind) (drop (offset_in s kind) s) in
      let d = length-drop (offset_in s kind) s in
      record { readable = l; known = h; short = omega arith }

  pub part_of : (length (body_of s kind) ≡ 0 → ⊥) → Part (length (body_of s kind))
  unfolding body_of handed_out
  part_of n = pick (is_accepted (verdict_of s)) (leb 1 kind) (leb kind 5) refl refl n
    where
      pick : (a b k : Bool) → is_accepted (verdict_of s) ≡ a → leb kind 5 ≡ k → (length (cond (a && (b && k)) (body_in s kind) []) ≡ 0 → ⊥)
          → Part (length (cond (a && (b && k)) (body_in s kind) []))
      pick true true true e f q = accepted_part (is_accepted_lem (verdict_of s) e) (leb-true kind 5 f)
      pick true true false e f q = absurd (q refl)
      pick true false k e f q = absurd (q refl)
      pick false b k e f q = absurd (q refl)

  -- past the fifth kind there is no part
  no_kind : 5 < kind → length (body_of s kind) ≡ 0
  unfolding body_of handed_out
  no_kind h = pick (is_accepted (verdict_of s)) (leb 1 kind) (leb kind 5) (lt-leb kind 5 h)
    where
      pick : (a b k : Bool) → k ≡ false → length (cond (a && (b && k)) (body_in s kind) []) ≡ 0
      pick true true k e = rw e
      pick true false k e = refl
      pick false b k e = refl

  -- ---- what is packed, by whether the part is empty
  pub packed_none : length (body_of s kind) ≡ 0 → 0 ≡ packed_body s kind
  unfolding packed_body
  packed_none e = rw e

  pub packed_no_kind : 5 < kind → 0 ≡ packed_body s kind
  packed_no_kind h = packed_none (no_kind h)

  pub packed_part : (length (body_of s kind) ≡ 0 → ⊥) → offset_in s kind + 4294967296 * length (body_of s kind) ≡ packed_body s kind
  unfolding packed_body
  packed_part n = rw (ne_eqb (length (body_of s kind)) 0 n)
