-- Loading and saving undo each other: what is loaded is saved byte for byte, and what is saved is loaded to the same memory, the same net. An
-- accepted image fills the front of memory and its header says where it ends. Assumes nothing.
use Rattle.std.specs.Prelude.{Ok}
use mathlib.Core.Path.{◌≡◌, refl, sym, ap, ◌∙◌}
use mathlib.Core.Bool.{true}
use mathlib.Core.List.{List}
use Prim.Native.Nat.{ℕ, ◌≤◌}
use native.Mathlib.Omega.{arith}
use lib.ListN.{length, take}
use lib.Seq.{take_at}
use borrow.Author.Tests.{le-ltb, eq-eqb}
use Rattle.words.specs.Bytes.{padded, splice}
use Rattle.net.specs.Image.{memory_size, end_in}
use Rattle.format.specs.Verdict.{verdict_of}
use Rattle.monitor.specs.Memory.{load_answer, load_memory, image_in, holds_net, save_answer, save_output}
use Rattle.monitor.proofs.Holding.{holds_parts, image_padded, padded_holds}

-- loading an accepted image into memory of the right size
load_accepted : (image m : List ℕ) → length m ≡ memory_size → verdict_of image ≡ Ok tt → (load_answer image m ≡ Ok tt) × (load_memory image m ≡ padded memory_size image)
unfolding load_answer load_memory
load_accepted image m size ok = (rw (eq-eqb (length m) memory_size size) ok, rw (eq-eqb (length m) memory_size size, ok))

-- saving a held net to an output with room: the image, and the output beyond it as it was
save_held : (m out : List ℕ) → holds_net m ≡ true → end_in m ≤ length out → (save_answer m (length out) ≡ Ok (end_in m)) × (save_output m out ≡ splice out 0 (image_in m))
unfolding save_output save_answer
save_held m out held room = (rw (held, le-ltb (length out) (end_in m) room), rw (held, le-ltb (length out) (end_in m) room))

-- the front of an output that was written from its start
front : (out b : List ℕ) → take (length b) (splice out 0 b) ≡ b
unfolding splice
front out b = take_at b _ (length b) refl

-- "loading then saving returns its bytes"
module _ (image m out : List ℕ) (size : length m ≡ memory_size) (ok : verdict_of image ≡ Ok tt) (room : length image ≤ length out) where
  pub record LoadSaves : Type 0 where
    pub loads : load_answer image m ≡ Ok tt
    pub saves : save_answer (load_memory image m) (length out) ≡ Ok (length image)
    pub same : take (length image) (save_output (load_memory image m) out) ≡ image

  pub load_save : LoadSaves
  load_save =
      let p = load_accepted image m size ok in
      let i = image_padded image ok in
      let h = padded_holds image ok in
      let e : end_in (padded memory_size image) ≡ length image = sym (holds_parts (padded memory_size image) h).whole ∙ ap length i in
      let s = save_held (padded memory_size image) out h (omega (arith, e, room)) in
      record {
        loads = p.0;
        saves = rw p.1 (s.0 ∙ ap Ok e);
        same = rw (p.1, s.1, i) (front out image);
      }

-- "saving then loading returns the net": every byte of memory, and so the net that it holds
module _ (m out other : List ℕ) (held : holds_net m ≡ true) (size : length other ≡ memory_size) (room : end_in m ≤ length out) where
  abbrev saved : List ℕ
  saved = take (end_in m) (save_output m out)

  pub record SaveLoads : Type 0 where
    pub saves : save_answer m (length out) ≡ Ok (end_in m)
    pub loads : load_answer saved other ≡ Ok tt
    pub same : load_memory saved other ≡ m

  pub save_load : SaveLoads
  save_load =
      let h = holds_parts m held in
      let s = save_held m out held room in
      let e : saved ≡ image_in m = ap (take (end_in m)) s.1 ∙ ap (λ (n : ℕ). take n (splice out 0 (image_in m))) (sym h.whole) ∙ front out (image_in m) in
      let p = load_accepted (image_in m) other size h.accepted in
      record { saves = s.0; loads = rw e p.0; same = rw e (p.1 ∙ sym h.made) }
