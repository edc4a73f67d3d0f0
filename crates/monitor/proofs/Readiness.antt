-- What memory that is ready for a step gives to those who act on it: where its records lie, and that there is space for one more row. Assumes nothing.
use mathlib.Core.Path.{◌≡◌, refl, ap, ◌∙◌}
use mathlib.Core.List.{List}
use Prim.Native.Nat.{ℕ, ◌+◌, ◌*◌, ◌≤◌, ◌<◌}
use native.Mathlib.Omega.{arith}
use lib.ListN.{length}
use Rattle.words.specs.Bytes.{Bytes}
use Rattle.net.specs.Image.{width_of, count_in, offset_in, end_in, net_of, memory_of}
use Rattle.net.proofs.Bodies.{most_length, most_length_lem}
use Rattle.net.proofs.Memory.{memory_says}
use Rattle.format.proofs.Verdicts.{accepted_right}
use Rattle.monitor.specs.Memory.{image_in, state_held}
use Rattle.monitor.specs.Plan.{Ready}
use Rattle.monitor.proofs.Holding.{holds_parts, held_memory, held_fits}

pub record Space (m : List ℕ) (i t : ℕ) : Type 0 where
  pub size : length m ≡ 65536
  pub end : end_in m ≤ most_length
  pub source : 44 + 32 * i + 32 ≤ length m
  pub target : 44 + 32 * t + 32 ≤ length m
  pub owner : t < 256
  pub base : 44 ≤ offset_in m 5
  pub rows : offset_in m 5 + 10 * count_in m 5 ≡ end_in m
  pub counted : count_in m 5 ≡ length (state_held m).rows
  pub few : count_in m 5 ≤ 512

module _ (m : List ℕ) (g : Bytes m) (i t : ℕ) (r : Ready m i t) where
  pub space : Space m i t
  unfolding width_of
  space =
      let h = holds_parts m r.held in
      let f = held_fits m g r.held in
      let says = memory_says (net_of (image_in m)) f in
      let e = held_memory m g r.held in
      let counted : count_in m 5 ≡ length (state_held m).rows = ap (λ (l : List ℕ). count_in l 5) e ∙ says.count5 in
      let at : offset_in m 5 ≡ offset_in (memory_of (net_of (image_in m))) 5 = ap (λ (l : List ℕ). offset_in l 5) e in
      record {
        size = h.size;
        end = omega (arith, h.whole, most_length_lem (image_in m) (accepted_right (image_in m) h.accepted).contents);
        source = omega (arith, h.size, f.few_sites, r.sited.source);
        target = omega (arith, h.size, f.few_sites, r.sited.target);
        owner = omega (arith, f.few_sites, r.sited.target);
        base = omega (arith, at, says.at5);
        rows = refl;
        counted = counted;
        few = omega (arith, counted, f.few_rows);
      }
