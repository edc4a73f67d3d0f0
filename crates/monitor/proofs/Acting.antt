-- What a put and a get leave: the writes, in the code's order, make the memory of the net after the step. Assumes nothing.
use Rattle.std.specs.Prelude.{None, Some}
use Rattle.std.specs.Option.{is_some}
use mathlib.Core.Path.{◌≡◌, refl, sym, ap, ◌∙◌}
use mathlib.Core.Bool.{Bool, true, false, cond}
use mathlib.Core.List.{List}
use Prim.Native.Nat.{ℕ, ◌+◌, ◌-◌, ◌*◌, ◌≤◌, ◌<◌}
use native.Mathlib.Omega.{arith}
use lib.Dec.{T, ltb, eqb}
use lib.ListN.{length, set, length-set}
use lib.Seq.{get_or-set_same, set-set}
use Rattle.words.specs.Lists.{all}
use Rattle.words.specs.Bytes.{Bytes, splice, inserted, removed, u16_bytes}
use Rattle.words.proofs.First.{first_le}
use Rattle.words.proofs.Truth.{no}
use Rattle.words.proofs.Splices.{length-splice}
use Rattle.net.proofs.Codecs.{site_wide}
use Rattle.net.specs.Records.{site_fits, no_site, site_bytes, row_bytes}
use Rattle.net.specs.Net.{State, store_limit, site_at, held}
use Rattle.net.specs.Image.{count_in, offset_in, net_of, memory_of}
use Rattle.net.specs.declared.Site.{Site}
use Rattle.net.specs.declared.Row.{Row}
use Rattle.net.proofs.Memory.{with_sites}
use Rattle.stepping.specs.Step.{advance, bound_by, place_for, row_put, has_room, put_after, got_after}
use Rattle.monitor.specs.Memory.{image_in, rules_held, state_held, memory_with}
use Rattle.policy.specs.declared.Act.{Act}
use Rattle.monitor.specs.Plan.{informed_by, Ready, Reads}
use Rattle.monitor.specs.declared.act.Writes.{Writes}
use Rattle.monitor.proofs.Holding.{held_memory, held_fits}
use Rattle.monitor.proofs.Writes.{site_written, sites_written, row_added, row-removed}

pub place_within : (t : ℕ) (l : List Row) → place_for t l ≤ length l
unfolding place_for
place_within t l = first_le _ (length l)

-- a row that is put has its place among the rows that are there
pub place_there : (s : State) (act : Act) (w : Writes) → Reads s act.source act.target w → {k : ℕ} → w.place ≡ Some k → k ≤ length s.rows
place_there s act w p {k} f = pick (ltb (held act.target s.rows) store_limit) (sym f ∙ p.place)
  where
    pick : (b : Bool) → Some k ≡ cond b (Some (place_for act.target s.rows)) None → k ≤ length s.rows
    pick true e = let q : k ≡ place_for act.target s.rows = cc in rw q (place_within act.target s.rows)
    pick false e = no (cc)

-- a row that is put has a place exactly if there is room for it
pub place_room : (s : State) (act : Act) (w : Writes) → Reads s act.source act.target w → is_some w.place ≡ has_room s act
place_room s act w p = ap is_some p.place ∙ pick (has_room s act)
  where
    pick : (b : Bool) → is_some (cond b (Some (place_for act.target s.rows)) None) ≡ b
    pick true = refl
    pick false = refl

-- a site's record written leaves the length
pub length_site : (m : List ℕ) (i : ℕ) (x : Site) → 44 + 32 * i + 32 ≤ length m → length (splice m (44 + 32 * i) (site_bytes x)) ≡ length m
length_site m i x h = length-splice m (44 + 32 * i) (site_bytes x) (omega (arith, site_wide x))

pub length_sites : (m : List ℕ) (i : ℕ) (x : Site) (t : ℕ) (y : Site) → 44 + 32 * i + 32 ≤ length m → 44 + 32 * t + 32 ≤ length m
    → length (splice (splice m (44 + 32 * i) (site_bytes x)) (44 + 32 * t) (site_bytes y)) ≡ length m
length_sites m i x t y h g = let e = length_site m i x h in length_site (splice m (44 + 32 * i) (site_bytes x)) t y (rw e g) ∙ e

module _ (m : List ℕ) (g : Bytes m) (act : Act) (r : Ready m act.source act.target) where
  abbrev s : State
  s = state_held m

  abbrev i : ℕ
  i = act.source

  abbrev t : ℕ
  t = act.target

  -- ---- a put
  module _ (w : Writes) (p : Reads s i t w) {m₁ : List ℕ} (sites : m₁ ≡ splice (splice m (44 + 32 * i) (site_bytes w.source)) (44 + 32 * t) (site_bytes w.target)) where
    abbrev l : List Site
    l = set (set s.sites i w.source) t w.target

    -- the sites of the net after the put
    new_sites : (b : Bool) → has_room s act ≡ b → l ≡ (put_after s act b).sites
    new_sites true e = rw (p.target, e, p.source)
    new_sites false e = rw (p.target, e, p.source)

    written : m₁ ≡ memory_of (with_sites l (net_of (image_in m)))
    written = sites_written (net_of (image_in m)) (held_fits m g r.held) i t w.source w.target r.sited.source r.sited.target (held_memory m g r.held) sites

    -- by whether there is a place for the row
    dropped : (b : Bool) → has_room s act ≡ b → None ≡ cond b (Some (place_for t s.rows)) None → m₁ ≡ memory_with (rules_held m) (put_after s act b)
    dropped true e f = no (cc)
    dropped false e f = written ∙ rw (new_sites false e)

    pub put_dropped : w.place ≡ None → m₁ ≡ memory_with (rules_held m) (put_after s act (has_room s act))
    put_dropped f = dropped (has_room s act) refl (sym f ∙ p.place)

    module _ {m₂ : List ℕ} {base count : ℕ} {row : Row} (fit : T (all site_fits (put_after s act (has_room s act)).sites))
        (b : base ≡ offset_in m 5) (c : count ≡ count_in m 5) (new : row ≡ row_put act) (k : ℕ)
        (rows : m₂ ≡ splice (inserted (row_bytes row) (base + 10 * k) (base + 10 * count) m₁) 38 (u16_bytes (count + 1))) where
      fits : T (all site_fits l)
      fits = rw (new_sites (has_room s act) refl) fit

      same : length l ≡ length s.sites
      same = length-set (set s.sites i w.source) t w.target ∙ length-set s.sites i w.source

      added : (x : Bool) → has_room s act ≡ x → Some k ≡ cond x (Some (place_for t s.rows)) None → m₂ ≡ memory_with (rules_held m) (put_after s act x)
      added true e f =
          let q : k ≡ place_for t s.rows = cc in
          row_added (net_of (image_in m)) (held_fits m g r.held) l same fits (held_memory m g r.held) b c written k row
          (rw q (place_within t s.rows)) rows
          ∙ rw (new_sites true e, q, new)
      added false e f = no (cc)

      pub put-added : w.place ≡ Some k → m₂ ≡ memory_with (rules_held m) (put_after s act (has_room s act))
      put-added f = added (has_room s act) refl (sym f ∙ p.place)

  -- ---- a take or a read
  module _ (k : ℕ) (inside : k < length s.rows) {x : Site} (read : x ≡ informed_by s act k) {m₁ : List ℕ}
      (site : m₁ ≡ splice m (44 + 32 * i) (site_bytes x)) where
    abbrev moved : Site
    moved = advance (bound_by s act k) (site_at s.sites i)

    got_sites : set s.sites i x ≡ (got_after s act k).sites
    got_sites =
        rw (read, get_or-set_same s.sites i moved no_site r.sited.source)
        (sym (set-set s.sites i moved (informed_by s act k)))

    got_written : m₁ ≡ memory_of (with_sites (set s.sites i x) (net_of (image_in m)))
    got_written = site_written (net_of (image_in m)) (held_fits m g r.held) i x r.sited.source (held_memory m g r.held) site

    pub got_read : eqb act.action.capability 2 ≡ false → m₁ ≡ memory_with (rules_held m) (got_after s act k)
    got_read e = got_written ∙ rw (got_sites, e)

    pub got_taken : {m₂ : List ℕ} {base count : ℕ} → eqb act.action.capability 2 ≡ true → T (all site_fits (got_after s act k).sites)
        → base ≡ offset_in m 5 → count ≡ count_in m 5 → m₂ ≡ splice (removed 10 (base + 10 * k) (base + 10 * count) m₁) 38 (u16_bytes (count - 1))
        → m₂ ≡ memory_with (rules_held m) (got_after s act k)
    got_taken e fit b c rows =
        row-removed (net_of (image_in m)) (held_fits m g r.held) (set s.sites i x) (length-set s.sites i x) (rw got_sites fit) (held_memory m g r.held) b c got_written k
        inside rows
        ∙ rw (got_sites, e)
