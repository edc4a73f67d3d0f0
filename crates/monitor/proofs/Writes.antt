-- What the writes of a granted step come to: each write of a record is a change of the net that memory holds, and after the last one memory is that
-- of the net after the step. Assumes nothing.
use mathlib.Core.Path.{◌≡◌, sym, ap, ◌∙◌}
use mathlib.Core.List.{List}
use Prim.Native.Nat.{ℕ, ◌+◌, ◌-◌, ◌*◌, ◌≤◌, ◌<◌}
use lib.Dec.{T}
use lib.ListN.{length, set}
use lib.Seq.{lt-length-set}
use Rattle.words.specs.Lists.{all, insert_at, remove_at}
use Rattle.words.specs.Bytes.{splice, inserted, removed, u16_bytes}
use Rattle.net.specs.Records.{site_fits, site_bytes, row_bytes}
use Rattle.net.specs.Net.{Net}
use Rattle.net.specs.Image.{count_in, offset_in, image_of, memory_of}
use Rattle.net.specs.declared.Site.{Site}
use Rattle.net.specs.declared.Row.{Row}
use Rattle.net.proofs.Images.{Fits}
use Rattle.net.proofs.Memory.{with_sites, with_rows, memory_says, rows_start, memory_site, memory_add, memory_remove}

-- other sites, as many, that fit
fits_with : (n : Net) (l : List Site) → Fits n → length l ≡ length n.state.sites → T (all site_fits l) → Fits (with_sites l n)
fits_with n l f e t = record {
  sites = t;
  nodes = f.nodes;
  aspects = f.aspects;
  actions = f.actions;
  rows = f.rows;
  some_site = rw e f.some_site;
  few_sites = rw e f.few_sites;
  few_nodes = f.few_nodes;
  few_aspects = f.few_aspects;
  few_actions = f.few_actions;
  few_rows = f.few_rows;
}

module _ (n : Net) (f : Fits n) where
  -- where the rows start and how many they are, as memory's header says, whatever the sites are
  rows_at : (l : List Site) → length l ≡ length n.state.sites → T (all site_fits l) → offset_in (memory_of n) 5 ≡ offset_in (image_of (with_sites l n)) 5
  rows_at l e t = (memory_says n f).at5 ∙ sym (rows_start (with_sites l n) (fits_with n l f e t) ∙ rw e)

  -- one site
  pub site_written : {m m₁ : List ℕ} (i : ℕ) (x : Site) → i < length n.state.sites → m ≡ memory_of n → m₁ ≡ splice m (44 + 32 * i) (site_bytes x)
      → m₁ ≡ memory_of (with_sites (set n.state.sites i x) n)
  site_written i x h e w = w ∙ rw e (memory_site n i x h)

  -- two sites
  pub sites_written : {m m₁ : List ℕ} (i t : ℕ) (x y : Site) → i < length n.state.sites → t < length n.state.sites → m ≡ memory_of n
      → m₁ ≡ splice (splice m (44 + 32 * i) (site_bytes x)) (44 + 32 * t) (site_bytes y) → m₁ ≡ memory_of (with_sites (set (set n.state.sites i x) t y) n)
  sites_written i t x y h g e w =
      w ∙ rw (e, memory_site n i x h) (memory_site (with_sites (set n.state.sites i x) n) t y (lt-length-set n.state.sites i x g))

  module _ {m m₁ : List ℕ} {base count : ℕ} (l : List Site) (same : length l ≡ length n.state.sites) (fit : T (all site_fits l))
      (held : m ≡ memory_of n) (b : base ≡ offset_in m 5) (c : count ≡ count_in m 5) (sites : m₁ ≡ memory_of (with_sites l n)) where
    counted : count ≡ length n.state.rows
    counted = c ∙ ap (λ (k : List ℕ). count_in k 5) held ∙ (memory_says n f).count5

    based : base ≡ offset_in (image_of (with_sites l n)) 5
    based = b ∙ ap (λ (k : List ℕ). offset_in k 5) held ∙ rows_at l same fit

    pub row_added : {m₂ : List ℕ} (k : ℕ) (y : Row) → k ≤ length n.state.rows → m₂ ≡ splice (inserted (row_bytes y) (base + 10 * k) (base + 10 * count) m₁) 38 (u16_bytes (count + 1))
        → m₂ ≡ memory_of (with_rows (insert_at k y n.state.rows) (with_sites l n))
    row_added k y h w = w ∙ rw (sites, based, counted) (memory_add (with_sites l n) (fits_with n l f same fit) k y h)

    pub row-removed : {m₂ : List ℕ} (k : ℕ) → k < length n.state.rows → m₂ ≡ splice (removed 10 (base + 10 * k) (base + 10 * count) m₁) 38 (u16_bytes (count - 1))
        → m₂ ≡ memory_of (with_rows (remove_at k n.state.rows) (with_sites l n))
    row-removed k h w = w ∙ rw (sites, based, counted) (memory_remove (with_sites l n) (fits_with n l f same fit) k h)
