-- Net memory when the net changes: a site's record is written over, a row's record is put in or taken out and the rows after it move, and
-- the count in the header follows; what stands before the rows stays. Assumes nothing.
use mathlib.Core.List.{List, ◌++◌, append_assoc}
use mathlib.Core.Path.{◌≡◌, refl, sym, ap, ◌∙◌}
use Prim.Native.Nat.{ℕ, suc, ◌+◌, ◌*◌, ◌-◌, ◌≤◌, ◌<◌}
use native.Mathlib.Numerals.{add-one}
use native.Mathlib.Omega.{arith}
use lib.ListN.{length, get_or, set, take, drop, length-set, take-append-drop, replicate-append-replicate}
use lib.Seq.{length-take-le, split_at}
use Rattle.words.specs.Lists.{insert_at, remove_at}
use Rattle.words.specs.Bytes.{u16_at, u32_at, u16_bytes, blank, padded, splice, inserted, removed}
use Rattle.words.specs.Tables.{encode_all}
use Rattle.words.proofs.Lists.{length-insert, length-remove}
use Rattle.words.proofs.Splices.{drop-blank}
use Rattle.words.proofs.Tables.{between, write_at, insert_at_lem, remove_at_lem}
use Rattle.net.specs.Records.{site_width, row_width, no_row, site_bytes, node_bytes, aspect_bytes, action_bytes, row_bytes}
use Rattle.net.specs.Net.{Net}
use Rattle.net.specs.Image.{offset_in, end_in, net_of, header, image_of, memory_size, memory_of}
use Rattle.net.specs.declared.Site.{Site}
use Rattle.net.specs.declared.Row.{Row}
use Rattle.net.proofs.Codecs.{site_kind, row_kind}
use Rattle.net.proofs.Header.{length-header}
use Rattle.net.proofs.Images.{Fits, Headed, headed, head, front, length_front, image_parts, rows_at, size_of, length_image, image_says, image_contents, contents_of_image, most_image, Laid, image_laid, net_of_laid}
use Rattle.net.proofs.Padding.{length-padded, take-padded, u16_at-padded, u32_at-padded, body_in-padded}

-- a net with other sites
abbrev pub with_sites : List Site → Net → Net
with_sites l n = record { state = record { sites = l; actions = n.state.actions; rows = n.state.rows }; rules = n.rules }

-- a net with other rows
abbrev pub with_rows : List Row → Net → Net
with_rows l n = record { state = record { sites = n.state.sites; actions = n.state.actions; rows = l }; rules = n.rules }

-- ---- reading memory
-- the image is in front
pub image_in_memory : (n : Net) → take (length (image_of n)) (memory_of n) ≡ image_of n
image_in_memory n = take-padded memory_size (image_of n)

-- a word is that of the image
pub word_in_memory : (n : Net) (k : ℕ) → u16_at (memory_of n) k ≡ u16_at (image_of n) k
word_in_memory n = u16_at-padded memory_size (image_of n)

-- a u32 is that of the image
pub long_in_memory : (n : Net) (k : ℕ) → u32_at (memory_of n) k ≡ u32_at (image_of n) k
long_in_memory n = u32_at-padded memory_size (image_of n)

module _ (n : Net) (f : Fits n) where
  -- 65,536 bytes
  pub length_memory : length (memory_of n) ≡ memory_size
  length_memory = length-padded memory_size (image_of n) (omega (arith, most_image n f))

  -- the header says how many records of each kind there are
  pub memory_says : Headed n (memory_of n)
  unfolding padded image_of
  memory_says = rw append_assoc (headed n f _)

  -- and where the image ends
  pub end_in_memory : end_in (memory_of n) ≡ length (image_of n)
  end_in_memory = rw (word_in_memory n, long_in_memory n) (image_contents n f).end

  -- each body is the bytes of its records
  pub memory_laid : Laid n (memory_of n)
  memory_laid =
      let l = image_laid n f in
      let same = body_in-padded memory_size (image_of n) (contents_of_image n f) in
      record {
        sites = same 1 (omega arith) (omega arith) ∙ l.sites;
        nodes = same 2 (omega arith) (omega arith) ∙ l.nodes;
        aspects = same 3 (omega arith) (omega arith) ∙ l.aspects;
        actions = same 4 (omega arith) (omega arith) ∙ l.actions;
        rows = same 5 (omega arith) (omega arith) ∙ l.rows;
      }

  -- so the net is read back
  pub net_of_memory : net_of (memory_of n) ≡ n
  net_of_memory = net_of_laid n f (memory_of n) memory_laid

-- ---- memory as the parts that change and those that stay
-- the image, then zeros
zeros : (n : Net) → memory_of n ≡ image_of n ++ blank (memory_size - size_of n)
unfolding padded
zeros n = ap (λ (k : ℕ). image_of n ++ blank (memory_size - k)) (length_image n)

module _ (n : Net) where
  -- what stands before the rows, they, then zeros
  by_rows : (l : List Row) → memory_of (with_rows l n) ≡ between row_bytes (front n (length l)) l (blank (memory_size - size_of (with_rows l n)))
  by_rows l =
      let z = blank (memory_size - size_of (with_rows l n)) in
      zeros (with_rows l n)
      ∙ ap (λ (b : List ℕ). b ++ z) (image_parts (with_rows l n))
      ∙ append_assoc (front n (length l)) (encode_all row_bytes l) z

  -- the count of rows is a word of the header
  counted : (rows k : ℕ) (r : List ℕ) → splice (front n rows ++ r) 38 (u16_bytes k) ≡ front n k ++ r
  unfolding splice header
  counted rows k r = refl

  -- what stands after the sites
  abbrev rest : ℕ → List ℕ
  rest size =
      encode_all node_bytes n.rules.nodes
      ++ (encode_all aspect_bytes n.rules.aspects
      ++ (encode_all action_bytes n.state.actions
      ++ (encode_all row_bytes n.state.rows ++ blank (memory_size - size))))

  -- the header, the sites, what stands after them
  by_sites : (l : List Site) → memory_of (with_sites l n) ≡ between site_bytes (head (with_sites l n) (length n.state.rows)) l (rest (size_of (with_sites l n)))
  unfolding image_of
  by_sites l = zeros (with_sites l n) ∙ simp append_assoc

  -- ---- the changes
  -- a site is written over
  pub memory_site : (i : ℕ) (x : Site) → i < length n.state.sites
      → splice (memory_of n) (44 + site_width * i) (site_bytes x) ≡ memory_of (with_sites (set n.state.sites i x) n)
  memory_site i x h =
      let l = n.state.sites in
      ap (λ (m : List ℕ). splice m (44 + site_width * i) (site_bytes x)) (by_sites l)
      ∙ rw length-header at (write_at site_kind (head n (length n.state.rows)) l (rest (size_of n)) i x h)
      ∙ sym (rw length-set at (by_sites (set l i x)))

  module _ (f : Fits n) where
    -- where the rows start
    pub rows_start : offset_in (image_of n) 5 ≡ rows_at n
    rows_start = (image_says n f).at5

    -- a row is put in, and the count raised
    pub memory_add : (k : ℕ) (y : Row) → k ≤ length n.state.rows
        → splice
        (inserted (row_bytes y) (offset_in (image_of n) 5 + row_width * k) (offset_in (image_of n) 5 + row_width * length n.state.rows) (memory_of n))
        38 (u16_bytes (length n.state.rows + 1))
        ≡ memory_of (with_rows (insert_at k y n.state.rows) n)
    memory_add k y h =
        let l : List Row = n.state.rows in
        let a : List Row = take k l in
        let b : List Row = drop k l in
        let z : ℕ = memory_size - size_of n in
        let la : length a ≡ k = length-take-le k l h in
        let many : length (insert_at k y l) ≡ length l + 1 = length-insert k y l ∙ sym (add-one (length l)) in
        let left : z - row_width ≡ memory_size - size_of (with_rows (insert_at k y l) n) = omega arith in
        let put : inserted (row_bytes y) (rows_at n + row_width * k) (rows_at n + row_width * length l) (memory_of n)
        ≡ between row_bytes (front n (length l)) (insert_at k y l) (drop row_width (blank z)) =
        rw (by_rows l) (rw (take-append-drop, length_front, la) at (insert_at_lem row_kind (front n (length l)) a b y (blank z))) in
        rw (rows_start, put, counted, drop-blank, left, ← many) (sym (by_rows (insert_at k y l)))

    -- a row is taken out, and the count lowered
    pub memory_remove : (k : ℕ) → k < length n.state.rows
        → splice
        (removed row_width (offset_in (image_of n) 5 + row_width * k) (offset_in (image_of n) 5 + row_width * length n.state.rows) (memory_of n))
        38 (u16_bytes (length n.state.rows - 1))
        ≡ memory_of (with_rows (remove_at k n.state.rows) n)
    memory_remove k h =
        let l : List Row = n.state.rows in
        let a : List Row = take k l in
        let y : Row = get_or l k no_row in
        let b : List Row = drop (suc k) l in
        let z : ℕ = memory_size - size_of n in
        let la : length a ≡ k = length-take-le k l (omega arith) in
        let one : suc (length (remove_at k l)) ≡ length l = length-remove k l h in
        let many : length (remove_at k l) ≡ length l - 1 = omega arith in
        let small : size_of n ≤ memory_size = omega arith in
        let left : row_width + z ≡ memory_size - size_of (with_rows (remove_at k l) n) = omega arith in
        let out : removed row_width (rows_at n + row_width * k) (rows_at n + row_width * length l) (memory_of n)
        ≡ between row_bytes (front n (length l)) (remove_at k l) (blank row_width ++ blank z) =
        rw (by_rows l) (rw (← split_at l k no_row h, length_front, la) at (remove_at_lem row_kind (front n (length l)) a b y (blank z))) in
        rw (rows_start, out, counted, replicate-append-replicate {A = ℕ} row_width z 0, left, ← many) (sym (by_rows (remove_at k l)))
