-- The bodies of an image whose contents are in order: each starts where the one before it ends, so all of them lie within the image, and
-- each holds as many records as its entry says. Assumes nothing.
use mathlib.Core.Bool.{Bool, true}
use mathlib.Core.List.{List, [], ◌∷◌, ◌++◌}
use mathlib.Core.Path.{◌≡◌, ap, ◌∙◌}
use Prim.Native.Nat.{ℕ, zero, suc, ◌+◌, ◌*◌, ◌/◌, ◌≤◌, ◌<◌}
use native.Mathlib.Nat.{mul-div_cancel_left}
use native.Mathlib.Omega.{arith}
use lib.Dec.{T, leb, eqb, leb→le, le→leb, eqb→eq}
use lib.ListN.{length, take, drop, length-take, length-drop, take-append-drop}
use lib.Seq.{get_or-drop, drop-drop, take_all}
use borrow.Author.Tests.{eq-eqb}
use Rattle.words.specs.Bytes.{Bytes, u16_at}
use Rattle.words.specs.Tables.{table_of}
use Rattle.words.proofs.Truth.{is_T, T_is, part, joined, ◌also◌}
use Rattle.words.proofs.Tables.{table_length}
use Rattle.net.specs.Records.{site_width, node_width, aspect_width, action_width, row_width, read_site, read_node, read_aspect, read_action, read_row}
use Rattle.net.specs.Net.{most_sites, most_nodes, most_aspects, most_actions, most_rows}
use Rattle.net.specs.Image.{width_of, most_of, least_of, kind_in, count_in, offset_in, length_in, start_in, end_in, entry_ok, contents_ok, body_in, sites_in, nodes_in, aspects_in, actions_in, rows_in}

-- what an entry that is right says
pub record Entry (s : List ℕ) (k : ℕ) : Type 0 where
  pub kind : kind_in s k ≡ k
  pub least : least_of k ≤ count_in s k
  pub most : count_in s k ≤ most_of k
  pub start : offset_in s k ≡ start_in s k

-- what contents that are in order say
pub record Contents (s : List ℕ) : Type 0 where
  pub five : u16_at s 2 ≡ 5
  pub sites : Entry s 1
  pub nodes : Entry s 2
  pub aspects : Entry s 3
  pub actions : Entry s 4
  pub rows : Entry s 5
  pub end : end_in s ≡ length s

-- ---- contents in order say so, and what says so is in order
module _ (s : List ℕ) where
  abbrev entry_tests : ℕ → List Bool
  entry_tests k = eqb (kind_in s k) k ∷ leb (least_of k) (count_in s k) ∷ leb (count_in s k) (most_of k) ∷ eqb (offset_in s k) (start_in s k) ∷ []

  -- an entry that is right says so
  entry : (k : ℕ) → T (entry_ok s k) → Entry s k
  unfolding entry_ok
  entry k t =
      let p = part (entry_tests k) t in
      record {
        kind = eqb→eq (kind_in s k) k (p 0);
        least = leb→le (least_of k) (count_in s k) (p 1);
        most = leb→le (count_in s k) (most_of k) (p 2);
        start = eqb→eq (offset_in s k) (start_in s k) (p 3);
      }

  -- an entry that says so is right
  entry_ok_lem : (k : ℕ) → Entry s k → T (entry_ok s k)
  unfolding entry_ok
  entry_ok_lem k e =
      joined (entry_tests k) (
      is_T _ (eq-eqb (kind_in s k) k e.kind)
      also le→leb (least_of k) (count_in s k) e.least
      also le→leb (count_in s k) (most_of k) e.most
      also is_T _ (eq-eqb (offset_in s k) (start_in s k) e.start))

  abbrev contents_tests : List Bool
  contents_tests = eqb (u16_at s 2) 5 ∷ entry_ok s 1 ∷ entry_ok s 2 ∷ entry_ok s 3 ∷ entry_ok s 4 ∷ entry_ok s 5 ∷ eqb (end_in s) (length s) ∷ []

  -- contents in order
  pub contents : contents_ok s ≡ true → Contents s
  unfolding contents_ok
  contents t =
      let p = part contents_tests (is_T _ t) in
      record {
        five = eqb→eq (u16_at s 2) 5 (p 0);
        sites = entry 1 (p 1);
        nodes = entry 2 (p 2);
        aspects = entry 3 (p 3);
        actions = entry 4 (p 4);
        rows = entry 5 (p 5);
        end = eqb→eq (end_in s) (length s) (p 6);
      }

  -- and back
  pub contents_ok_lem : Contents s → contents_ok s ≡ true
  unfolding contents_ok
  contents_ok_lem c =
      T_is _ (joined contents_tests (
      is_T _ (eq-eqb (u16_at s 2) 5 c.five)
      also entry_ok_lem 1 c.sites
      also entry_ok_lem 2 c.nodes
      also entry_ok_lem 3 c.aspects
      also entry_ok_lem 4 c.actions
      also entry_ok_lem 5 c.rows
      also is_T _ (eq-eqb (end_in s) (length s) c.end)))

-- ---- the five kinds
-- what holds of each of the five kinds
pub each : (P : ℕ → Type 0) → P 1 → P 2 → P 3 → P 4 → P 5 → (k : ℕ) → 1 ≤ k → k < 6 → P k
each P a b c d e zero p q = absurd (let h : ⊥ = omega arith in h)
each P a b c d e (suc zero) p q = a
each P a b c d e (suc (suc zero)) p q = b
each P a b c d e (suc (suc (suc zero))) p q = c
each P a b c d e (suc (suc (suc (suc zero)))) p q = d
each P a b c d e (suc (suc (suc (suc (suc zero))))) p q = e
each P a b c d e (suc (suc (suc (suc (suc (suc k)))))) p q = absurd (let h : ⊥ = omega arith in h)

-- no record is empty
pub width_some : (k : ℕ) → 1 ≤ k → k < 6 → 0 < width_of k
unfolding width_of
width_some = each (λ k. 0 < width_of k) (omega arith) (omega arith) (omega arith) (omega arith) (omega arith)

-- the length of the longest image
abbrev pub most_length : ℕ
most_length = 44 + (site_width * most_sites + (node_width * most_nodes + (aspect_width * most_aspects + (action_width * most_actions + row_width * most_rows))))

-- each body ends where the next starts, and the last where the image ends
pub record Chain (s : List ℕ) : Type 0 where
  pub at1 : offset_in s 1 ≡ 44
  pub at2 : offset_in s 2 ≡ offset_in s 1 + length_in s 1
  pub at3 : offset_in s 3 ≡ offset_in s 2 + length_in s 2
  pub at4 : offset_in s 4 ≡ offset_in s 3 + length_in s 3
  pub at5 : offset_in s 5 ≡ offset_in s 4 + length_in s 4
  pub end : offset_in s 5 + length_in s 5 ≡ length s

module _ (s : List ℕ) (k : ℕ) where
  -- a body, and what follows it
  body_next : {n : ℕ} → n ≡ offset_in s k + length_in s k → body_in s k ++ drop n s ≡ drop (offset_in s k) s
  unfolding body_in
  body_next e = rw (e, ← drop-drop) (take-append-drop (length_in s k) (drop (offset_in s k) s))

  -- a body that nothing follows
  body_last : offset_in s k + length_in s k ≡ length s → body_in s k ≡ drop (offset_in s k) s
  unfolding body_in
  body_last e = take_all (length_in s k) (drop (offset_in s k) s) (simp length-drop (omega arith))

-- ---- bytes
-- the first n of bytes are bytes
pub bytes_take : (n : ℕ) (m : List ℕ) → Bytes m → Bytes (take n m)
bytes_take zero m h k = omega arith
bytes_take (suc n) [] h k = h k
bytes_take (suc n) (x ∷ m) h zero = h 0
bytes_take (suc n) (x ∷ m) h (suc k) = bytes_take n m (λ j. h (suc j)) k

-- the bodies of bytes are bytes
pub bytes_body : (s : List ℕ) → Bytes s → (k : ℕ) → Bytes (body_in s k)
unfolding body_in
bytes_body s h k = bytes_take (length_in s k) (drop (offset_in s k) s) (λ j. rw get_or-drop (h (offset_in s k + j)))

module _ (s : List ℕ) (ok : contents_ok s ≡ true) where
  -- where each body starts
  pub chain : Chain s
  chain =
      let c = contents s ok in
      record { at1 = c.sites.start; at2 = c.nodes.start; at3 = c.aspects.start; at4 = c.actions.start; at5 = c.rows.start; end = c.end }

  -- each entry: at least so many records, at most so many
  pub entry_of : (k : ℕ) → 1 ≤ k → k < 6 → Entry s k
  entry_of = let c = contents s ok in each (Entry s) c.sites c.nodes c.aspects c.actions c.rows

  -- there is a header
  pub least_length : 44 ≤ length s
  least_length = let c = chain in omega arith

  -- and no more than the most records of every kind
  pub most_length_lem : length s ≤ most_length
  unfolding width_of most_of
  most_length_lem =
      let c = chain in
      let e = contents s ok in
      omega arith

  -- each body lies within the image
  pub within : (k : ℕ) → 1 ≤ k → k < 6 → offset_in s k + length_in s k ≤ length s
  within =
      let c = chain in
      each (λ k. offset_in s k + length_in s k ≤ length s) (omega arith) (omega arith) (omega arith) (omega arith) (omega arith)

  -- and is as long as its entry says
  pub body_length : (k : ℕ) → 1 ≤ k → k < 6 → length (body_in s k) ≡ length_in s k
  unfolding body_in
  body_length k p q = let w = within k p q in simp (length-take, length-drop) (omega arith)

  -- the bodies together are all that follows the header
  pub bodies : body_in s 1 ++ (body_in s 2 ++ (body_in s 3 ++ (body_in s 4 ++ body_in s 5))) ≡ drop 44 s
  bodies =
      let c = chain in
      let last : body_in s 5 ≡ drop (offset_in s 5) s = body_last s 5 c.end in
      rw (last, body_next s 4 c.at5, body_next s 3 c.at4, body_next s 2 c.at3, body_next s 1 c.at2, c.at1)

  -- as many records as the entry says
  record_count : {A : Type 0} (read : List ℕ → ℕ → A) (k : ℕ) → 1 ≤ k → k < 6 → length (table_of read (width_of k) (body_in s k)) ≡ count_in s k
  record_count read k p q =
      table_length read (width_of k) (body_in s k)
      ∙ ap (λ (n : ℕ). n / width_of k) (body_length k p q)
      ∙ mul-div_cancel_left (count_in s k) (width_some k p q)

  -- so many sites, nodes, aspects, actions, rows
  pub sites_count : length (sites_in (body_in s 1)) ≡ count_in s 1
  unfolding width_of
  sites_count = record_count read_site 1 (omega arith) (omega arith)

  pub nodes_count : length (nodes_in (body_in s 2)) ≡ count_in s 2
  unfolding width_of
  nodes_count = record_count read_node 2 (omega arith) (omega arith)

  pub aspects_count : length (aspects_in (body_in s 3)) ≡ count_in s 3
  unfolding width_of
  aspects_count = record_count read_aspect 3 (omega arith) (omega arith)

  pub actions_count : length (actions_in (body_in s 4)) ≡ count_in s 4
  unfolding width_of
  actions_count = record_count read_action 4 (omega arith) (omega arith)

  pub rows-count : length (rows_in (body_in s 5)) ≡ count_in s 5
  unfolding width_of
  rows-count = record_count read_row 5 (omega arith) (omega arith)
