-- The five kinds of records: each field is read where it is written. Assumes nothing.
use mathlib.Core.Path.{◌≡◌, refl}
use mathlib.Core.Bool.{true, ◌&&◌}
use mathlib.Core.List.{List, [], ◌∷◌, ◌++◌}
use Prim.Native.Nat.{ℕ, ◌+◌, ◌≤◌}
use native.Mathlib.Nat.{add_assoc}
use lib.Dec.{T}
use lib.ListN.{length, get_or, take, drop}
use lib.Seq.{get_or-drop}
use Rattle.words.specs.Lists.{all}
use Rattle.words.specs.Bytes.{Bytes, u16_at}
use Rattle.words.proofs.Truth.{both_T}
use Rattle.words.proofs.Numbers.{u16_at-drop, low_word, high_word, elems-take}
use Rattle.words.proofs.Tables.{Codec}
use Rattle.net.specs.Records.{no_operand, four_words, eight_words, read_operand, four_operands, word_bytes4, operand_bytes4, bytes_fit, words_fit, operands_fit, site_width, node_width, aspect_width, action_width, row_width, read_site, read_node, read_aspect, read_action, read_row, site_bytes, node_bytes, aspect_bytes, action_bytes, row_bytes, site_fits, node_fits, aspect_fits, action_fits, row_fits}
use Rattle.net.specs.declared.Operand.{Operand}
use Rattle.net.specs.declared.Site.{Site}
use Rattle.net.specs.declared.Node.{Node}
use Rattle.net.specs.declared.Aspect.{Aspect}
use Rattle.net.specs.declared.Action.{Action}
use Rattle.net.specs.declared.Row.{Row}
use Rattle.net.proofs.Fields.{four_words-drop, eight_words-drop, read_operand-drop, four_operands-drop, words_back, operands_back, byte_fits, word_fits, is_byte, low_fits, own_fits}

-- ---- sites
-- a site takes so many bytes
pub site_wide : (x : Site) → length (site_bytes x) ≡ site_width
unfolding site_bytes
site_wide x = refl

-- a site read past a front
pub site_moved : (n : ℕ) (m : List ℕ) (k : ℕ) → read_site (drop n m) k ≡ read_site m (n + k)
unfolding read_site
site_moved n m k = simp (u16_at-drop, eight_words-drop, add_assoc)

-- a site written is read back
pub site_back : (x : Site) (rest : List ℕ) → T (site_fits x) → read_site (site_bytes x ++ rest) 0 ≡ x
unfolding read_site site_bytes eight_words u16_at
site_back x rest t =
    let own : List ℕ = x.name ∷ x.s ∷ x.c ∷ x.o ∷ x.hs ∷ x.ho ∷ x.position ∷ x.lost ∷ [] in
    let h = both_T (words_fit 8 own) (words_fit 8 x.vars) t in
    let w = words_back 8 own h.0 in
    λ k. record {
      name = get_or (w k) 0 0;
      s = get_or (w k) 1 0;
      c = get_or (w k) 2 0;
      o = get_or (w k) 3 0;
      hs = get_or (w k) 4 0;
      ho = get_or (w k) 5 0;
      position = get_or (w k) 6 0;
      lost = get_or (w k) 7 0;
      vars = words_back 8 x.vars h.1 k;
    }

-- a site read is written back
pub site_again : (m : List ℕ) → Bytes m → site_width ≤ length m → site_bytes (read_site m 0) ≡ take site_width m
unfolding read_site site_bytes eight_words
site_again m h l = simp (low_word m h, high_word m h) (elems-take 0 site_width m l)

-- a site read fits
pub site_sound : (m : List ℕ) → Bytes m → (i : ℕ) → T (site_fits (read_site m i))
unfolding read_site eight_words
site_sound m h i = simp (word_fits m h) tt

-- a site that fits is written in bytes
pub site_small : (x : Site) → T (site_fits x) → all is_byte (site_bytes x) ≡ true
unfolding site_bytes
site_small x t = simp low_fits

-- sites as a kind of record
abbrev pub site_kind : Codec Site
site_kind = record { enc = site_bytes; dec = read_site; w = site_width; fits = site_fits; wide = site_wide; moved = site_moved; back = site_back; again = site_again; sound = site_sound }

-- ---- nodes
-- a node takes so many bytes
pub node_wide : (x : Node) → length (node_bytes x) ≡ node_width
unfolding node_bytes operand_bytes4
node_wide x = refl

-- a node read past a front
pub node-moved : (n : ℕ) (m : List ℕ) (k : ℕ) → read_node (drop n m) k ≡ read_node m (n + k)
unfolding read_node
node-moved n m k = simp (get_or-drop, u16_at-drop, four_operands-drop, add_assoc)

-- a node written is read back
pub node_back : (x : Node) (rest : List ℕ) → T (node_fits x) → read_node (node_bytes x ++ rest) 0 ≡ x
unfolding read_node node_bytes four_operands read_operand operand_bytes4 u16_at
node_back x rest t =
    let own : List ℕ = x.a ∷ x.b ∷ x.zero ∷ [] in
    let h = (both_T (bytes_fit 2 (x.kind ∷ x.count ∷ [])) (words_fit 3 own && operands_fit 4 x.fields) t).1 in
    let g = both_T (words_fit 3 own) (operands_fit 4 x.fields) h in
    let w = words_back 3 own g.0 in
    λ k. record {
      kind = x.kind;
      count = x.count;
      a = get_or (w k) 0 0;
      b = get_or (w k) 1 0;
      zero = get_or (w k) 2 0;
      fields = operands_back 4 x.fields g.1 k;
    }

-- a node read is written back
pub node_again : (m : List ℕ) → Bytes m → node_width ≤ length m → node_bytes (read_node m 0) ≡ take node_width m
unfolding read_node node_bytes four_operands read_operand operand_bytes4
node_again m h l = simp (low_word m h, high_word m h) (elems-take 0 node_width m l)

-- a node read fits
pub node_sound : (m : List ℕ) → Bytes m → (i : ℕ) → T (node_fits (read_node m i))
unfolding read_node four_operands read_operand
node_sound m h i = simp (byte_fits m h, word_fits m h) tt

-- a node that fits is written in bytes
pub node_small : (x : Node) → T (node_fits x) → all is_byte (node_bytes x) ≡ true
unfolding node_bytes operand_bytes4
node_small x t =
    let own : List ℕ = x.kind ∷ x.count ∷ [] in
    let h = (both_T (bytes_fit 2 own) (words_fit 3 (x.a ∷ x.b ∷ x.zero ∷ []) && operands_fit 4 x.fields) t).0 in
    simp (low_fits, own_fits 2 own h 0, own_fits 2 own h 1)

-- nodes as a kind of record
abbrev pub node_kind : Codec Node
node_kind = record { enc = node_bytes; dec = read_node; w = node_width; fits = node_fits; wide = node_wide; moved = node-moved; back = node_back; again = node_again; sound = node_sound }

-- ---- aspects
-- an aspect takes so many bytes
pub aspect_wide : (x : Aspect) → length (aspect_bytes x) ≡ aspect_width
unfolding aspect_bytes operand_bytes4
aspect_wide x = refl

-- an aspect read past a front
pub aspect_moved : (n : ℕ) (m : List ℕ) (k : ℕ) → read_aspect (drop n m) k ≡ read_aspect m (n + k)
unfolding read_aspect
aspect_moved n m k = simp (get_or-drop, u16_at-drop, read_operand-drop, four_operands-drop, add_assoc)

-- an aspect written is read back
pub aspect_back : (x : Aspect) (rest : List ℕ) → T (aspect_fits x) → read_aspect (aspect_bytes x ++ rest) 0 ≡ x
unfolding read_aspect aspect_bytes four_operands read_operand operand_bytes4 u16_at
aspect_back x rest t =
    let ends : List Operand = x.source ∷ x.target ∷ [] in
    let own : List ℕ = x.condition ∷ x.recommendation ∷ [] in
    let h =
    (both_T (bytes_fit 4 (x.owner ∷ x.capability ∷ x.count ∷ x.zero ∷ [])) (operands_fit 2 ends && (operands_fit 4 x.fields && words_fit 2 own)) t).1 in
    let g = both_T (operands_fit 2 ends) (operands_fit 4 x.fields && words_fit 2 own) h in
    let f = both_T (operands_fit 4 x.fields) (words_fit 2 own) g.1 in
    let e = operands_back 2 ends g.0 in
    let w = words_back 2 own f.1 in
    λ k. record {
      owner = x.owner;
      capability = x.capability;
      count = x.count;
      zero = x.zero;
      source = get_or (e k) 0 no_operand;
      target = get_or (e k) 1 no_operand;
      fields = operands_back 4 x.fields f.0 k;
      condition = get_or (w k) 0 0;
      recommendation = get_or (w k) 1 0;
    }

-- an aspect read is written back
pub aspect_again : (m : List ℕ) → Bytes m → aspect_width ≤ length m → aspect_bytes (read_aspect m 0) ≡ take aspect_width m
unfolding read_aspect aspect_bytes four_operands read_operand operand_bytes4
aspect_again m h l = simp (low_word m h, high_word m h) (elems-take 0 aspect_width m l)

-- an aspect read fits
pub aspect_sound : (m : List ℕ) → Bytes m → (i : ℕ) → T (aspect_fits (read_aspect m i))
unfolding read_aspect four_operands read_operand
aspect_sound m h i = simp (byte_fits m h, word_fits m h) tt

-- an aspect that fits is written in bytes
pub aspect_small : (x : Aspect) → T (aspect_fits x) → all is_byte (aspect_bytes x) ≡ true
unfolding aspect_bytes operand_bytes4
aspect_small x t =
    let own : List ℕ = x.owner ∷ x.capability ∷ x.count ∷ x.zero ∷ [] in
    let h =
    (both_T (bytes_fit 4 own) (operands_fit 2 (x.source ∷ x.target ∷ []) && (operands_fit 4 x.fields && words_fit 2 (x.condition ∷ x.recommendation ∷ []))) t).0 in
    simp (low_fits, own_fits 4 own h 0, own_fits 4 own h 1, own_fits 4 own h 2, own_fits 4 own h 3)

-- aspects as a kind of record
abbrev pub aspect_kind : Codec Aspect
aspect_kind = record { enc = aspect_bytes; dec = read_aspect; w = aspect_width; fits = aspect_fits; wide = aspect_wide; moved = aspect_moved; back = aspect_back; again = aspect_again; sound = aspect_sound }

-- ---- actions
-- an action takes so many bytes
pub action_wide : (x : Action) → length (action_bytes x) ≡ action_width
unfolding action_bytes operand_bytes4
action_wide x = refl

-- an action read past a front
pub action_moved : (n : ℕ) (m : List ℕ) (k : ℕ) → read_action (drop n m) k ≡ read_action m (n + k)
unfolding read_action
action_moved n m k = simp (get_or-drop, read_operand-drop, four_operands-drop, add_assoc)

-- an action written is read back
pub action_back : (x : Action) (rest : List ℕ) → T (action_fits x) → read_action (action_bytes x ++ rest) 0 ≡ x
unfolding read_action action_bytes four_operands read_operand operand_bytes4 u16_at
action_back x rest t =
    let end : List Operand = x.target ∷ [] in
    let h = (both_T (bytes_fit 4 (x.owner ∷ x.zero ∷ x.capability ∷ x.count ∷ [])) (operands_fit 1 end && operands_fit 4 x.fields) t).1 in
    let g = both_T (operands_fit 1 end) (operands_fit 4 x.fields) h in
    λ k. record {
      owner = x.owner;
      zero = x.zero;
      capability = x.capability;
      count = x.count;
      target = get_or (operands_back 1 end g.0 k) 0 no_operand;
      fields = operands_back 4 x.fields g.1 k;
    }

-- an action read is written back
pub action_again : (m : List ℕ) → Bytes m → action_width ≤ length m → action_bytes (read_action m 0) ≡ take action_width m
unfolding read_action action_bytes four_operands read_operand operand_bytes4
action_again m h l = simp (low_word m h, high_word m h) (elems-take 0 action_width m l)

-- an action read fits
pub action_sound : (m : List ℕ) → Bytes m → (i : ℕ) → T (action_fits (read_action m i))
unfolding read_action four_operands read_operand
action_sound m h i = simp (byte_fits m h, word_fits m h) tt

-- an action that fits is written in bytes
pub action_small : (x : Action) → T (action_fits x) → all is_byte (action_bytes x) ≡ true
unfolding action_bytes operand_bytes4
action_small x t =
    let own : List ℕ = x.owner ∷ x.zero ∷ x.capability ∷ x.count ∷ [] in
    let h = (both_T (bytes_fit 4 own) (operands_fit 1 (x.target ∷ []) && operands_fit 4 x.fields) t).0 in
    simp (low_fits, own_fits 4 own h 0, own_fits 4 own h 1, own_fits 4 own h 2, own_fits 4 own h 3)

-- actions as a kind of record
abbrev pub action_kind : Codec Action
action_kind = record { enc = action_bytes; dec = read_action; w = action_width; fits = action_fits; wide = action_wide; moved = action_moved; back = action_back; again = action_again; sound = action_sound }

-- ---- rows
-- a row takes so many bytes
pub row_wide : (x : Row) → length (row_bytes x) ≡ row_width
unfolding row_bytes word_bytes4
row_wide x = refl

-- a row read past a front
pub row_moved : (n : ℕ) (m : List ℕ) (k : ℕ) → read_row (drop n m) k ≡ read_row m (n + k)
unfolding read_row
row_moved n m k = simp (get_or-drop, four_words-drop, add_assoc)

-- a row written is read back
pub row_back : (x : Row) (rest : List ℕ) → T (row_fits x) → read_row (row_bytes x ++ rest) 0 ≡ x
unfolding read_row row_bytes four_words word_bytes4 u16_at
row_back x rest t =
    let h = both_T (bytes_fit 2 (x.owner ∷ x.count ∷ [])) (words_fit 4 x.fields) t in
    λ k. record { owner = x.owner; count = x.count; fields = words_back 4 x.fields h.1 k }

-- a row read is written back
pub row_again : (m : List ℕ) → Bytes m → row_width ≤ length m → row_bytes (read_row m 0) ≡ take row_width m
unfolding read_row row_bytes four_words word_bytes4
row_again m h l = simp (low_word m h, high_word m h) (elems-take 0 row_width m l)

-- a row read fits
pub row_sound : (m : List ℕ) → Bytes m → (i : ℕ) → T (row_fits (read_row m i))
unfolding read_row four_words
row_sound m h i = simp (byte_fits m h, word_fits m h) tt

-- a row that fits is written in bytes
pub row_small : (x : Row) → T (row_fits x) → all is_byte (row_bytes x) ≡ true
unfolding row_bytes word_bytes4
row_small x t =
    let own : List ℕ = x.owner ∷ x.count ∷ [] in
    let h = (both_T (bytes_fit 2 own) (words_fit 4 x.fields) t).0 in
    simp (low_fits, own_fits 2 own h 0, own_fits 2 own h 1)

-- rows as a kind of record
abbrev pub row_kind : Codec Row
row_kind = record { enc = row_bytes; dec = read_row; w = row_width; fits = row_fits; wide = row_wide; moved = row_moved; back = row_back; again = row_again; sound = row_sound }
