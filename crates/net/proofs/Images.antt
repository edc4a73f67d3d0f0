-- The image of a net and the net of an image: the header says how many records there are, so each body is found where it was put, and its
-- records are read back; and bytes whose header is right are that header and these bodies. Assumes nothing.
use mathlib.Core.Bool.{Bool, true}
use mathlib.Core.List.{List, [], ◌∷◌, ◌++◌, append_assoc, append-nil}
use mathlib.Core.Path.{◌≡◌, refl, ap, ◌∙◌}
use Prim.Native.Nat.{ℕ, zero, suc, ◌+◌, ◌*◌, ◌/◌, ◌≤◌, ◌<◌}
use native.Mathlib.Omega.{arith}
use lib.Dec.{T, ltb→lt}
use lib.ListN.{length, get_or, drop, length-append, take-append-drop}
use lib.Seq.{take_at, drop_at, drop-drop}
use Rattle.words.specs.Lists.{all}
use Rattle.words.specs.Bytes.{Bytes, u16_at}
use Rattle.words.specs.Tables.{build, table_of, encode_all}
use Rattle.words.proofs.Truth.{both_T, T_both, is_T}
use Rattle.words.proofs.Lists.{all_get_d, all_append}
use Rattle.words.proofs.Tables.{Codec, length-encode_all, decode_encode, encode_decode}
use Rattle.net.specs.Records.{site_width, node_width, aspect_width, action_width, row_width, no_site, no_node, no_aspect, no_action, no_row, site_bytes, node_bytes, aspect_bytes, action_bytes, row_bytes, site_fits, node_fits, aspect_fits, action_fits, row_fits}
use Rattle.net.specs.Net.{Net, most_sites, most_nodes, most_aspects, most_actions, most_rows}
use Rattle.net.specs.Image.{width_of, most_of, count_in, offset_in, length_in, contents_ok, body_in, sites_in, nodes_in, aspects_in, actions_in, rows_in, net_of, header, image_of}
use Rattle.net.proofs.Fields.{is_byte, low_fits}
use Rattle.net.proofs.Codecs.{site_kind, node_kind, aspect_kind, action_kind, row_kind, site_wide, node_wide, aspect_wide, action_wide, row_wide, site_small, node_small, aspect_small, action_small, row_small}
use Rattle.net.proofs.Bodies.{most_length, Contents, contents, contents_ok_lem, width_some, least_length, most_length_lem, body_length, bodies, bytes_body, sites_count, nodes_count, aspects_count, actions_count, rows-count}
use Rattle.net.proofs.Header.{Says, length-header, header-says, header_again}

-- a net that an image can hold: every number fits its place, and there are so many records of each kind
pub record Fits (n : Net) : Type 0 where
  pub sites : T (all site_fits n.state.sites)
  pub nodes : T (all node_fits n.rules.nodes)
  pub aspects : T (all aspect_fits n.rules.aspects)
  pub actions : T (all action_fits n.state.actions)
  pub rows : T (all row_fits n.state.rows)
  pub some_site : 1 ≤ length n.state.sites
  pub few_sites : length n.state.sites ≤ most_sites
  pub few_nodes : length n.rules.nodes ≤ most_nodes
  pub few_aspects : length n.rules.aspects ≤ most_aspects
  pub few_actions : length n.state.actions ≤ most_actions
  pub few_rows : length n.state.rows ≤ most_rows

-- ---- the length of an image
-- the header, with so many rows
abbrev pub head : Net → ℕ → List ℕ
head n rows = header (length n.state.sites) (length n.rules.nodes) (length n.rules.aspects) (length n.state.actions) rows

-- what stands before the rows
abbrev pub front : Net → ℕ → List ℕ
front n rows =
    head n rows
    ++ (encode_all site_bytes n.state.sites
    ++ (encode_all node_bytes n.rules.nodes
    ++ (encode_all aspect_bytes n.rules.aspects
    ++ encode_all action_bytes n.state.actions)))

-- where the rows stand
abbrev pub rows_at : Net → ℕ
rows_at n = 44 + site_width * length n.state.sites + node_width * length n.rules.nodes + aspect_width * length n.rules.aspects + action_width * length n.state.actions

-- where they end
abbrev pub size_of : Net → ℕ
size_of n = rows_at n + row_width * length n.state.rows

-- so long is what stands before them
pub length_front : (n : Net) (rows : ℕ) → length (front n rows) ≡ rows_at n
length_front n rows =
    simp (
      length-append,
      length-header,
      length-encode_all site_bytes site_width site_wide,
      length-encode_all node_bytes node_width node_wide,
      length-encode_all aspect_bytes aspect_width aspect_wide,
      length-encode_all action_bytes action_width action_wide,
    ) (omega arith)

-- that and they are the image
pub image_parts : (n : Net) → image_of n ≡ front n (length n.state.rows) ++ encode_all row_bytes n.state.rows
unfolding image_of
image_parts n = simp append_assoc

-- so long is the image
pub length_image : (n : Net) → length (image_of n) ≡ size_of n
length_image n =
    rw (
      image_parts n,
      length-append (front n (length n.state.rows)) (encode_all row_bytes n.state.rows),
      length_front,
      length-encode_all row_bytes row_width row_wide n.state.rows,
    )

-- ---- the contents of an image
-- bytes whose header says how many records of each kind a net has
abbrev pub Headed : Net → List ℕ → Type 0
Headed n s = Says s (length n.state.sites) (length n.rules.nodes) (length n.rules.aspects) (length n.state.actions) (length n.state.rows)

module _ (n : Net) (f : Fits n) where
  -- a net's header says so
  pub headed : (r : List ℕ) → Headed n (head n (length n.state.rows) ++ r)
  headed r = header-says _ _ _ _ _ r f.few_sites f.few_nodes f.few_aspects f.few_actions f.few_rows

  -- so a net's image says so
  pub image_says : Headed n (image_of n)
  unfolding image_of
  image_says = headed _

  -- its contents are right, each of them
  pub image_contents : Contents (image_of n)
  unfolding width_of most_of
  image_contents =
      let h = image_says in
      record {
        five = h.five;
        sites = record { kind = h.kind1; least = omega arith; most = omega arith; start = omega arith };
        nodes = record { kind = h.kind2; least = omega arith; most = omega arith; start = omega arith };
        aspects = record { kind = h.kind3; least = omega arith; most = omega arith; start = omega arith };
        actions = record { kind = h.kind4; least = omega arith; most = omega arith; start = omega arith };
        rows = record { kind = h.kind5; least = omega arith; most = omega arith; start = omega arith };
        end = omega (arith, length_image n);
      }

  -- its contents are in order
  pub contents_of_image : contents_ok (image_of n) ≡ true
  contents_of_image = contents_ok_lem (image_of n) image_contents

  -- its edition is 1
  pub edition_of_image : u16_at (image_of n) 0 ≡ 1
  edition_of_image = image_says.edition

  -- it is no shorter than a header
  pub least_image : 44 ≤ length (image_of n)
  least_image = least_length (image_of n) contents_of_image

  -- and no longer than with the most records of every kind
  pub most_image : length (image_of n) ≤ most_length
  most_image = most_length_lem (image_of n) contents_of_image

-- ---- a body found where it was put: from its offset on stand the bytes of its records, then others
module _ {A : Type 0} (K : Codec A) (s : List ℕ) (k : ℕ) (xs : List A) (r : List ℕ) (w : width_of k ≡ K.w) (c : count_in s k ≡ length xs)
    (here : drop (offset_in s k) s ≡ encode_all K.enc xs ++ r) where
  -- the bytes of its records are as long as its entry says
  run_length : length (encode_all K.enc xs) ≡ length_in s k
  run_length = length-encode_all K.enc K.w K.wide xs ∙ cc

  -- so they are the body
  run_body : body_in s k ≡ encode_all K.enc xs
  unfolding body_in
  run_body = rw here (take_at (encode_all K.enc xs) r (length_in s k) run_length)

  -- and the others stand after it
  run_after : {o : ℕ} → o ≡ offset_in s k + length_in s k → drop o s ≡ r
  run_after e = rw (e, ← drop-drop, here) (drop_at (encode_all K.enc xs) r (length_in s k) run_length)

-- bytes that hold a net: the body of each kind is the bytes of its records
pub record Laid (n : Net) (s : List ℕ) : Type 0 where
  pub sites : body_in s 1 ≡ encode_all site_bytes n.state.sites
  pub nodes : body_in s 2 ≡ encode_all node_bytes n.rules.nodes
  pub aspects : body_in s 3 ≡ encode_all aspect_bytes n.rules.aspects
  pub actions : body_in s 4 ≡ encode_all action_bytes n.state.actions
  pub rows : body_in s 5 ≡ encode_all row_bytes n.state.rows

-- their net is that net
pub net_of_laid : (n : Net) → Fits n → (s : List ℕ) → Laid n s → net_of s ≡ n
net_of_laid n f s l =
    λ k. record {
      state = record {
        sites = (ap sites_in l.sites ∙ decode_encode site_kind (omega arith) n.state.sites no_site f.sites) k;
        actions = (ap actions_in l.actions ∙ decode_encode action_kind (omega arith) n.state.actions no_action f.actions) k;
        rows = (ap rows_in l.rows ∙ decode_encode row_kind (omega arith) n.state.rows no_row f.rows) k;
      };
      rules = record {
        nodes = (ap nodes_in l.nodes ∙ decode_encode node_kind (omega arith) n.rules.nodes no_node f.nodes) k;
        aspects = (ap aspects_in l.aspects ∙ decode_encode aspect_kind (omega arith) n.rules.aspects no_aspect f.aspects) k;
      };
    }

module _ (n : Net) (f : Fits n) where
  -- the bodies follow the header
  at_sites : drop (offset_in (image_of n) 1) (image_of n)
      ≡ encode_all site_bytes n.state.sites
      ++ (encode_all node_bytes n.rules.nodes
      ++ (encode_all aspect_bytes n.rules.aspects
      ++ (encode_all action_bytes n.state.actions
      ++ (encode_all row_bytes n.state.rows ++ []))))
  unfolding image_of header
  at_sites = rw ((image_says n f).at1, append-nil)

  -- each is found where the one before it ends
  pub image_laid : Laid n (image_of n)
  unfolding width_of
  image_laid =
      let s = image_of n in
      let h = image_says n f in
      let c = image_contents n f in
      let at2 = run_after site_kind s 1 _ _ refl h.count1 at_sites c.nodes.start in
      let at3 = run_after node_kind s 2 _ _ refl h.count2 at2 c.aspects.start in
      let at4 = run_after aspect_kind s 3 _ _ refl h.count3 at3 c.actions.start in
      let at5 = run_after action_kind s 4 _ _ refl h.count4 at4 c.rows.start in
      record {
        sites = run_body site_kind s 1 _ _ refl h.count1 at_sites;
        nodes = run_body node_kind s 2 _ _ refl h.count2 at2;
        aspects = run_body aspect_kind s 3 _ _ refl h.count3 at3;
        actions = run_body action_kind s 4 _ _ refl h.count4 at4;
        rows = run_body row_kind s 5 _ _ refl h.count5 at5;
      }

  -- what was written is read back
  pub net_of_image : net_of (image_of n) ≡ n
  net_of_image = net_of_laid n f (image_of n) image_laid

-- ---- the bytes of an image are bytes
-- those of records that fit
run_small : {A : Type 0} (K : Codec A) → ((x : A) → T (K.fits x) → all is_byte (K.enc x) ≡ true)
    → (xs : List A) → T (all K.fits xs) → all is_byte (encode_all K.enc xs) ≡ true
unfolding encode_all
run_small K small [] t = refl
run_small K small (x ∷ xs) t =
    let h = both_T (K.fits x) (all K.fits xs) t in
    rw (all_append, small x h.0) (run_small K small xs h.1)

-- those of a header
header_small : (a b c d e : ℕ) → all is_byte (header a b c d e) ≡ true
unfolding header
header_small a b c d e = simp low_fits

-- those of both
image_small : (n : Net) → Fits n → all is_byte (image_of n) ≡ true
unfolding image_of
image_small n f =
    simp (
      all_append,
      header_small,
      run_small site_kind site_small n.state.sites f.sites,
      run_small node_kind node_small n.rules.nodes f.nodes,
      run_small aspect_kind aspect_small n.rules.aspects f.aspects,
      run_small action_kind action_small n.state.actions f.actions,
      run_small row_kind row_small n.state.rows f.rows,
    )

-- so each byte of an image is one
pub bytes_of_image : (n : Net) → Fits n → Bytes (image_of n)
bytes_of_image n f k = ltb→lt (get_or (image_of n) k 0) 256 (all_get_d is_byte (image_of n) k 0 (is_T _ (image_small n f)) tt)

-- ---- what is read is written back
module _ {A : Type 0} (K : Codec A) where
  -- a test of a rule's values
  all_build : (p : A → Bool) (n : ℕ) (g : ℕ → A) → ((k : ℕ) → T (p (g k))) → T (all p (build n g))
  all_build p zero g h = tt
  all_build p (suc n) g h = T_both (p (g 0)) (all p (build n (λ k. g (suc k)))) (h 0) (all_build p n (λ k. g (suc k)) (λ k. h (suc k)))

  -- records read of bytes fit
  table_fits : (m : List ℕ) → Bytes m → T (all K.fits (table_of K.dec K.w m))
  unfolding table_of
  table_fits m h = all_build K.fits (length m / K.w) (λ k. K.dec m (K.w * k)) (λ k. K.sound m h (K.w * k))

module _ (b : List ℕ) (h : Bytes b) (ok : contents_ok b ≡ true) where
  -- the net of an image fits
  pub fits_of_image : Fits (net_of b)
  unfolding most_of
  fits_of_image =
      let c = contents b ok in
      record {
        sites = table_fits site_kind (body_in b 1) (bytes_body b h 1);
        nodes = table_fits node_kind (body_in b 2) (bytes_body b h 2);
        aspects = table_fits aspect_kind (body_in b 3) (bytes_body b h 3);
        actions = table_fits action_kind (body_in b 4) (bytes_body b h 4);
        rows = table_fits row_kind (body_in b 5) (bytes_body b h 5);
        some_site = rw (sites_count b ok) c.sites.least;
        few_sites = rw (sites_count b ok) c.sites.most;
        few_nodes = rw (nodes_count b ok) c.nodes.most;
        few_aspects = rw (aspects_count b ok) c.aspects.most;
        few_actions = rw (actions_count b ok) c.actions.most;
        few_rows = rw (rows-count b ok) c.rows.most;
      }

  -- each body is the bytes of the records read of it
  again : {A : Type 0} (K : Codec A) (k : ℕ) → 1 ≤ k → k < 6 → width_of k ≡ K.w
      → encode_all K.enc (table_of K.dec K.w (body_in b k)) ≡ body_in b k
  again K k p q w =
      encode_decode K (rw w at (width_some k p q)) (count_in b k) (body_in b k) (bytes_body b h k) (body_length b ok k p q ∙ ap (λ (v : ℕ). v * count_in b k) w)

  -- the image of that net is the image
  pub image_of_net : u16_at b 0 ≡ 1 → image_of (net_of b) ≡ b
  unfolding image_of width_of
  image_of_net first =
      rw (
        sites_count b ok,
        nodes_count b ok,
        aspects_count b ok,
        actions_count b ok,
        rows-count b ok,
        again site_kind 1 (omega arith) (omega arith) refl,
        again node_kind 2 (omega arith) (omega arith) refl,
        again aspect_kind 3 (omega arith) (omega arith) refl,
        again action_kind 4 (omega arith) (omega arith) refl,
        again row_kind 5 (omega arith) (omega arith) refl,
        header_again b h first ok,
        bodies b ok,
      ) (take-append-drop 44 b)
