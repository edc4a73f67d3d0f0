-- The header of an image says the numbers that it was made of, since each fits its place; and it is made again of what it says. Assumes nothing.
use mathlib.Core.Bool.{true}
use mathlib.Core.List.{List, ◌++◌}
use mathlib.Core.Path.{◌≡◌, refl, sym, ◌∙◌}
use Prim.Native.Nat.{ℕ, ◌+◌, ◌*◌, ◌/◌, ◌%◌, ◌≤◌, ◌<◌}
use native.Mathlib.Omega.{arith}
use lib.ListN.{length, get_or, take}
use Rattle.words.specs.Bytes.{Bytes, u16_at, u32_at, u16_bytes}
use Rattle.words.proofs.Numbers.{word_of, word_back, low_word, high_word, elems-take}
use Rattle.net.specs.Records.{site_width, node_width, aspect_width, action_width}
use Rattle.net.specs.Net.{most_sites, most_nodes, most_aspects, most_actions, most_rows}
use Rattle.net.specs.Image.{width_of, kind_in, count_in, offset_in, entry_bytes, header, contents_ok}
use Rattle.net.proofs.Bodies.{contents, chain, least_length}

-- ---- a u32 written is read back
abbrev pub long_of : ℕ → ℕ
long_of a = word_of a + 65536 * word_of (a / 65536)

pub long_back : (a : ℕ) → a < 4294967296 → long_of a ≡ a
long_back a h = omega arith

-- ---- one read is written back, byte by byte
module _ (m : List ℕ) (h : Bytes m) (i : ℕ) where
  pub long_byte0 : u32_at m i % 256 ≡ get_or m i 0
  unfolding u32_at u16_at
  long_byte0 = omega (arith, h i)

  pub long_byte1 : u32_at m i / 256 % 256 ≡ get_or m (i + 1) 0
  unfolding u32_at u16_at
  long_byte1 = omega (arith, h i, h (i + 1))

  pub long_byte2 : u32_at m i / 65536 % 256 ≡ get_or m (i + 2) 0
  unfolding u32_at u16_at
  long_byte2 = omega (arith, h i, h (i + 1), h (i + 2))

  pub long_byte3 : u32_at m i / 65536 / 256 % 256 ≡ get_or m (i + 2 + 1) 0
  unfolding u32_at u16_at
  long_byte3 = omega (arith, h i, h (i + 1), h (i + 2), h (i + 2 + 1))

-- ---- what bytes say that begin with a header: the edition, the entry count; each kind, its count, its offset
pub record Says (m : List ℕ) (sites nodes aspects actions rows : ℕ) : Type 0 where
  pub edition : u16_at m 0 ≡ 1
  pub five : u16_at m 2 ≡ 5
  pub kind1 : kind_in m 1 ≡ 1
  pub kind2 : kind_in m 2 ≡ 2
  pub kind3 : kind_in m 3 ≡ 3
  pub kind4 : kind_in m 4 ≡ 4
  pub kind5 : kind_in m 5 ≡ 5
  pub count1 : count_in m 1 ≡ sites
  pub count2 : count_in m 2 ≡ nodes
  pub count3 : count_in m 3 ≡ aspects
  pub count4 : count_in m 4 ≡ actions
  pub count5 : count_in m 5 ≡ rows
  pub at1 : offset_in m 1 ≡ 44
  pub at2 : offset_in m 2 ≡ 44 + site_width * sites
  pub at3 : offset_in m 3 ≡ 44 + site_width * sites + node_width * nodes
  pub at4 : offset_in m 4 ≡ 44 + site_width * sites + node_width * nodes + aspect_width * aspects
  pub at5 : offset_in m 5 ≡ 44 + site_width * sites + node_width * nodes + aspect_width * aspects + action_width * actions

module _ (a b c d e : ℕ) where
  -- a header is 44 bytes
  pub length-header : length (header a b c d e) ≡ 44
  unfolding header
  length-header = refl

  -- each number fits, so it is read back
  pub header-says : (r : List ℕ) → a ≤ most_sites → b ≤ most_nodes → c ≤ most_aspects → d ≤ most_actions → e ≤ most_rows
      → Says (header a b c d e ++ r) a b c d e
  unfolding header u32_at u16_at
  header-says r ha hb hc hd he =
      record {
        edition = refl;
        five = refl;
        kind1 = refl;
        kind2 = refl;
        kind3 = refl;
        kind4 = refl;
        kind5 = refl;
        count1 = word_back a (omega arith);
        count2 = word_back b (omega arith);
        count3 = word_back c (omega arith);
        count4 = word_back d (omega arith);
        count5 = word_back e (omega arith);
        at1 = refl;
        at2 = long_back _ (omega arith);
        at3 = long_back _ (omega arith);
        at4 = long_back _ (omega arith);
        at5 = long_back _ (omega arith);
      }

-- the header of bytes whose contents are in order is their first 44
pub header_again : (m : List ℕ) → Bytes m → u16_at m 0 ≡ 1 → contents_ok m ≡ true
    → header (count_in m 1) (count_in m 2) (count_in m 3) (count_in m 4) (count_in m 5) ≡ take 44 m
unfolding header width_of
header_again m h first ok =
    let c = contents m ok in
    let f = chain m ok in
    let at2 : 44 + site_width * count_in m 1 ≡ offset_in m 2 = omega arith in
    let at3 : 44 + site_width * count_in m 1 + node_width * count_in m 2 ≡ offset_in m 3 = omega arith in
    let at4 : 44 + site_width * count_in m 1 + node_width * count_in m 2 + aspect_width * count_in m 3 ≡ offset_in m 4 = omega arith in
    let at5 : 44 + site_width * count_in m 1 + node_width * count_in m 2 + aspect_width * count_in m 3 + action_width * count_in m 4 ≡ offset_in m 5 = omega arith in
    (λ k. u16_bytes (sym first k)
    ++ (u16_bytes (sym c.five k)
    ++ (entry_bytes (sym c.sites.kind k) (count_in m 1) (sym f.at1 k)
    ++ (entry_bytes (sym c.nodes.kind k) (count_in m 2) (at2 k)
    ++ (entry_bytes (sym c.aspects.kind k) (count_in m 3) (at3 k)
    ++ (entry_bytes (sym c.actions.kind k) (count_in m 4) (at4 k)
    ++ entry_bytes (sym c.rows.kind k) (count_in m 5) (at5 k)))))))
    ∙ simp (low_word m h, high_word m h, long_byte0 m h, long_byte1 m h, long_byte2 m h, long_byte3 m h) (elems-take 0 44 m (least_length m ok))
