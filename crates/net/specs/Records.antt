-- The records of the image, field by field as the image has them: the record that starts at byte i, and the bytes of a record.
-- Assumes nothing.
use Rattle.std.specs.Prelude.{ℕ, ◌+◌, Bool, ◌&&◌, List, [], ◌∷◌, ◌++◌, ltb, eqb, length, get_or}
use Rattle.words.specs.Lists.{all}
use Rattle.words.specs.Bytes.{u16_at, u16_bytes}
use Rattle.net.specs.declared.Operand.{Operand}
use Rattle.net.specs.declared.Site.{Site}
use Rattle.net.specs.declared.Node.{Node}
use Rattle.net.specs.declared.Aspect.{Aspect}
use Rattle.net.specs.declared.Action.{Action}
use Rattle.net.specs.declared.Row.{Row}

-- ---- the width of each record
abbrev pub site_width : ℕ
site_width = 32

abbrev pub node_width : ℕ
node_width = 24

abbrev pub aspect_width : ℕ
aspect_width = 32

abbrev pub action_width : ℕ
action_width = 24

abbrev pub row_width : ℕ
row_width = 10

-- ---- what stands where no record is
abbrev pub no_operand : Operand
no_operand = record { tag = 0; value = 0 }

abbrev pub no_operands : List Operand
no_operands = no_operand ∷ no_operand ∷ no_operand ∷ no_operand ∷ []

abbrev pub no_site : Site
no_site = record { name = 0; s = 0; c = 0; o = 0; hs = 0; ho = 0; position = 0; lost = 0; vars = 0 ∷ 0 ∷ 0 ∷ 0 ∷ 0 ∷ 0 ∷ 0 ∷ 0 ∷ [] }

abbrev pub no_node : Node
no_node = record { kind = 0; count = 0; a = 0; b = 0; zero = 0; fields = no_operands }

abbrev pub no_aspect : Aspect
no_aspect = record { owner = 0; capability = 0; count = 0; zero = 0; source = no_operand; target = no_operand; fields = no_operands; condition = 0; recommendation = 0 }

abbrev pub no_action : Action
no_action = record { owner = 0; zero = 0; capability = 0; count = 0; target = no_operand; fields = no_operands }

abbrev pub no_row : Row
no_row = record { owner = 0; count = 0; fields = 0 ∷ 0 ∷ 0 ∷ 0 ∷ [] }

-- ---- reading: the words, the operands and the records that start at byte i
unfoldable pub four_words : List ℕ → ℕ → List ℕ
four_words s i = u16_at s i ∷ u16_at s (i + 2) ∷ u16_at s (i + 4) ∷ u16_at s (i + 6) ∷ []

unfoldable pub eight_words : List ℕ → ℕ → List ℕ
eight_words s i =
    u16_at s i ∷ u16_at s (i + 2) ∷ u16_at s (i + 4) ∷ u16_at s (i + 6) ∷ u16_at s (i + 8) ∷ u16_at s (i + 10) ∷ u16_at s (i + 12) ∷ u16_at s (i + 14) ∷ []

-- "An operand is tag u16, value u16"
unfoldable pub read_operand : List ℕ → ℕ → Operand
read_operand s i = record { tag = u16_at s i; value = u16_at s (i + 2) }

unfoldable pub four_operands : List ℕ → ℕ → List Operand
four_operands s i = read_operand s i ∷ read_operand s (i + 4) ∷ read_operand s (i + 8) ∷ read_operand s (i + 12) ∷ []

-- "name, S, C, O, HS, HO, position, lost, 8 variables, u16 each"
unfoldable pub read_site : List ℕ → ℕ → Site
read_site s i = record {
  name = u16_at s i;
  s = u16_at s (i + 2);
  c = u16_at s (i + 4);
  o = u16_at s (i + 6);
  hs = u16_at s (i + 8);
  ho = u16_at s (i + 10);
  position = u16_at s (i + 12);
  lost = u16_at s (i + 14);
  vars = eight_words s (i + 16);
}

-- "kind u8, count u8, a, b, zero u16, 4 operands"
unfoldable pub read_node : List ℕ → ℕ → Node
read_node s i = record {
  kind = get_or s i 0;
  count = get_or s (i + 1) 0;
  a = u16_at s (i + 2);
  b = u16_at s (i + 4);
  zero = u16_at s (i + 6);
  fields = four_operands s (i + 8);
}

-- "owner u8, capability u8, count u8, zero u8, source, target, 4 operands, condition u16, recommendation u16"
unfoldable pub read_aspect : List ℕ → ℕ → Aspect
read_aspect s i = record {
  owner = get_or s i 0;
  capability = get_or s (i + 1) 0;
  count = get_or s (i + 2) 0;
  zero = get_or s (i + 3) 0;
  source = read_operand s (i + 4);
  target = read_operand s (i + 8);
  fields = four_operands s (i + 12);
  condition = u16_at s (i + 28);
  recommendation = u16_at s (i + 30);
}

-- "owner u8, zero u8, capability u8, count u8, target, 4 operands"
unfoldable pub read_action : List ℕ → ℕ → Action
read_action s i = record {
  owner = get_or s i 0;
  zero = get_or s (i + 1) 0;
  capability = get_or s (i + 2) 0;
  count = get_or s (i + 3) 0;
  target = read_operand s (i + 4);
  fields = four_operands s (i + 8);
}

-- "owner u8, count u8, 4 fields u16"
unfoldable pub read_row : List ℕ → ℕ → Row
read_row s i = record { owner = get_or s i 0; count = get_or s (i + 1) 0; fields = four_words s (i + 2) }

-- ---- writing: the bytes of a record
abbrev pub operand_bytes : Operand → List ℕ
operand_bytes x = u16_bytes x.tag ++ u16_bytes x.value

unfoldable pub word_bytes4 : List ℕ → List ℕ
word_bytes4 l = u16_bytes (get_or l 0 0) ++ u16_bytes (get_or l 1 0) ++ u16_bytes (get_or l 2 0) ++ u16_bytes (get_or l 3 0)

unfoldable pub operand_bytes4 : List Operand → List ℕ
operand_bytes4 l =
    operand_bytes (get_or l 0 no_operand) ++ operand_bytes (get_or l 1 no_operand) ++ operand_bytes (get_or l 2 no_operand) ++ operand_bytes (get_or l 3 no_operand)

unfoldable pub site_bytes : Site → List ℕ
site_bytes x =
    u16_bytes x.name ++ u16_bytes x.s ++ u16_bytes x.c ++ u16_bytes x.o
    ++ u16_bytes x.hs ++ u16_bytes x.ho ++ u16_bytes x.position ++ u16_bytes x.lost
    ++ u16_bytes (get_or x.vars 0 0) ++ u16_bytes (get_or x.vars 1 0) ++ u16_bytes (get_or x.vars 2 0) ++ u16_bytes (get_or x.vars 3 0)
    ++ u16_bytes (get_or x.vars 4 0) ++ u16_bytes (get_or x.vars 5 0) ++ u16_bytes (get_or x.vars 6 0) ++ u16_bytes (get_or x.vars 7 0)

unfoldable pub node_bytes : Node → List ℕ
node_bytes x = x.kind ∷ x.count ∷ u16_bytes x.a ++ u16_bytes x.b ++ u16_bytes x.zero ++ operand_bytes4 x.fields

unfoldable pub aspect_bytes : Aspect → List ℕ
aspect_bytes x =
    x.owner ∷ x.capability ∷ x.count ∷ x.zero ∷ operand_bytes x.source ++ operand_bytes x.target ++ operand_bytes4 x.fields
    ++ u16_bytes x.condition ++ u16_bytes x.recommendation

unfoldable pub action_bytes : Action → List ℕ
action_bytes x = x.owner ∷ x.zero ∷ x.capability ∷ x.count ∷ operand_bytes x.target ++ operand_bytes4 x.fields

unfoldable pub row_bytes : Row → List ℕ
row_bytes x = x.owner ∷ x.count ∷ word_bytes4 x.fields

-- ---- every number fits its place in the image
abbrev pub bytes_fit : ℕ → List ℕ → Bool
bytes_fit n l = eqb (length l) n && all (λ v. ltb v 256) l

abbrev pub words_fit : ℕ → List ℕ → Bool
words_fit n l = eqb (length l) n && all (λ v. ltb v 65536) l

abbrev pub operands_fit : ℕ → List Operand → Bool
operands_fit n l = eqb (length l) n && all (λ x. ltb x.tag 65536 && ltb x.value 65536) l

abbrev pub site_fits : Site → Bool
site_fits x =
    words_fit 8 (x.name ∷ x.s ∷ x.c ∷ x.o ∷ x.hs ∷ x.ho ∷ x.position ∷ x.lost ∷ []) && words_fit 8 x.vars

abbrev pub node_fits : Node → Bool
node_fits x = bytes_fit 2 (x.kind ∷ x.count ∷ []) && (words_fit 3 (x.a ∷ x.b ∷ x.zero ∷ []) && operands_fit 4 x.fields)

abbrev pub aspect_fits : Aspect → Bool
aspect_fits x =
    bytes_fit 4 (x.owner ∷ x.capability ∷ x.count ∷ x.zero ∷ [])
    && (operands_fit 2 (x.source ∷ x.target ∷ []) && (operands_fit 4 x.fields && words_fit 2 (x.condition ∷ x.recommendation ∷ [])))

abbrev pub action_fits : Action → Bool
action_fits x =
    bytes_fit 4 (x.owner ∷ x.zero ∷ x.capability ∷ x.count ∷ []) && (operands_fit 1 (x.target ∷ []) && operands_fit 4 x.fields)

abbrev pub row_fits : Row → Bool
row_fits x = bytes_fit 2 (x.owner ∷ x.count ∷ []) && words_fit 4 x.fields
