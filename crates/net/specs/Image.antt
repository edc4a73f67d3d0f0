-- The image of a net, as a reader and as a writer; and net memory. "Little-endian. Edition u16 = 1, entry count u16 = 5, then the
-- contents: five entries of kind u16, record count u16, offset u32, kinds 1 to 5 in order. Bodies follow from byte 44 in that order
-- with no gap; the file ends with the last." Assumes nothing.
use Rattle.std.specs.Prelude.{ℕ, ◌+◌, ◌*◌, ◌-◌, Bool, cond, ◌&&◌, List, [], ◌∷◌, ◌++◌, leb, eqb, length, get_or, take, drop}
use Rattle.words.specs.Bytes.{u16_at, u32_at, u16_bytes, u32_bytes, padded}
use Rattle.words.specs.Tables.{table_of, encode_all}
use Rattle.net.specs.Records.{site_width, node_width, aspect_width, action_width, row_width, read_site, read_node, read_aspect, read_action, read_row, site_bytes, node_bytes, aspect_bytes, action_bytes, row_bytes}
use Rattle.net.specs.Net.{State, Rules, Net, most_sites, most_nodes, most_aspects, most_actions, most_rows}
use Rattle.net.specs.declared.Site.{Site}
use Rattle.net.specs.declared.Node.{Node}
use Rattle.net.specs.declared.Aspect.{Aspect}
use Rattle.net.specs.declared.Action.{Action}
use Rattle.net.specs.declared.Row.{Row}

-- ---- the kinds 1 to 5: sites, nodes, aspects, actions, rows
unfoldable pub width_of : ℕ → ℕ
width_of k = get_or (0 ∷ site_width ∷ node_width ∷ aspect_width ∷ action_width ∷ row_width ∷ []) k 0

unfoldable pub most_of : ℕ → ℕ
most_of k = get_or (0 ∷ most_sites ∷ most_nodes ∷ most_aspects ∷ most_actions ∷ most_rows ∷ []) k 0

abbrev pub least_of : ℕ → ℕ
least_of k = cond (eqb k 1) 1 0

-- ---- the contents: the entry of kind k stands at byte 8 * k - 4
abbrev pub kind_in : List ℕ → ℕ → ℕ
kind_in s k = u16_at s (8 * k - 4)

abbrev pub count_in : List ℕ → ℕ → ℕ
count_in s k = u16_at s (8 * k - 2)

abbrev pub offset_in : List ℕ → ℕ → ℕ
offset_in s k = u32_at s (8 * k)

abbrev pub length_in : List ℕ → ℕ → ℕ
length_in s k = width_of k * count_in s k

-- where body k has to start: the first at byte 44, each other where the one before it ends; the file ends where a sixth would start
abbrev pub start_in : List ℕ → ℕ → ℕ
start_in s k = cond (eqb k 1) 44 (offset_in s (k - 1) + length_in s (k - 1))

abbrev pub end_in : List ℕ → ℕ
end_in s = start_in s 6

unfoldable pub entry_ok : List ℕ → ℕ → Bool
entry_ok s k =
    eqb (kind_in s k) k && (leb (least_of k) (count_in s k) && (leb (count_in s k) (most_of k) && eqb (offset_in s k) (start_in s k)))

unfoldable pub contents_ok : List ℕ → Bool
contents_ok s =
    eqb (u16_at s 2) 5 && (entry_ok s 1 && (entry_ok s 2 && (entry_ok s 3 && (entry_ok s 4 && (entry_ok s 5 && eqb (end_in s) (length s))))))

-- ---- reading: the body of a kind, "that part of the image", its records, and the net
unfoldable pub body_in : List ℕ → ℕ → List ℕ
body_in s k = take (length_in s k) (drop (offset_in s k) s)

abbrev pub sites_in : List ℕ → List Site
sites_in = table_of read_site site_width

abbrev pub nodes_in : List ℕ → List Node
nodes_in = table_of read_node node_width

abbrev pub aspects_in : List ℕ → List Aspect
aspects_in = table_of read_aspect aspect_width

abbrev pub actions_in : List ℕ → List Action
actions_in = table_of read_action action_width

abbrev pub rows_in : List ℕ → List Row
rows_in = table_of read_row row_width

abbrev pub state_in : List ℕ → State
state_in s = record { sites = sites_in (body_in s 1); actions = actions_in (body_in s 4); rows = rows_in (body_in s 5) }

abbrev pub rules_in : List ℕ → Rules
rules_in s = record { nodes = nodes_in (body_in s 2); aspects = aspects_in (body_in s 3) }

abbrev pub net_of : List ℕ → Net
net_of s = record { state = state_in s; rules = rules_in s }

-- ---- writing
abbrev pub entry_bytes : ℕ → ℕ → ℕ → List ℕ
entry_bytes kind count offset = u16_bytes kind ++ (u16_bytes count ++ u32_bytes offset)

-- the first 44 bytes, with so many records of each kind
unfoldable pub header : ℕ → ℕ → ℕ → ℕ → ℕ → List ℕ
header sites nodes aspects actions rows =
    let at2 = 44 + site_width * sites in
    let at3 = at2 + node_width * nodes in
    let at4 = at3 + aspect_width * aspects in
    let at5 = at4 + action_width * actions in
    u16_bytes 1
    ++ (u16_bytes 5
    ++ (entry_bytes 1 sites 44
    ++ (entry_bytes 2 nodes at2
    ++ (entry_bytes 3 aspects at3
    ++ (entry_bytes 4 actions at4
    ++ entry_bytes 5 rows at5)))))

unfoldable pub image_of : Net → List ℕ
image_of n =
    header (length n.state.sites) (length n.rules.nodes) (length n.rules.aspects) (length n.state.actions) (length n.state.rows)
    ++ (encode_all site_bytes n.state.sites
    ++ (encode_all node_bytes n.rules.nodes
    ++ (encode_all aspect_bytes n.rules.aspects
    ++ (encode_all action_bytes n.state.actions
    ++ encode_all row_bytes n.state.rows))))

-- ---- net memory: "Net memory is 65,536 bytes, its inside chosen by the team, every byte fixed by the image": the image, then zeros
abbrev pub memory_size : ℕ
memory_size = 65536

abbrev pub memory_of : Net → List ℕ
memory_of n = padded memory_size (image_of n)
