-- What check answers of an image: in the paper's order, the first refusal that applies; and the body that is handed out. Assumes nothing.
use Rattle.std.specs.Prelude.{ℕ, ◌+◌, ◌*◌, Bool, cond, ◌&&◌, List, [], ltb, leb, eqb, length, Result, Ok, Err}
use Rattle.words.specs.Lists.{first_bad}
use Rattle.words.specs.Bytes.{u16_at}
use Rattle.net.specs.Records.{site_width, node_width, aspect_width, action_width, row_width}
use Rattle.net.specs.Net.{State, Rules, most_sites, most_nodes, most_aspects, most_actions, most_rows, names}
use Rattle.net.specs.Image.{contents_ok, body_in, offset_in, state_in, rules_in}
use Rattle.rulebook.specs.Rulebook.{node_ok, aspect_ok}
use Rattle.format.specs.Format.{site_ok, action_ok, row_ok, state_ok}
use Rattle.format.specs.declared.Refusal.{Refusal}
use Rattle.format.specs.declared.Refusal.TheVariants.{Size, Edition, Contents, BadSite, BadNode, BadAspect, BadAction, BadRow, BadState, Small}

-- ---- the paper's number of each answer, and the record that it carries: "13 to 17 carry the number of the first bad record of that kind; 18 the
-- first site .. Others carry 0"
abbrev pub number_of : Result Unit Refusal → ℕ
number_of (Ok x) = 0
number_of (Err Size) = 10
number_of (Err Edition) = 11
number_of (Err Contents) = 12
number_of (Err (BadSite k)) = 13
number_of (Err (BadNode k)) = 14
number_of (Err (BadAspect k)) = 15
number_of (Err (BadAction k)) = 16
number_of (Err (BadRow k)) = 17
number_of (Err (BadState k)) = 18
number_of (Err Small) = 19

abbrev pub record_of : Result Unit Refusal → ℕ
record_of (Ok x) = 0
record_of (Err Size) = 0
record_of (Err Edition) = 0
record_of (Err Contents) = 0
record_of (Err (BadSite k)) = k
record_of (Err (BadNode k)) = k
record_of (Err (BadAspect k)) = k
record_of (Err (BadAction k)) = k
record_of (Err (BadRow k)) = k
record_of (Err (BadState k)) = k
record_of (Err Small) = 0

abbrev pub is_accepted : Result Unit Refusal → Bool
is_accepted v = eqb (number_of v) 0

-- ---- the first bad record of each kind
abbrev pub bad_site : State → ℕ
bad_site s = first_bad (site_ok s.sites) (length s.sites)

abbrev pub bad_node : State → Rules → ℕ
bad_node s r = first_bad (node_ok (names s.sites) r.nodes) (length r.nodes)

abbrev pub bad_aspect : State → Rules → ℕ
bad_aspect s r = first_bad (aspect_ok (length s.sites) r.nodes r.aspects) (length r.aspects)

abbrev pub bad_action : State → ℕ
bad_action s = first_bad (action_ok (length s.sites) s.actions) (length s.actions)

abbrev pub bad_row : State → ℕ
bad_row s = first_bad (row_ok (length s.sites) s.rows) (length s.rows)

abbrev pub bad_state : State → ℕ
bad_state s = first_bad (state_ok s.actions s.sites) (length s.sites)

-- 13 to 18, in this order: the part of check's answer that turns on records
unfoldable pub records_verdict : State → Rules → Result Unit Refusal
records_verdict s r =
    cond (ltb (bad_site s) (length s.sites)) (Err (BadSite (bad_site s)))
    (cond (ltb (bad_node s r) (length r.nodes)) (Err (BadNode (bad_node s r)))
    (cond (ltb (bad_aspect s r) (length r.aspects)) (Err (BadAspect (bad_aspect s r)))
    (cond (ltb (bad_action s) (length s.actions)) (Err (BadAction (bad_action s)))
    (cond (ltb (bad_row s) (length s.rows)) (Err (BadRow (bad_row s)))
    (cond (ltb (bad_state s) (length s.sites)) (Err (BadState (bad_state s)))
    (Ok tt))))))

-- ---- "10 SIZE (under 44 or over 51,244)": a header, and the most records of every kind
abbrev pub least_size : ℕ
least_size = 44

abbrev pub most_size : ℕ
most_size = 44 + (site_width * most_sites + (node_width * most_nodes + (aspect_width * most_aspects + (action_width * most_actions + row_width * most_rows))))

unfoldable pub size_ok : List ℕ → Bool
size_ok s = leb least_size (length s) && leb (length s) most_size

-- ---- what check answers
unfoldable pub verdict_of : List ℕ → Result Unit Refusal
verdict_of s =
    cond (size_ok s)
    (cond (eqb (u16_at s 0) 1) (cond (contents_ok s) (records_verdict (state_in s) (rules_in s)) (Err Contents)) (Err Edition))
    (Err Size)

-- ---- "body: that part of the image; the empty part if check refuses the image or the kind is not 1..5"
unfoldable pub handed_out : List ℕ → ℕ → Bool
handed_out s kind = is_accepted (verdict_of s) && (leb 1 kind && leb kind 5)

unfoldable pub body_of : List ℕ → ℕ → List ℕ
body_of s kind = cond (handed_out s kind) (body_in s kind) []

-- where it lies: p is the place of the image, a block and an offset in it. "Each body is handed out as that part of the image itself, not a copy."
unfoldable pub body_place : ℕ × ℕ → List ℕ → ℕ → ℕ × ℕ
body_place p s kind = cond (handed_out s kind) (p.0, offset_in s kind + p.1) p
