-- An image is accepted exactly if it is the image of a well-formed net, and that net is the net of the image and no other: each part of the
-- verdict is a rule of the net, and what fits its place in an image is read back. Assumes nothing.
use Rattle.std.specs.Prelude.{Result, Ok, Err}
use mathlib.Core.Path.{◌≡◌, refl, sym, ap, subst, ◌∙◌}
use mathlib.Core.Bool.{Bool, true, false, cond}
use mathlib.Core.List.{List}
use Prim.Native.Nat.{ℕ}
use native.Mathlib.Omega.{arith}
use lib.Dec.{T, ltb, eqb, leb→le, le→leb, eqb→eq}
use lib.ListN.{length}
use borrow.Author.Tests.{ltb-false, le-ltb, eq-eqb, eqb-true, le-leb}
use Rattle.words.specs.Lists.{first_bad, every}
use Rattle.words.specs.Bytes.{Bytes, u16_at}
use Rattle.words.proofs.Truth.{no, part, joined, ◌also◌, is_T}
use Rattle.words.proofs.First.{first_le}
use Rattle.net.specs.Net.{State, Rules, Net, most_sites, most_nodes, most_aspects, most_actions, most_rows, names}
use Rattle.net.specs.Image.{contents_ok, state_in, rules_in, net_of, image_of}
use Rattle.net.proofs.Images.{Fits, contents_of_image, edition_of_image, least_image, most_image, net_of_image, fits_of_image, image_of_net}
use Rattle.rulebook.specs.Rulebook.{node_ok, aspect_ok}
use Rattle.format.specs.Format.{site_ok, action_ok, row_ok, state_ok, count_rules, shape_rules, net_rules, well_formed}
use Rattle.format.specs.Verdict.{is_accepted, bad_site, bad_node, bad_aspect, bad_action, bad_row, bad_state, records_verdict, least_size, most_size, size_ok, verdict_of}
use Rattle.format.specs.declared.Refusal.{Refusal}
use Rattle.format.specs.declared.Refusal.TheVariants.{Size, Edition, Contents, BadSite, BadNode, BadAspect, BadAction, BadRow, BadState, Small}

-- ---- no record is bad
pub none_bad : (ok : ℕ → Bool) (n : ℕ) → T (every ok n) → ltb (first_bad ok n) n ≡ false
none_bad ok n t = le-ltb (first_bad ok n) n (omega (arith, eqb→eq (first_bad ok n) n t))

pub bad_none : (ok : ℕ → Bool) (n : ℕ) → ltb (first_bad ok n) n ≡ false → T (every ok n)
bad_none ok n e = is_T (every ok n) (eq-eqb (first_bad ok n) n (omega (arith, ltb-false (first_bad ok n) n e, first_le ok n)))

-- a test that refuses, passed
passed : (b : Bool) (v : Refusal) (w : Result Unit Refusal) → cond b (Err v) w ≡ Ok tt → (b ≡ false) × (w ≡ Ok tt)
passed true v w e = no (cc)
passed false v w e = (refl, e)

module _ (s : State) (r : Rules) where
  -- every record is good
  pub record Good : Type 0 where
    pub sites : T (every (site_ok s.sites) (length s.sites))
    pub nodes : T (every (node_ok (names s.sites) r.nodes) (length r.nodes))
    pub aspects : T (every (aspect_ok (length s.sites) r.nodes r.aspects) (length r.aspects))
    pub actions : T (every (action_ok (length s.sites) s.actions) (length s.actions))
    pub rows : T (every (row_ok (length s.sites) s.rows) (length s.rows))
    pub states : T (every (state_ok s.actions s.sites) (length s.sites))

  pub good_accepted : Good → records_verdict s r ≡ Ok tt
  unfolding records_verdict
  good_accepted g =
      rw (
        none_bad (site_ok s.sites) (length s.sites) g.sites,
        none_bad (node_ok (names s.sites) r.nodes) (length r.nodes) g.nodes,
        none_bad (aspect_ok (length s.sites) r.nodes r.aspects) (length r.aspects) g.aspects,
        none_bad (action_ok (length s.sites) s.actions) (length s.actions) g.actions,
        none_bad (row_ok (length s.sites) s.rows) (length s.rows) g.rows,
        none_bad (state_ok s.actions s.sites) (length s.sites) g.states,
      )

  pub accepted_good : records_verdict s r ≡ Ok tt → Good
  unfolding records_verdict
  accepted_good e =
      let p₁ = passed (ltb (bad_site s) (length s.sites)) (BadSite (bad_site s)) _ e in
      let p₂ = passed (ltb (bad_node s r) (length r.nodes)) (BadNode (bad_node s r)) _ p₁.1 in
      let p₃ = passed (ltb (bad_aspect s r) (length r.aspects)) (BadAspect (bad_aspect s r)) _ p₂.1 in
      let p₄ = passed (ltb (bad_action s) (length s.actions)) (BadAction (bad_action s)) _ p₃.1 in
      let p₅ = passed (ltb (bad_row s) (length s.rows)) (BadRow (bad_row s)) _ p₄.1 in
      let p₆ = passed (ltb (bad_state s) (length s.sites)) (BadState (bad_state s)) _ p₅.1 in
      record {
        sites = bad_none (site_ok s.sites) (length s.sites) p₁.0;
        nodes = bad_none (node_ok (names s.sites) r.nodes) (length r.nodes) p₂.0;
        aspects = bad_none (aspect_ok (length s.sites) r.nodes r.aspects) (length r.aspects) p₃.0;
        actions = bad_none (action_ok (length s.sites) s.actions) (length s.actions) p₄.0;
        rows = bad_none (row_ok (length s.sites) s.rows) (length s.rows) p₅.0;
        states = bad_none (state_ok s.actions s.sites) (length s.sites) p₆.0;
      }

-- ---- a net is well formed exactly if it fits an image and every record is good
module _ (n : Net) where
  abbrev s : State
  s = n.state

  abbrev r : Rules
  r = n.rules

  pub formed_good : T (well_formed n) → Good s r
  unfolding well_formed
  formed_good t =
      let f = part (net_rules s r) t in
      record { sites = f 1; nodes = f 2; aspects = f 3; actions = f 4; rows = f 5; states = f 6 }

  pub formed_fits : T (well_formed n) → Fits n
  unfolding well_formed
  formed_fits t =
      let f = part (shape_rules s r) (part (net_rules s r) t 0) in
      let c = part (count_rules s r) (f 0) in
      record {
        sites = f 1;
        nodes = f 2;
        aspects = f 3;
        actions = f 4;
        rows = f 5;
        some_site = leb→le 1 (length s.sites) (c 0);
        few_sites = leb→le (length s.sites) most_sites (c 1);
        few_nodes = leb→le (length r.nodes) most_nodes (c 2);
        few_aspects = leb→le (length r.aspects) most_aspects (c 3);
        few_actions = leb→le (length s.actions) most_actions (c 4);
        few_rows = leb→le (length s.rows) most_rows (c 5);
      }

  pub good_formed : Fits n → Good s r → T (well_formed n)
  unfolding well_formed
  good_formed f g =
      joined (net_rules s r) (
      joined (shape_rules s r) (
      joined (count_rules s r) (
      le→leb 1 (length s.sites) f.some_site
      also le→leb (length s.sites) most_sites f.few_sites
      also le→leb (length r.nodes) most_nodes f.few_nodes
      also le→leb (length r.aspects) most_aspects f.few_aspects
      also le→leb (length s.actions) most_actions f.few_actions
      also le→leb (length s.rows) most_rows f.few_rows)
      also f.sites
      also f.nodes
      also f.aspects
      also f.actions
      also f.rows)
      also g.sites
      also g.nodes
      also g.aspects
      also g.actions
      also g.rows
      also g.states)

-- ---- the number 0 is that of acceptance alone
pub accepts : (v : Result Unit Refusal) → is_accepted v ≡ true → v ≡ Ok tt
accepts (Ok x) e = refl
accepts (Err Size) e = no (cc)
accepts (Err Edition) e = no (cc)
accepts (Err Contents) e = no (cc)
accepts (Err (BadSite k)) e = no (cc)
accepts (Err (BadNode k)) e = no (cc)
accepts (Err (BadAspect k)) e = no (cc)
accepts (Err (BadAction k)) e = no (cc)
accepts (Err (BadRow k)) e = no (cc)
accepts (Err (BadState k)) e = no (cc)
accepts (Err Small) e = no (cc)

-- ---- an image is accepted exactly if its size, its edition and its contents are right and every record is good
module _ (b : List ℕ) where
  pub record Right : Type 0 where
    pub size : size_ok b ≡ true
    pub edition : u16_at b 0 ≡ 1
    pub contents : contents_ok b ≡ true
    pub records : Good (state_in b) (rules_in b)

  chosen : (t : Bool) (v : Result Unit Refusal) (w : Refusal) → cond t v (Err w) ≡ Ok tt → (t ≡ true) × (v ≡ Ok tt)
  chosen true v w e = (refl, e)
  chosen false v w e = no (cc)

  pub accepted_right : verdict_of b ≡ Ok tt → Right
  unfolding verdict_of
  accepted_right e =
      let p₁ = chosen (size_ok b) _ Size e in
      let p₂ = chosen (eqb (u16_at b 0) 1) _ Edition p₁.1 in
      let p₃ = chosen (contents_ok b) _ Contents p₂.1 in
      record { size = p₁.0; edition = eqb-true (u16_at b 0) 1 p₂.0; contents = p₃.0; records = accepted_good (state_in b) (rules_in b) p₃.1 }

  pub right_accepted : Right → verdict_of b ≡ Ok tt
  unfolding verdict_of
  right_accepted g = rw (g.size, eq-eqb (u16_at b 0) 1 g.edition, g.contents) (good_accepted (state_in b) (rules_in b) g.records)

  -- an accepted image is the image of its net, which is well formed
  pub accepted_image : Bytes b → verdict_of b ≡ Ok tt → T (well_formed (net_of b)) × (image_of (net_of b) ≡ b)
  accepted_image h e =
      let g = accepted_right e in
      (good_formed (net_of b) (fits_of_image b h g.contents) g.records, image_of_net b h g.contents g.edition)

-- ---- the image of a well-formed net is accepted, and its net is that net and no other
module _ (n : Net) (t : T (well_formed n)) where
  size_of_image : size_ok (image_of n) ≡ true
  unfolding size_ok
  size_of_image =
      let f = formed_fits n t in
      rw (le-leb least_size (length (image_of n)) (least_image n f), le-leb (length (image_of n)) most_size (most_image n f))

  pub net_of_formed : net_of (image_of n) ≡ n
  net_of_formed = net_of_image n (formed_fits n t)

  pub image_accepted : verdict_of (image_of n) ≡ Ok tt
  image_accepted =
      let f = formed_fits n t in
      right_accepted (image_of n) (record {
        size = size_of_image;
        edition = edition_of_image n f;
        contents = contents_of_image n f;
        records = subst (λ (m : Net). Good m.state m.rules) (sym net_of_formed) (formed_good n t);
      })

pub same_net : (m n : Net) → T (well_formed m) → T (well_formed n) → image_of m ≡ image_of n → m ≡ n
same_net m n t u e = sym (net_of_formed m t) ∙ ap net_of e ∙ net_of_formed n u
