-- `place_of` finds a site by halving. Where a name is the wanted one, the names before it are smaller and so are others; where one name is
-- left, each other is smaller or larger than the wanted one.
use Rattle.std.proofs.Common.{◌≡◌, sym, ap, ◌∙◌, Bool, true, not, List, ℕ, ◌+◌, ◌*◌, ◌/◌, ◌-◌, ◌≤◌, ◌<◌, le_refl, lt_irrefl, eq-or-lt_of_le, ⊎_elim, arith, eq-eqb, ne_eqb, length, get_or, None, Some}
use lib.Dec.{eqb}
use lib.ListN.{length-map, get_or-map}
use Rattle.words.specs.Bytes.{u16_at}
use Rattle.words.proofs.First.{first_is, found_here, found_none}
use Rattle.words.proofs.Tables.{table_length, table_at}
use Rattle.net.specs.Records.{site_width, no_site, read_site}
use Rattle.net.specs.Net.{names, place_of, Rising}
use Rattle.net.specs.Image.{sites_in}
use Rattle.net.proofs.place_of.Goals as goal
use Rattle.net.proofs.place_of.Goals.{then-name-wanted+else-name-wanted-2, else-name-wanted}

-- the name of site k stands at the front of its record
name-at : (s : List ℕ) (k : ℕ) → k < length s / 32 → get_or (names (sites_in s)) k 0 ≡ u16_at s (32 * k)
unfolding read_site
name-at s k h = get_or-map (λ x. x.name) (sites_in s) k no_site ∙ ap (λ x. x.name) (table_at read_site site_width s k no_site h)

names-length : (s : List ℕ) → length (names (sites_in s)) ≡ length s / 32
names-length s = length-map (sites_in s) (λ x. x.name) ∙ table_length read_site site_width s

-- site k has another name
abbrev other : List ℕ → ℕ → ℕ → Bool
other s wanted k = not (eqb (get_or (names (sites_in s)) k 0) wanted)

module _ (s : List ℕ) (wanted : ℕ) (rising : Rising (names (sites_in s))) where
  -- names rise in the bytes too
  rises : (i j : ℕ) → i < j → j < length s / 32 → u16_at s (32 * i) < u16_at s (32 * j)
  rises i j h b = rw (← name-at s i (omega arith), ← name-at s j b) (rising i j h (rw (names-length s) b))

  -- a site with a smaller or a larger name has another
  differs : (k : ℕ) → k < length s / 32 → (u16_at s (32 * k) ≡ wanted → ⊥) → other s wanted k ≡ true
  differs k h d = rw (name-at s k h) (ap not (ne_eqb _ _ d))

  here : (k : ℕ) → k < length s / 32 → u16_at s (32 * k) ≡ wanted → place_of (names (sites_in s)) wanted ≡ Some k
  unfolding place_of
  here k h e =
      found_here (λ j. eqb (get_or (names (sites_in s)) j 0) wanted) k (length (names (sites_in s)))
      (first_is (other s wanted) k k (le_refl k) (λ j b. differs j (omega arith) (λ q. omega (arith, rises j k b h))) (λ b. absurd (lt_irrefl k b)))
      (rw (name-at s k h) (eq-eqb _ _ e))
      (rw (names-length s) h)

  nowhere : ((k : ℕ) → k < length s / 32 → u16_at s (32 * k) ≡ wanted → ⊥) → place_of (names (sites_in s)) wanted ≡ None
  unfolding place_of
  nowhere d =
      let n = length (names (sites_in s)) in
      found_none (λ j. eqb (get_or (names (sites_in s)) j 0) wanted) n
      (first_is (other s wanted) n n (le_refl n) (λ j b. let c : j < length s / 32 = rw (names-length s) at b in differs j c (d j c)) (λ b. absurd (lt_irrefl n b)))

-- the upper half begins at the middle
upper : (base size k : ℕ) → base + (size - size / 2) ≤ k → base + size / 2 ≤ k
upper base size k h = omega arith

-- where at most one place is left, a number is below it, beyond it, or that place
apart : (k base size : ℕ) → size ≤ 1 → (k < base → ⊥) → (base + size ≤ k → ⊥) → (k ≡ base → ⊥) → ⊥
apart k base size most f g d = d (omega (arith, f, g))

pub returns-then-size-eq0 : goal.returns-then-size-eq0
returns-then-size-eq0 c = sym (nowhere c.args.sites.now c.args.wanted c.requires (λ k h e. absurd (lt_irrefl k (omega (arith, c.count-size.ensures, c.if-size-eq0.true)))))

pub returns-then-name-wanted-2 : goal.returns-then-name-wanted-2
returns-then-name-wanted-2 c =
    let l = c.loop-size in
    sym (here c.args.sites.now c.args.wanted c.requires (l.base + l.size / 2) (omega arith) (sym c.word-name.ensures ∙ c.if-name-wanted-2.true))

pub loop-size-preserved : goal.loop-size-preserved
loop-size-preserved c =
    let l = c.loop-size in
    let m = l.base + l.size / 2 in
    let up = rises c.args.sites.now c.args.wanted c.requires in
    elim c.if-name-wanted.branch [
      | then-name-wanted+else-name-wanted-2 w ↦
          let b : c.if-name-wanted.base ≡ m = w.base-is in
          let e : u16_at c.args.sites.now (32 * m) < c.args.wanted = rw (← c.word-name.ensures) (omega (arith, w.if-name-wanted.true, w.if-name-wanted-2.false)) in
          record {
            one_left = omega arith;
            in_range = omega arith;
            smaller = λ k h. omega (arith, up k m (omega arith) (omega arith));
            larger = λ k h d. l.invariant.larger k (omega arith) d;
          }
      | else-name-wanted w ↦
          let b : c.if-name-wanted.base ≡ l.base = w.base-is in
          let e : c.args.wanted < u16_at c.args.sites.now (32 * m) = rw (← c.word-name.ensures) w.if-name-wanted.false in
          record {
            one_left = omega arith;
            in_range = omega arith;
            smaller = λ k h. l.invariant.smaller k (omega arith);
            larger = λ k h d. ⊎_elim (λ q. rw (← q) e) (λ r. omega (arith, up m k r d)) (eq-or-lt_of_le (upper l.base l.size k (omega arith)));
          }
    ]

pub returns-then-word-wanted : goal.returns-then-word-wanted
returns-then-word-wanted c =
    let l = c.loop-size in
    sym (here c.args.sites.now c.args.wanted c.requires l.base (omega arith) (sym c.word.ensures ∙ c.if-word-wanted.true))

pub returns-else-word-wanted : goal.returns-else-word-wanted
returns-else-word-wanted c =
    let l = c.loop-size in
    sym (nowhere c.args.sites.now c.args.wanted c.requires
    (λ k h e. apart k l.base l.size c.loop-size-test.false (λ b. omega (arith, l.invariant.smaller k b)) (λ b. omega (arith, l.invariant.larger k b h))
    (λ q. c.if-word-wanted.false (c.word.ensures ∙ rw (← q) e))))
