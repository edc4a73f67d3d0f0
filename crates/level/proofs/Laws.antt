-- The laws of levels: dominance is an order, and the join is its least upper bound, since union of masks is associative, commutative
-- and idempotent, and y's categories are x's exactly if their union is x's.
-- Assumes nothing.
use mathlib.Core.Path.{◌≡◌, refl}
use mathlib.Core.Bool.{Bool, true, false, ◌&&◌}
use Prim.Native.Nat.{ℕ, ◌/◌, ◌%◌, ◌≤◌, ◌<◌, max}
use native.Mathlib.Omega.{arith}
use lib.Arith.{bin_ind}
use lib.Dec.{T, leb, eqb, leb→le, le→leb, eqb→eq, eqb_refl}
use lib.Bits.{bit_and, bit_or, or_step, or_add_and, or_comm, or_self, or_lt, or_zero_r, and_le_r}
use Rattle.level.specs.Level.{rank, categories, bottom, top, dominates, join}

pub or_small : (x y : ℕ) → bit_or (categories x) (categories y) < 256
or_small x y = or_lt 8 (categories x) (categories y) (omega arith) (omega arith)

-- the lowest digit, and the rest
or_digits : (a b : ℕ) → (bit_or a b / 2 ≡ bit_or (a / 2) (b / 2)) × (bit_or a b % 2 ≡ max (a % 2) (b % 2))
or_digits a b = omega (arith, or_step a b)

or_assoc : (a b c : ℕ) → bit_or (bit_or a b) c ≡ bit_or a (bit_or b c)
or_assoc = bin_ind (λ (n : ℕ). (b c : ℕ) → bit_or (bit_or n b) c ≡ bit_or n (bit_or b c)) (λ b c. refl)
    (λ n ih b c.
    let l : bit_or (bit_or n b / 2) (c / 2) ≡ bit_or (n / 2) (bit_or b c / 2) = rw ((or_digits n b).0, (or_digits b c).0, ih (b / 2) (c / 2)) refl in
    omega (arith, or_step (bit_or n b) c, or_step n (bit_or b c), (or_digits n b).1, (or_digits b c).1))

-- dominance, as facts
pub record Above (x y : ℕ) : Type 0 where
  pub ranks : rank y ≤ rank x
  pub within : bit_or (categories x) (categories y) ≡ categories x

both_T : (a b : Bool) → T (a && b) → T a × T b
both_T true b t = (tt, t)
both_T false b t = absurd t

T_both : (a b : Bool) → T a → T b → T (a && b)
T_both true b s t = t
T_both false b s t = s

-- every category of y is in x: stated with `and` and with `or`
pub above : (x y : ℕ) → T (dominates x y) → Above x y
unfolding dominates
above x y t =
    let p = both_T (leb (rank y) (rank x)) (eqb (bit_and (categories x) (categories y)) (categories y)) t in
    let e = eqb→eq (bit_and (categories x) (categories y)) (categories y) p.1 in
    record { ranks = leb→le (rank y) (rank x) p.0; within = omega (arith, or_add_and (categories x) (categories y)) }

pub dominates_of : (x y : ℕ) → Above x y → T (dominates x y)
unfolding dominates
dominates_of x y h =
    let e : bit_and (categories x) (categories y) ≡ categories y = omega (arith, or_add_and (categories x) (categories y)) in
    T_both (leb (rank y) (rank x)) (eqb (bit_and (categories x) (categories y)) (categories y)) (le→leb (rank y) (rank x) h.ranks) (rw e (eqb_refl (categories y)))

-- ---- an order

pub above_refl : (x : ℕ) → Above x x
above_refl x = record { ranks = omega arith; within = or_self (categories x) }

pub above_trans : (x y z : ℕ) → Above x y → Above y z → Above x z
above_trans x y z p q = record {
  ranks = omega arith;
  within = cc (or_assoc (categories x) (categories y) (categories z));
}

pub above_antisym : (x y : ℕ) → Above x y → Above y x → x ≡ y
above_antisym x y p q = omega (arith, or_comm (categories x) (categories y))

-- ---- the parts of a join

pub join-rank : (x y : ℕ) → rank (join x y) ≡ max (rank x) (rank y)
unfolding join
join-rank x y = omega (arith, or_small x y)

pub join-categories : (x y : ℕ) → categories (join x y) ≡ bit_or (categories x) (categories y)
unfolding join
join-categories x y = omega (arith, or_small x y)

pub join_lt : (x y : ℕ) → x < 65536 → y < 65536 → join x y < 65536
unfolding join
join_lt x y p q = omega (arith, or_small x y)

-- ---- the join is the least level above both

pub join_above_left : (x y : ℕ) → Above (join x y) x
join_above_left x y = record {
  ranks = omega (arith, join-rank x y);
  within = cc (join-categories x y, or_assoc (categories x) (categories y) (categories x), or_comm (categories y) (categories x), or_assoc (categories x) (categories x) (categories y), or_self (categories x));
}

pub join_comm : (x y : ℕ) → join x y ≡ join y x
unfolding join
join_comm x y = omega (arith, or_comm (categories x) (categories y))

pub join_above_right : (x y : ℕ) → Above (join x y) y
join_above_right x y = rw (join_comm x y) (join_above_left y x)

pub join_least : (x y z : ℕ) → Above z x → Above z y → Above z (join x y)
join_least x y z p q = record {
  ranks = omega (arith, join-rank x y);
  within = cc (join-categories x y, or_assoc (categories z) (categories x) (categories y));
}

-- ---- bottom and top

pub above_bottom : (x : ℕ) → Above x bottom
above_bottom x = record { ranks = omega arith; within = or_zero_r (categories x) }

pub top_above : (x : ℕ) → x < 65536 → Above top x
top_above x h = record {
  ranks = omega arith;
  within = omega (arith, or_small 65535 x, or_add_and 255 (categories x), and_le_r 255 (categories x));
}

-- ---- the same of the test

pub dominates-bottom : (x : ℕ) → T (dominates x bottom)
dominates-bottom x = dominates_of x bottom (above_bottom x)

pub top-dominates : (x : ℕ) → x < 65536 → T (dominates top x)
top-dominates x h = dominates_of top x (top_above x h)

pub dominates_refl : (x : ℕ) → T (dominates x x)
dominates_refl x = dominates_of x x (above_refl x)

pub dominates_trans : (x y z : ℕ) → T (dominates x y) → T (dominates y z) → T (dominates x z)
dominates_trans x y z p q = dominates_of x z (above_trans x y z (above x y p) (above y z q))

pub dominates_antisym : (x y : ℕ) → T (dominates x y) → T (dominates y x) → x ≡ y
dominates_antisym x y p q = above_antisym x y (above x y p) (above y x q)

pub join_left : (x y : ℕ) → T (dominates (join x y) x)
join_left x y = dominates_of (join x y) x (join_above_left x y)

pub join_right : (x y : ℕ) → T (dominates (join x y) y)
join_right x y = dominates_of (join x y) y (join_above_right x y)

pub join-below : (x y z : ℕ) → T (dominates z x) → T (dominates z y) → T (dominates z (join x y))
join-below x y z p q = dominates_of z (join x y) (join_least x y z (above z x p) (above z y q))

-- ---- "261 and 515 join to 519; neither dominates the other", and the two worked examples
pub worked : (join 261 515 ≡ 519) × (dominates 261 515 ≡ false) × (dominates 515 261 ≡ false) × (dominates 512 257 ≡ false) × (dominates 513 257 ≡ true)
unfolding join dominates
worked = (refl, refl, refl, refl, refl)
