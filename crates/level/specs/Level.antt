-- Levels. "A level is a u16: rank = level / 256, categories = the low 8 bits, one bit each. Each u16 is a level. Bottom is 0, top is 65,535."
-- Assumes nothing.
use Rattle.std.specs.Prelude.{ℕ, ◌+◌, ◌*◌, ◌/◌, ◌%◌, max, Bool, ◌&&◌, leb, eqb}
use Rattle.std.specs.Int.Bits.{bit_and, bit_or}

abbrev pub rank : ℕ → ℕ
rank x = x / 256

abbrev pub categories : ℕ → ℕ
categories x = x % 256

abbrev pub bottom : ℕ
bottom = 0

abbrev pub top : ℕ
top = 65535

-- "x dominates y if rank(x) >= rank(y) and every category of y is in x"
unfoldable pub dominates : ℕ → ℕ → Bool
dominates x y = leb (rank y) (rank x) && eqb (bit_and (categories x) (categories y)) (categories y)

-- "The join has the larger rank and all categories of either."
unfoldable pub join : ℕ → ℕ → ℕ
join x y = max (rank x) (rank y) * 256 + bit_or (categories x) (categories y)
