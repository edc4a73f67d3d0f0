-- Numbers in bytes, little-endian, and stretches of bytes. Assumes nothing.
use Rattle.std.specs.Prelude.{ℕ, ◌+◌, ◌*◌, ◌-◌, ◌/◌, ◌%◌, ◌<◌, Bool, List, [], ◌∷◌, ◌++◌, eqb, length, get_or, take, drop, replicate}
use Rattle.words.specs.Lists.{all}

-- a list of bytes
abbrev pub Bytes : List ℕ → Type 0
Bytes m = (k : ℕ) → get_or m k 0 < 256

-- the u16 at byte i, and the u32; past the end a byte is 0
unfoldable pub u16_at : List ℕ → ℕ → ℕ
u16_at s i = get_or s i 0 + 256 * get_or s (i + 1) 0

unfoldable pub u32_at : List ℕ → ℕ → ℕ
u32_at s i = u16_at s i + 65536 * u16_at s (i + 2)

-- the two bytes of a u16, the four of a u32
abbrev pub low : ℕ → ℕ
low x = x % 256

abbrev pub high : ℕ → ℕ
high x = x / 256 % 256

abbrev pub u16_bytes : ℕ → List ℕ
u16_bytes x = low x ∷ high x ∷ []

abbrev pub u32_bytes : ℕ → List ℕ
u32_bytes x = low x ∷ high x ∷ low (x / 65536) ∷ high (x / 65536) ∷ []

-- n zeros; every byte is 0
abbrev pub blank : ℕ → List ℕ
blank n = replicate n 0

unfoldable pub all_zero : List ℕ → Bool
all_zero = all (λ x. eqb x 0)

-- the bytes b, then zeros up to n
unfoldable pub padded : ℕ → List ℕ → List ℕ
padded n b = b ++ blank (n - length b)

-- the bytes a..e, as `&m[a..e]` has them
abbrev pub stretch : ℕ → ℕ → List ℕ → List ℕ
stretch a e m = take (e - a) (drop a m)

-- m with b in the place of what stood from byte at on
unfoldable pub splice : List ℕ → ℕ → List ℕ → List ℕ
splice m at b = take at m ++ b ++ drop (at + length b) m

-- b put in at byte at, the bytes at..end after it, over as many as b has
unfoldable pub inserted : List ℕ → ℕ → ℕ → List ℕ → List ℕ
inserted b at end m = take at m ++ (b ++ (stretch at end m ++ drop (end + length b) m))

-- the w bytes from at on taken out, those up to end moved down, and zeros after them
unfoldable pub removed : ℕ → ℕ → ℕ → List ℕ → List ℕ
removed w at end m = take at m ++ (stretch (at + w) end m ++ (blank w ++ drop end m))
