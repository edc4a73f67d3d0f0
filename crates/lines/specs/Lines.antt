-- Lines of text, as bytes: "single spaces, decimal, no leading zeros", each ends with one LF; and what writing a text leaves. Assumes nothing.
use Rattle.std.specs.Prelude.{◌≡◌, ℕ, zero, suc, ◌+◌, ◌^◌, List, [], ◌∷◌, ◌++◌, leb, length}
use Rattle.io.specs.Digits.{last_digits}
use Rattle.words.specs.Lists.{first_bad}
use Rattle.words.specs.Bytes.{splice}

-- how many digits a number takes: the fewest that hold it, and one for 0; 20 hold every number of 64 bits
unfoldable pub places : ℕ → ℕ
places n = 1 + first_bad (λ k. leb (10 ^ (k + 1)) n) 19

unfoldable pub decimal : ℕ → List ℕ
decimal n = last_digits 10 (places n) n

-- a space before each number
unfoldable pub spaced : List ℕ → List ℕ
spaced [] = []
spaced (n ∷ l) = 32 ∷ (decimal n ++ spaced l)

-- a word, the numbers after it, the line's end
unfoldable pub line : List ℕ → List ℕ → List ℕ
line word l = word ++ (spaced l ++ (10 ∷ []))

-- the lines 0, 1, .. below n
unfoldable pub lines : ℕ → (ℕ → List ℕ) → List ℕ
lines zero f = []
lines (suc n) f = lines n f ++ f n

-- a text put into bytes from byte `at` on: it stands there, every other byte is as it was, and `next` is the byte after it
pub record Put (before : List ℕ) (at : ℕ) (text after : List ℕ) (next : ℕ) : Type 0 where
  pub bytes : after ≡ splice before at text
  pub ends : next ≡ at + length text
