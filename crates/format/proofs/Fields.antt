-- Fields of which the first n are used, that is not 0, and the others 0, looked at one by one together with their numbers. Assumes nothing.
use Rattle.std.specs.List.{list_all, enumerate_from}
use mathlib.Core.Path.{◌≡◌, refl}
use mathlib.Core.Bool.{Bool, true, false, not, beq, and_assoc}
use mathlib.Core.List.{List, [], ◌∷◌}
use Prim.Native.Nat.{ℕ, zero, suc, ◌+◌, ◌≤◌}
use native.Mathlib.Omega.{arith}
use lib.Dec.{ltb, eqb}
use borrow.Author.Tests.{lt-ltb, le-ltb, ne_eqb}
use Rattle.words.specs.Lists.{all}
use Rattle.format.specs.Format.{fields_ok}

-- field j of value v, where the first m are used
abbrev pub used_right : ℕ → ℕ × ℕ → Bool
used_right m p = beq (not (eqb p.1 0)) (ltb p.0 m)

used : (b : Bool) → beq (not b) true ≡ not b
used true = refl
used false = refl

not_used : (v : ℕ) → beq (not (eqb v 0)) false ≡ eqb 0 v
not_used zero = refl
not_used (suc v) = rw (ne_eqb (suc v) 0 (λ z. omega arith), ne_eqb 0 (suc v) (λ z. omega arith))

rest : (m k : ℕ) (l : List ℕ) → m ≤ k → list_all (used_right m) (enumerate_from k l) ≡ all (eqb 0) l
rest m k [] h = refl
rest m k (v ∷ l) h = rw (le-ltb k m h, not_used v, rest m (k + 1) l (omega arith))

from : (n m k : ℕ) (l : List ℕ) → m ≡ k + n → list_all (used_right m) (enumerate_from k l) ≡ fields_ok n l
from zero m k l e = rest m k l (omega arith)
from (suc n) m k [] e = refl
from (suc n) m k (v ∷ l) e = rw (lt-ltb k m (omega arith), used (eqb v 0), from n m (k + 1) l (omega arith), and_assoc)

pub fields_numbered : (n : ℕ) (l : List ℕ) → list_all (used_right n) (enumerate_from 0 l) ≡ fields_ok n l
fields_numbered n l = from n n 0 l (omega arith)
