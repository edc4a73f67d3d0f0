-- The four values. "Codes: 0 no decision, 1 yes, 2 no, 3 conflict. Bit 0 is evidence for, bit 1 evidence against."
-- A bit is 0 or 1: of two bits, `min` is 1 if both are, `max` if either is. Assumes nothing.
use Rattle.std.specs.Prelude.{ℕ, ◌+◌, ◌*◌, ◌/◌, ◌%◌, min, max, Bool, false, cond, not, [], ◌∷◌, ltb, leb, eqb, get_or}

abbrev pub for : ℕ → ℕ
for p = p % 2

abbrev pub against : ℕ → ℕ
against p = p / 2

-- the value with these two bits
abbrev pub value : ℕ → ℕ → ℕ
value f a = a * 2 + f

-- "A value grants exactly if it is 0 or 1."
abbrev pub grants : ℕ → Bool
grants p = ltb p 2

-- "not swaps the two bits"
abbrev pub not_of : ℕ → ℕ
not_of p = value (against p) (for p)

-- "and": "for if both have for, against if either has against"
abbrev pub and_of : ℕ → ℕ → ℕ
and_of p q = value (min (for p) (for q)) (max (against p) (against q))

-- "or": "the dual"
abbrev pub or_of : ℕ → ℕ → ℕ
or_of p q = value (max (for p) (for q)) (min (against p) (against q))

-- "consensus keeps bits both have"
abbrev pub consensus_of : ℕ → ℕ → ℕ
consensus_of p q = value (min (for p) (for q)) (min (against p) (against q))

-- "gather keeps bits either has"
abbrev pub gather_of : ℕ → ℕ → ℕ
gather_of p q = value (max (for p) (for q)) (max (against p) (against q))

-- "p implies q is q if p is 0 or 1, else 1"
abbrev pub implies_of : ℕ → ℕ → ℕ
implies_of p q = cond (ltb p 2) q 1

-- "p before q is p unless p is 0, else q"
abbrev pub before_of : ℕ → ℕ → ℕ
before_of p q = cond (eqb p 0) q p

-- the six two-place operators by number, in the order of the node kinds 19 to 24
unfoldable pub operate_of : ℕ → ℕ → ℕ → ℕ
operate_of k p q =
    get_or (and_of p q ∷ or_of p q ∷ consensus_of p q ∷ gather_of p q ∷ implies_of p q ∷ before_of p q ∷ []) k 0

-- the values that decide an operator alone, whatever the second value is: no for "and", yes for "or", no decision for consensus, conflict for
-- gather, what does not grant for "implies", and all but no decision for "before"
unfoldable pub settles : ℕ → ℕ → Bool
settles k p = get_or (eqb p 2 ∷ eqb p 1 ∷ eqb p 0 ∷ eqb p 3 ∷ leb 2 p ∷ not (eqb p 0) ∷ []) k false
