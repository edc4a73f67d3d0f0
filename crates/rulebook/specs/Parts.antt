-- Rules that several kinds of record share: of operands, counts, capabilities and owners. Assumes nothing.
use Rattle.std.specs.Prelude.{ℕ, ◌≤◌, Bool, cond, not, ◌&&◌, List, [], ◌∷◌, ◌++◌, ltb, leb, eqb, get_or, take, drop}
use Rattle.words.specs.Lists.{before, all, some, count}
use Rattle.words.specs.Tables.{table_of}
use Rattle.net.specs.declared.Operand.{Operand}

-- ---- operands: "0 name, 1 variable 0..7, 2 binds variable 0..7, 3 any, 4 binder. Tags 3 and 4 have value 0. Names in operands are not 0."
abbrev pub operand_ok : List ℕ → Operand → Bool
operand_ok tags x =
    some (eqb x.tag) tags
    && cond (eqb x.tag 0) (not (eqb x.value 0)) (cond (leb x.tag 2) (ltb x.value 8) (eqb x.value 0))

-- the tags of a place where names and variables stand, and these as well
abbrev pub tags_of : Bool → Bool → Bool → List ℕ
tags_of binds any binder = 0 ∷ 1 ∷ (cond binds (2 ∷ []) [] ++ (cond any (3 ∷ []) [] ++ cond binder (4 ∷ []) []))

-- "Parts not used are 0."
abbrev pub unused : Operand → Bool
unused x = eqb x.tag 0 && eqb x.value 0

-- the first n are used, and good; the others are not used
abbrev pub operands_ok : List ℕ → ℕ → List Operand → Bool
operands_ok tags n l = all (operand_ok tags) (take n l) && all unused (drop n l)

-- "Counts of fields are 1..4"
abbrev pub count_ok : ℕ → Bool
count_ok n = leb 1 n && leb n 4

-- put, take or read
abbrev pub capability_ok : ℕ → Bool
capability_ok c = leb 1 c && leb c 3

-- an operand with this tag speaks of variable v
abbrev pub speaks : ℕ → ℕ → Operand → Bool
speaks tag v x = eqb x.tag tag && eqb x.value v

-- ---- owners: "owners in kinds 3 to 5 never fall and are site numbers"
abbrev pub owner_ok : ℕ → List ℕ → ℕ → Bool
owner_ok sites owners k =
    ltb (get_or owners k 0) sites && leb (before owners k) (get_or owners k 0)

-- the owners of the records of a body, each the first byte of its record
abbrev pub owners_in : ℕ → List ℕ → List ℕ
owners_in w = table_of (λ s i. get_or s i 0) w

-- owners never fall up to place k
abbrev pub NeverFall : List ℕ → ℕ → Type 0
NeverFall owners k = (j : ℕ) → j ≤ k → before owners j ≤ get_or owners j 0

-- "At most 16 .. per owner": fewer than that many before it have its owner
abbrev pub room_ok : ℕ → List ℕ → ℕ → Bool
room_ok limit owners k = ltb (count (λ x. eqb x (get_or owners k 0)) (take k owners)) limit
