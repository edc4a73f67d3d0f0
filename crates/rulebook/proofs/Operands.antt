-- What the rules of four operands come to, place by place, as the code looks at them. Assumes nothing.
use mathlib.Core.Path.{◌≡◌, sym, ap, ◌∙◌}
use mathlib.Core.Bool.{Bool, cond, ◌&&◌, and-true, and_assoc}
use mathlib.Core.List.{List, [], ◌∷◌}
use Prim.Native.Nat.{ℕ, zero, suc}
use native.Mathlib.Omega.{arith}
use lib.Dec.{ltb}
use lib.ListN.{length, get_or}
use lib.Seq.{take-nil, drop-nil}
use borrow.Author.Tests.{lt-ltb}
use Rattle.words.specs.Lists.{all_of}
use Rattle.words.proofs.Numbers.{written}
use Rattle.net.specs.Records.{no_operand}
use Rattle.net.specs.declared.Operand.{Operand}
use Rattle.rulebook.specs.Parts.{operand_ok, unused, operands_ok}

-- ---- some operands, of which the first n are used
abbrev pub used_ok : List ℕ → ℕ → ℕ → Operand → Bool
used_ok tags j n x = cond (ltb j n) (operand_ok tags x) (unused x)

pub four_ok : (tags : List ℕ) (n : ℕ) (a b c d : Operand)
    → operands_ok tags n (a ∷ b ∷ c ∷ d ∷ []) ≡ (used_ok tags 0 n a && (used_ok tags 1 n b && (used_ok tags 2 n c && used_ok tags 3 n d)))
four_ok tags zero a b c d = simp and-true
four_ok tags (suc zero) a b c d = simp (and-true, and_assoc)
four_ok tags (suc (suc zero)) a b c d = simp (and-true, and_assoc)
four_ok tags (suc (suc (suc zero))) a b c d = simp (and-true, and_assoc)
four_ok tags (suc (suc (suc (suc n)))) a b c d =
    let m = suc (suc (suc (suc n))) in
    simp (take-nil {A = Operand} n, drop-nil {A = Operand} n, lt-ltb 0 m (omega arith), lt-ltb 1 m (omega arith), lt-ltb 2 m (omega arith), lt-ltb 3 m (omega arith), and-true)

-- the same of a list of four
abbrev pub field_rules : List ℕ → ℕ → List Operand → List Bool
field_rules tags n l =
    used_ok tags 0 n (get_or l 0 no_operand)
    ∷ used_ok tags 1 n (get_or l 1 no_operand)
    ∷ used_ok tags 2 n (get_or l 2 no_operand)
    ∷ used_ok tags 3 n (get_or l 3 no_operand)
    ∷ []

pub fields_ok_lem : (tags : List ℕ) (n : ℕ) (l : List Operand) → length l ≡ 4 → all_of (field_rules tags n l) ≡ operands_ok tags n l
fields_ok_lem tags n l e =
    sym (four_ok tags n (get_or l 0 no_operand) (get_or l 1 no_operand) (get_or l 2 no_operand) (get_or l 3 no_operand)) ∙ ap (operands_ok tags n) (written no_operand 4 l e)
