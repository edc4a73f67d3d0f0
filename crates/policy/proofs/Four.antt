-- Lists of four: the arrays inside an action and a row, which is known of a value of their types; the operands and the words that stand in
-- bytes, by their number. Assumes nothing.
use mathlib.Core.Path.{◌≡◌, refl, ap}
use mathlib.Core.List.{List}
use Prim.Native.Nat.{ℕ, zero, suc, ◌+◌, ◌*◌, ◌<◌}
use native.Mathlib.Omega.{arith}
use mir.Val.{Val}
use denote.Laws.{Is}
use denote.Struct.Declared.{row}
use lib.ListN.{length, get_or}
use Rattle.words.specs.Bytes.{u16_at}
use Rattle.net.specs.Records.{four_words, four_operands, read_operand}
use Rattle.net.specs.declared.Operand.{Operand}
use Rattle.net.specs.declared.Action.{Action}
use Rattle.net.specs.declared.Row.{Row}
use Rattle.net.specs.contracts.Action as action
use Rattle.net.specs.contracts.Row as the_row

pub four_fields : (x : Action) (vs : List Val) → Is (row action.the_type) x vs → length x.fields ≡ 4
four_fields x vs g = g.1.1.1.1.1.1.1.0.1.0.1

pub four_values : (x : Row) (vs : List Val) → Is (row the_row.the_type) x vs → length x.fields ≡ 4
four_values x vs g = g.1.1.1.1.0.1.0.1

-- a place among four is one of them
one_of_four : (P : ℕ → Type 0) → P 0 → P 1 → P 2 → P 3 → (i : ℕ) → i < 4 → P i
one_of_four P a b c d zero h = a
one_of_four P a b c d (suc zero) h = b
one_of_four P a b c d (suc (suc zero)) h = c
one_of_four P a b c d (suc (suc (suc zero))) h = d
one_of_four P a b c d (suc (suc (suc (suc i)))) h = absurd (let z : ⊥ = omega arith in z)

-- four operands and four words in bytes: as many, and number i of them
pub four_operands_lem : (s : List ℕ) (at : ℕ) → length (four_operands s at) ≡ 4
unfolding four_operands
four_operands_lem s at = refl

pub four_words_lem : (s : List ℕ) (at : ℕ) → length (four_words s at) ≡ 4
unfolding four_words
four_words_lem s at = refl

pub operand_in : (s : List ℕ) (at : ℕ) (d : Operand) (i : ℕ) → i < 4 → get_or (four_operands s at) i d ≡ read_operand s (at + 4 * i)
unfolding four_operands
operand_in s at d =
    one_of_four (λ i. get_or (four_operands s at) i d ≡ read_operand s (at + 4 * i)) (ap (read_operand s) (omega arith)) refl refl refl

pub word_in : (s : List ℕ) (at : ℕ) (i : ℕ) → i < 4 → get_or (four_words s at) i 0 ≡ u16_at s (at + 2 * i)
unfolding four_words
word_in s at = one_of_four (λ i. get_or (four_words s at) i 0 ≡ u16_at s (at + 2 * i)) (ap (u16_at s) (omega arith)) refl refl refl
