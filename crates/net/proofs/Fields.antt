-- What the records share: a byte, a word or an operand is read back from where it was written, since the numbers fit, and what is read fits,
-- since the bytes do. Assumes nothing.
use mathlib.Core.Path.{◌≡◌, refl, ap, ◌∙◌}
use mathlib.Core.Bool.{Bool, true, ◌&&◌}
use mathlib.Core.List.{List, [], ◌∷◌, map}
use Prim.Native.Nat.{ℕ, ◌+◌, ◌%◌}
use native.Mathlib.Nat.{add_assoc}
use native.Mathlib.Omega.{arith}
use lib.Dec.{T, ltb, eqb, ltb→lt, eqb→eq}
use lib.ListN.{length, get_or, drop}
use borrow.Author.Tests.{lt-ltb}
use Rattle.words.specs.Lists.{all}
use Rattle.words.specs.Bytes.{Bytes, u16_at}
use Rattle.words.proofs.Truth.{both_T, T_is}
use Rattle.words.proofs.Lists.{all_get_d}
use Rattle.words.proofs.Numbers.{u16_at-drop, u16_at-fits, word_of, word_back, elems, written}
use Rattle.net.specs.Records.{four_words, eight_words, read_operand, four_operands, no_operand, bytes_fit, words_fit, operands_fit}
use Rattle.net.specs.declared.Operand.{Operand}

-- ---- read past a front: four words, eight words, an operand, four operands
pub four_words-drop : (n : ℕ) (m : List ℕ) (k : ℕ) → four_words (drop n m) k ≡ four_words m (n + k)
unfolding four_words
four_words-drop n m k = simp (u16_at-drop, add_assoc)

pub eight_words-drop : (n : ℕ) (m : List ℕ) (k : ℕ) → eight_words (drop n m) k ≡ eight_words m (n + k)
unfolding eight_words
eight_words-drop n m k = simp (u16_at-drop, add_assoc)

pub read_operand-drop : (n : ℕ) (m : List ℕ) (k : ℕ) → read_operand (drop n m) k ≡ read_operand m (n + k)
unfolding read_operand
read_operand-drop n m k = simp (u16_at-drop, add_assoc)

pub four_operands-drop : (n : ℕ) (m : List ℕ) (k : ℕ) → four_operands (drop n m) k ≡ four_operands m (n + k)
unfolding four_operands
four_operands-drop n m k = simp (read_operand-drop, add_assoc)

-- ---- what was written is read back: a list of n elements that fit, each of which comes back
module _ {A : Type 0} (d : A) (f : A → A) (p : A → Bool) (keeps : (x : A) → T (p x) → f x ≡ x) where
  -- each stays, so the list stays
  map_same : (l : List A) → T (all p l) → map f l ≡ l
  map_same [] t = refl
  map_same (x ∷ l) t =
      let h = both_T (p x) (all p l) t in
      rw (keeps x h.0, map_same l h.1)

  -- the list is read back by its places
  all_back : (n : ℕ) (l : List A) → T (eqb (length l) n && all p l) → map f (elems d n 0 l) ≡ l
  all_back n l t =
      let h = both_T (eqb (length l) n) (all p l) t in
      ap (map f) (written d n l (eqb→eq (length l) n h.0)) ∙ map_same l h.1

-- n words are read back
pub words_back : (n : ℕ) (l : List ℕ) → T (words_fit n l) → map word_of (elems 0 n 0 l) ≡ l
words_back = all_back 0 word_of (λ v. ltb v 65536) (λ v t. word_back v (ltb→lt v 65536 t))

-- the operand that is read where x was written
abbrev pub operand_of : Operand → Operand
operand_of x = record { tag = word_of x.tag; value = word_of x.value }

-- n operands are read back
pub operands_back : (n : ℕ) (l : List Operand) → T (operands_fit n l) → map operand_of (elems no_operand n 0 l) ≡ l
operands_back = all_back no_operand operand_of (λ x. ltb x.tag 65536 && ltb x.value 65536) (λ x t.
    let h = both_T (ltb x.tag 65536) (ltb x.value 65536) t in
    λ k. record { tag = word_back x.tag (ltb→lt x.tag 65536 h.0) k; value = word_back x.value (ltb→lt x.value 65536 h.1) k })

-- ---- what is read of bytes fits: a byte, a word
pub byte_fits : (m : List ℕ) → Bytes m → (k : ℕ) → ltb (get_or m k 0) 256 ≡ true
byte_fits m h k = lt-ltb (get_or m k 0) 256 (h k)

pub word_fits : (m : List ℕ) → Bytes m → (k : ℕ) → ltb (u16_at m k) 65536 ≡ true
word_fits m h k = lt-ltb (u16_at m k) 65536 (u16_at-fits m h k)

-- ---- what is written is bytes
abbrev pub is_byte : ℕ → Bool
is_byte v = ltb v 256

-- each half of a word
pub low_fits : (v : ℕ) → is_byte (v % 256) ≡ true
low_fits v = lt-ltb (v % 256) 256 (omega arith)

-- each number that has to fit a byte
pub own_fits : (n : ℕ) (l : List ℕ) → T (bytes_fit n l) → (k : ℕ) → is_byte (get_or l k 0) ≡ true
own_fits n l t k = T_is (is_byte (get_or l k 0)) (all_get_d is_byte l k 0 (both_T (eqb (length l) n) (all is_byte l) t).1 tt)
