-- Memory that holds a net, saved, run and read again: the image that is saved has the net's bodies, and the net after a run is the one that the
-- steps leave. Assumes nothing.
use Rattle.std.specs.Prelude.{Ok, Err, Result}
use mathlib.Core.Path.{◌≡◌, refl, sym, ap, ◌∙◌}
use mathlib.Core.Bool.{Bool, true, false, cond, ◌||◌}
use mathlib.Core.List.{List, ◌++◌, map}
use Prim.Native.Nat.{ℕ, ◌≤◌}
use native.Mathlib.Omega.{arith}
use lib.Dec.{T, ltb}
use lib.ListN.{length, get_or, take, drop, length-append, length-drop, get_or-append}
use lib.Seq.{take_at}
use borrow.Author.Tests.{eq-eqb, le-leb, le-ltb, ltb-false}
use Rattle.words.specs.Bytes.{Bytes, padded}
use Rattle.words.proofs.Splices.{splice_zero}
use Rattle.words.proofs.Truth.{no}
use Rattle.net.specs.Net.{State, Rules}
use Rattle.net.specs.Image.{memory_size, width_of, most_of, end_in, body_in}
use Rattle.net.proofs.Bodies.{entry_of, body_length}
use Rattle.format.specs.Format.{well_formed}
use Rattle.format.specs.Verdict.{is_accepted, verdict_of, handed_out, body_of}
use Rattle.format.specs.declared.Refusal.{Refusal}
use Rattle.format.specs.declared.Refusal.TheVariants.{Size, Edition, Contents, BadSite, BadNode, BadAspect, BadAction, BadRow, BadState, Small}
use Rattle.format.proofs.Verdicts.{accepted_right}
use Rattle.stepping.specs.Step.{answers, final, number_of}
use Rattle.stepping.proofs.Keeps.{run_keeps}
use Rattle.monitor.specs.Memory.{image_in, holds_net, rules_held, state_held, memory_with, load_answer}
use Rattle.monitor.specs.Memory.{load_memory, save_answer, save_output, most_steps, run_answer, run_memory, run_answers}
use Rattle.monitor.specs.declared.SaveError.{SaveError}
use Rattle.monitor.specs.declared.RunError.{RunError}
use Rattle.monitor.specs.declared.RunError.TheVariants.{Long}
use Rattle.monitor.proofs.Holding.{holds_parts, held_formed, memory_holds, state_back, padded_holds, image_padded}
use Rattle.lines.proofs.Texts.{lines_same}
use Rattle.stepper.specs.Farmstep.{run_line, step_line, step_lines, site_lines, ran_text, load_line, loaded_text}
use Rattle.stepper.specs.Bodies.{site_lines_of}

-- ---- saving, with as much room as memory
-- the image of a net stands in the first n bytes
pub record IsSaved (m out : List ℕ) (n : ℕ) : Type 0 where
  pub within : n ≤ length out
  pub image : take n out ≡ image_in m

module _ (m : List ℕ) (e : holds_net m ≡ true) where
  pub save_answers : (room : ℕ) → room ≡ memory_size → save_answer m room ≡ Ok (end_in m)
  unfolding save_answer
  save_answers room h = let p = holds_parts m e in rw (e, le-ltb room (end_in m) (omega arith))

  pub is_saved : (out : List ℕ) {after : List ℕ} {v : Result ℕ SaveError} {n : ℕ} → length out ≡ memory_size → v ≡ save_answer m (length out)
      → after ≡ save_output m out → length after ≡ length out → v ≡ Ok n → IsSaved m after n
  unfolding save_output
  is_saved out {after} {n = n} room value left long ok =
      let p = holds_parts m e in
      let i = image_in m in
      let a = save_answers (length out) room in
      let is : n ≡ end_in m = cc in
      record {
        within = omega arith;
        image = rw (is, left, a, splice_zero out i) (take_at i (drop (length i) out) (end_in m) p.whole);
      }

  -- its bodies are handed out, and have the net's sites and rows
  pub body_saved : (k : ℕ) → 1 ≤ k → k ≤ 5 → body_of (image_in m) k ≡ body_in (image_in m) k
  unfolding body_of handed_out
  body_saved k a b = rw ((holds_parts m e).accepted, le-leb 1 k a, le-leb k 5 b)

  module _ {image sites : List ℕ} (saved : image ≡ image_in m) (of : sites ≡ body_of image 1) where
    pub lines-saved : {rows : List ℕ} → rows ≡ body_of image 5 → site_lines_of sites rows ≡ site_lines (state_held m)
    unfolding site_lines_of site_lines
    lines-saved q = rw (of, q, saved, body_saved 1 (omega arith) (omega arith), body_saved 5 (omega arith) (omega arith))

    pub few-sites : length sites ≤ 1024
    unfolding width_of most_of
    few-sites =
        let o = (accepted_right (image_in m) (holds_parts m e).accepted).contents in
        rw (of, saved, body_saved 1 (omega arith) (omega arith), body_length (image_in m) o 1 (omega arith) (omega arith))
        (omega (arith, (entry_of (image_in m) o 1 (omega arith) (omega arith)).most))

-- ---- running, with room for as many answers as there may be steps
-- what a run answers, if the steps are too many and if they are not
abbrev answer_if : Bool → Result Unit RunError
answer_if long = cond long (Err Long) (Ok tt)

module _ (m steps out : List ℕ) (e : holds_net m ≡ true) (room : length out ≡ most_steps) where
  abbrev r : Rules
  r = rules_held m

  abbrev s : State
  s = state_held m

  abbrev is_long : Bool
  is_long = ltb most_steps (length steps)

  run_answers_lem : run_answer m steps (length out) ≡ answer_if is_long
  unfolding run_answer
  run_answers_lem = rw (room, e) (twice is_long)
    where
      twice : (b : Bool) → answer_if (b || b) ≡ answer_if b
      twice true = refl
      twice false = refl

  -- any other answer is LONG, of too many steps
  pub long_text : {v : Result Unit RunError} → v ≡ run_answer m steps (length out) → (v ≡ Ok tt → ⊥) → run_line ≡ ran_text r s steps
  unfolding ran_text
  long_text {v} p n = rw (pick is_long (p ∙ run_answers_lem))
    where
      pick : (b : Bool) → v ≡ answer_if b → b ≡ true
      pick true q = refl
      pick false q = absurd (n q)

  -- of no more steps than may be, all are done
  module _ (bytes : Bytes m) (through : Ok tt ≡ run_answer m steps (length out)) where
    few : is_long ≡ false
    few = pick is_long (through ∙ run_answers_lem)
      where
        pick : (b : Bool) → Ok tt ≡ answer_if b → b ≡ false
        pick true q = no (cc)
        pick false q = refl

    pub few_steps : length steps ≤ most_steps
    few_steps = ltb-false most_steps (length steps) few

    abbrev after : State
    after = final r s steps

    formed : T (well_formed (record { state = after; rules = r }))
    formed = run_keeps r s steps (held_formed m bytes e)

    memory_after : run_memory m steps (length out) ≡ memory_with r after
    unfolding run_memory
    memory_after = rw (sym through)

    pub holds_after : {m₁ : List ℕ} → m₁ ≡ run_memory m steps (length out) → holds_net m₁ ≡ true
    holds_after w = rw (w, memory_after) (memory_holds r after formed)

    -- the answers stand at the front, and the lines go by them
    module _ {given : List ℕ} (w : given ≡ run_answers m steps out) (n : length given ≡ length out) where
      abbrev numbers : List ℕ
      numbers = map number_of (answers r s steps)

      front : given ≡ numbers ++ drop (length steps) out
      unfolding run_answers
      front = w ∙ rw (sym through)

      as_many : length numbers ≡ length steps
      as_many = omega (arith, few_steps, n, room, ap length front, length-append numbers (drop (length steps) out), length-drop (length steps) out)

      lines_after : step_lines steps given ≡ step_lines steps numbers
      unfolding step_lines
      lines_after =
          lines_same (λ i. step_line i (get_or steps i 0) (get_or given i 0)) (λ i. step_line i (get_or steps i 0) (get_or numbers i 0)) (length steps)
          (λ i h. rw (front, get_or-append numbers (drop (length steps) out) 0 i (rw as_many h)))

      pub ran-text : {m₁ : List ℕ} → m₁ ≡ run_memory m steps (length out) → step_lines steps given ++ site_lines (state_held m₁) ≡ ran_text r s steps
      unfolding ran_text
      ran-text u = rw (few, lines_after, u, memory_after, state_back r after formed)

-- ---- loading, into memory of the right size
-- a refusal is no acceptance
not_accepted : (e : Refusal) → is_accepted (Err e) ≡ false
not_accepted Size = refl
not_accepted Edition = refl
not_accepted Contents = refl
not_accepted (BadSite k) = refl
not_accepted (BadNode k) = refl
not_accepted (BadAspect k) = refl
not_accepted (BadAction k) = refl
not_accepted (BadRow k) = refl
not_accepted (BadState k) = refl
not_accepted Small = refl

module _ (b m₀ steps : List ℕ) (size : length m₀ ≡ memory_size) {v : Result Unit Refusal} (is : v ≡ load_answer b m₀) where
  verdict_is : v ≡ verdict_of b
  unfolding load_answer
  verdict_is = is ∙ rw (eq-eqb (length m₀) memory_size size)

  -- refused
  pub refused_text : {e : Refusal} → v ≡ Err e → load_line v ≡ loaded_text b steps
  unfolding loaded_text
  refused_text {e} r = rw (← verdict_is, r, not_accepted e)

  -- accepted: memory holds the image's net
  module _ (ok : v ≡ Ok tt) {m : List ℕ} (left : m ≡ load_memory b m₀) where
    accepted : verdict_of b ≡ Ok tt
    accepted = sym verdict_is ∙ ok

    memory_is : m ≡ padded memory_size b
    unfolding load_memory
    memory_is = left ∙ rw (← is, ok)

    pub holds_loaded : holds_net m ≡ true
    holds_loaded = rw memory_is (padded_holds b accepted)

    pub loaded_text_lem : ran_text (rules_held m) (state_held m) steps ≡ loaded_text b steps
    unfolding loaded_text
    loaded_text_lem = rw (accepted, memory_is, image_padded b accepted)
