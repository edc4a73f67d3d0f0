-- The stepping program: what it prints for what it reads, from the meaning of images and steps alone. "`farmstep` reads from standard input
-- an image length u32, the image, then one byte per step." Assumes nothing.
use Rattle.std.specs.Prelude.{ℕ, ◌-◌, Bool, cond, ◌&&◌, List, [], ◌∷◌, ◌++◌, map, ltb, leb, length, get_or, take, drop, Result}
use Rattle.words.specs.Bytes.{u32_at}
use Rattle.net.specs.Net.{State, Rules, site_at, held}
use Rattle.net.specs.Image.{state_in, rules_in}
use Rattle.net.specs.declared.Site.{Site}
use Rattle.format.specs.Verdict.{number_of, record_of, is_accepted, verdict_of}
use Rattle.format.specs.declared.Refusal.{Refusal}
use Rattle.stepping.specs.Step.{answers, final, number_of as answerNumber}
use Rattle.monitor.specs.Memory.{most_steps}
use Rattle.lines.specs.Lines.{decimal, line, lines}

-- ---- the lines
-- `input`
abbrev pub input_line : List ℕ
input_line = line (105 ∷ 110 ∷ 112 ∷ 117 ∷ 116 ∷ []) []

-- "`load N R` (number, record)"
unfoldable pub load_line : Result Unit Refusal → List ℕ
load_line v = line (108 ∷ 111 ∷ 97 ∷ 100 ∷ []) (number_of v ∷ record_of v ∷ [])

-- `run 7`
abbrev pub run_line : List ℕ
run_line = line (114 ∷ 117 ∷ 110 ∷ []) (7 ∷ [])

-- "a line per step (index from 0, site, answer)"
unfoldable pub step_line : ℕ → ℕ → ℕ → List ℕ
step_line i site answer = decimal i ++ line [] (site ∷ answer ∷ [])

-- "a line per site (the word `site`, name, HS, HO, rows held, lost)"
unfoldable pub site_line : Site → ℕ → List ℕ
site_line x rows = line (115 ∷ 105 ∷ 116 ∷ 101 ∷ []) (x.name ∷ x.hs ∷ x.ho ∷ rows ∷ x.lost ∷ [])

-- ---- what is printed
unfoldable pub step_lines : List ℕ → List ℕ → List ℕ
step_lines steps given = lines (length steps) (λ i. step_line i (get_or steps i 0) (get_or given i 0))

unfoldable pub site_lines : State → List ℕ
site_lines s = lines (length s.sites) (λ k. site_line (site_at s.sites k) (held k s.rows))

-- "Run's LONG prints `run 7`. Else a line per step .. and a line per site"
unfoldable pub ran_text : Rules → State → List ℕ → List ℕ
ran_text r s steps =
    cond (ltb most_steps (length steps)) run_line (step_lines steps (map answerNumber (answers r s steps)) ++ site_lines (final r s steps))

-- "A refused load prints `load N R`"
unfoldable pub loaded_text : List ℕ → List ℕ → List ℕ
loaded_text image steps = cond (is_accepted (verdict_of image)) (ran_text (rules_in image) (state_in image) steps) (load_line (verdict_of image))

-- "Over 60,000 bytes, under 4, or an image longer than what follows prints `input`."
unfoldable pub input_ok : List ℕ → Bool
input_ok s = leb (length s) 60000 && (leb 4 (length s) && leb (u32_at s 0) (length s - 4))

-- the image and the steps of such an input
abbrev pub image_of : List ℕ → List ℕ
image_of s = take (u32_at s 0) (drop 4 s)

abbrev pub steps_of : List ℕ → List ℕ
steps_of s = drop (u32_at s 0) (drop 4 s)

unfoldable pub printed : List ℕ → List ℕ
printed s = cond (input_ok s) (loaded_text (image_of s) (steps_of s)) input_line
