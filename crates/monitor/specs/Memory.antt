-- The public calls, on memory: what each answers, and what it leaves in every lent byte. Assumes nothing.
use Rattle.std.specs.Prelude.{◌≡◌, ℕ, Bool, cond, ◌&&◌, ◌||◌, List, ◌++◌, map, ltb, eqb, length, take, drop, Result, Ok, Err}
use Rattle.words.specs.Bytes.{Bytes, all_zero, padded, splice}
use Rattle.words.specs.Tables.{starts_of}
use Rattle.net.specs.Records.{row_width}
use Rattle.net.specs.Net.{State, Rules}
use Rattle.net.specs.Image.{memory_size, memory_of, end_in, body_in, state_in, rules_in}
use Rattle.format.specs.Verdict.{is_accepted, verdict_of}
use Rattle.format.specs.declared.Refusal.{Refusal}
use Rattle.format.specs.declared.Refusal.TheVariants.{Small}
use Rattle.stepping.specs.Step.{step, answers, final, number_of}
use Rattle.stepping.specs.declared.Answer.{Answer}
use Rattle.stepping.specs.declared.Answer.TheVariants.{NoNet}
use Rattle.monitor.specs.declared.SaveError.{SaveError}
use Rattle.monitor.specs.declared.SaveError.TheVariants.{Room, NoNet as SaveNoNet}
use Rattle.monitor.specs.declared.RunError.{RunError}
use Rattle.monitor.specs.declared.RunError.TheVariants.{Long, NoNet as RunNoNet}

-- ---- load: "19 SMALL (memory not 65,536 bytes)", then check's; accepted, memory is the image and then zeros
unfoldable pub load_answer : List ℕ → List ℕ → Result Unit Refusal
load_answer image m = cond (eqb (length m) memory_size) (verdict_of image) (Err Small)

unfoldable pub load_memory : List ℕ → List ℕ → List ℕ
load_memory image m = cond (is_accepted (load_answer image m)) (padded memory_size image) m

-- ---- "It holds a net exactly if loading some accepted image leaves it so."
pub record Held (m : List ℕ) : Type 0 where
  pub image : List ℕ
  pub bytes : Bytes image
  pub accepted : verdict_of image ≡ Ok tt
  pub left : m ≡ padded memory_size image

-- the test that decides it: an accepted image at the front, as long as its header says, and zeros behind it
abbrev pub image_in : List ℕ → List ℕ
image_in m = take (end_in m) m

unfoldable pub holds_net : List ℕ → Bool
holds_net m = eqb (length m) memory_size && (is_accepted (verdict_of (image_in m)) && all_zero (drop (end_in m) m))

-- the net that memory holds
abbrev pub rules_held : List ℕ → Rules
rules_held m = rules_in (image_in m)

abbrev pub state_held : List ℕ → State
state_held m = state_in (image_in m)

-- where its rows start, site by site
abbrev pub starts_held : List ℕ → List ℕ
starts_held m = starts_of row_width (body_in (image_in m) 5)

-- memory that holds these rules and this state
abbrev pub memory_with : Rules → State → List ℕ
memory_with r s = memory_of (record { state = s; rules = r })

-- ---- save: "6 NONET, 20 ROOM (output too short), 0 with the length; bytes beyond unchanged"
abbrev pub saved_number : Result ℕ SaveError → ℕ
saved_number (Ok n) = 0
saved_number (Err SaveNoNet) = 6
saved_number (Err Room) = 20

abbrev pub saved_length : Result ℕ SaveError → ℕ
saved_length (Ok n) = n
saved_length (Err e) = 0

unfoldable pub save_answer : List ℕ → ℕ → Result ℕ SaveError
save_answer m room = cond (holds_net m) (cond (ltb room (end_in m)) (Err Room) (Ok (end_in m))) (Err SaveNoNet)

unfoldable pub save_output : List ℕ → List ℕ → List ℕ
save_output m out = cond (eqb (saved_number (save_answer m (length out))) 0) (splice out 0 (image_in m)) out

-- ---- step: "6 NONET (memory holds no net)", then the step's answer; memory then holds the net after the step
unfoldable pub step_answer : List ℕ → ℕ → Answer
step_answer m i = cond (holds_net m) (step (rules_held m) (state_held m) i).answer NoNet

unfoldable pub step_memory : List ℕ → ℕ → List ℕ
step_memory m i = cond (holds_net m) (memory_with (rules_held m) (step (rules_held m) (state_held m) i).after) m

-- ---- run: "7 LONG (over 4,096 steps, or fewer answer bytes than steps), 6 NONET, else 0 and one step answer each, answer bytes beyond unchanged"
abbrev pub ran_number : Result Unit RunError → ℕ
ran_number (Ok x) = 0
ran_number (Err Long) = 7
ran_number (Err RunNoNet) = 6

abbrev pub most_steps : ℕ
most_steps = 4096

unfoldable pub run_answer : List ℕ → List ℕ → ℕ → Result Unit RunError
run_answer m steps room =
    cond (ltb most_steps (length steps) || ltb room (length steps)) (Err Long) (cond (holds_net m) (Ok tt) (Err RunNoNet))

-- every step, in order, on the net that memory holds
unfoldable pub run_memory : List ℕ → List ℕ → ℕ → List ℕ
run_memory m steps room = cond (eqb (ran_number (run_answer m steps room)) 0) (memory_with (rules_held m) (final (rules_held m) (state_held m) steps)) m

unfoldable pub run_answers : List ℕ → List ℕ → List ℕ → List ℕ
run_answers m steps out =
    cond (eqb (ran_number (run_answer m steps (length out))) 0) (map number_of (answers (rules_held m) (state_held m) steps) ++ drop (length steps) out) out
