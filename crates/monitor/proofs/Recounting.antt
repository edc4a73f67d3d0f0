-- The starts of rows follow a step: it adds a row of the target, or takes one of the target's out, or leaves the rows as they are, and memory
-- holds a net before and after it, so that the rows are in order both times. Assumes nothing.
use mathlib.Core.Path.{◌≡◌, sym, ap, ◌∙◌}
use mathlib.Core.Bool.{Bool, true, false, cond}
use mathlib.Core.List.{List}
use Prim.Native.Nat.{ℕ, ◌<◌}
use native.Mathlib.Omega.{arith}
use lib.Dec.{T, eqb}
use lib.ListN.{get_or}
use Rattle.words.specs.Bytes.{Bytes}
use Rattle.words.specs.Lists.{remove_at}
use Rattle.words.specs.Tables.{Ordered, starts_more, starts_less}
use Rattle.words.proofs.Index.{start-some, starts_more_lem, starts_less_lem}
use Rattle.net.specs.Records.{row_width, no_row, read_row}
use Rattle.net.specs.Net.{State, Rules}
use Rattle.net.specs.Image.{body_in, rows_in}
use Rattle.format.specs.Format.{well_formed}
use Rattle.format.proofs.Ordered.{accepted_rows}
use Rattle.policy.specs.declared.Act.{Act}
use Rattle.stepping.specs.Step.{has_room, put_after, place_for, row_put, put, get, asking, step}
use Rattle.stepping.proofs.Keeps.{step_keeps}
use Rattle.monitor.specs.Memory.{image_in, holds_net, rules_held, state_held, starts_held}
use Rattle.monitor.specs.Plan.{stepped}
use Rattle.monitor.proofs.Holding.{holds_parts, held_formed, memory_holds, memory_bytes, state_back}
use Rattle.monitor.proofs.Asking.{contents_of}
use Rattle.monitor.proofs.Doing.{put_done, get_row, get_owner, get_done}
use Rattle.monitor.proofs.Stretches.{row-front}
use Rattle.monitor.proofs.Starts.{starts_same, starts_small}

module _ (m : List ℕ) (g : Bytes m) (e : holds_net m ≡ true) (i : ℕ) where
  abbrev r : Rules
  r = rules_held m

  abbrev s : State
  s = state_held m

  abbrev rows : List ℕ
  rows = body_in (image_in m) 5

  order : Ordered row_width rows
  order = accepted_rows (image_in m) (holds_parts m e).accepted

  -- starts that a row more, or one fewer, can move
  pub starts-more : (u : ℕ) → get_or (starts_held m) u 0 < 65535
  starts-more u = omega (arith, starts_small (image_in m) (contents_of (image_in m) (holds_parts m e).accepted) u)

  pub starts-fewer : (act : Act) (k : ℕ) → get act k ≡ asking r s i → (u : ℕ) → act.target < u → u < 33 → 0 < get_or (starts_held m) u 0
  starts-fewer act k p u h b =
      start-some (λ z. z.owner) no_row read_row row-front row_width rows order k (get_row m g e i act k p) u (rw (get_owner m g e i act k p) h) b

  -- ---- memory after the step
  module _ {n : List ℕ} (w : n ≡ stepped m i) where
    formed : T (well_formed (record { state = (step r s i).after; rules = r }))
    formed = step_keeps r s i (held_formed m g e)

    pub still : holds_net n ≡ true
    still = rw w (memory_holds r (step r s i).after formed)

    pub bytes_after : Bytes n
    bytes_after = rw w (memory_bytes r (step r s i).after formed)

    order_after : Ordered row_width (body_in (image_in n) 5)
    order_after = accepted_rows (image_in n) (holds_parts n still).accepted

    rows-after : rows_in (body_in (image_in n) 5) ≡ (step r s i).after.rows
    rows-after = ap (λ (l : List ℕ). (state_held l).rows) w ∙ ap (λ (z : State). z.rows) (state_back r (step r s i).after formed)

    module _ (act : Act) where
      abbrev t : ℕ
      t = act.target

      pub put_starts : put act ≡ asking r s i → (b : Bool) → has_room s act ≡ b → cond b (starts_more t (starts_held m)) (starts_held m) ≡ starts_held n
      put_starts p b q = pick b (rows-after ∙ ap (λ (z : State). z.rows) (sym (put_done m g e i act p)) ∙ ap (λ (z : Bool). (put_after s act z).rows) q)
        where
          pick : (b : Bool) → rows_in (body_in (image_in n) 5) ≡ (put_after s act b).rows → cond b (starts_more t (starts_held m)) (starts_held m) ≡ starts_held n
          pick true h = sym (starts_more_lem (λ z. z.owner) no_row read_row row-front row_width rows order (body_in (image_in n) 5) order_after (place_for t s.rows) (row_put act) h)
          pick false h = sym (starts_same rows (body_in (image_in n) 5) h)

      pub get_starts : (k : ℕ) → get act k ≡ asking r s i → (b : Bool) → eqb act.action.capability 2 ≡ b
          → cond b (starts_less t (starts_held m)) (starts_held m) ≡ starts_held n
      get_starts k p b q =
          pick b (rows-after ∙ ap (λ (z : State). z.rows) (sym (get_done m g e i act k p)) ∙ ap (λ (z : Bool). cond z (remove_at k s.rows) s.rows) q)
        where
          pick : (b : Bool) → rows_in (body_in (image_in n) 5) ≡ cond b (remove_at k s.rows) s.rows
              → cond b (starts_less t (starts_held m)) (starts_held m) ≡ starts_held n
          pick true h =
              sym (starts_less_lem (λ z. z.owner) no_row read_row row-front row_width rows order (body_in (image_in n) 5) order_after k (get_row m g e i act k p) h
              ∙ ap (λ (u : ℕ). starts_less u (starts_held m)) (get_owner m g e i act k p))
          pick false h = sym (starts_same rows (body_in (image_in n) 5) h)
