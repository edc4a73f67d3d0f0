-- `monitor::held` meets its contract: test by test. Assumes nothing.
use Rattle.std.specs.Prelude.{MatchOption}
use Rattle.std.specs.Bool.{then_some}
use Rattle.std.proofs.Common.{rules, ◌≡◌, sym, ◌∙◌, ℕ, Bool, true, false, List, take, Option, None, Ok}
use Rattle.format.specs.Verdict.{is_accepted, verdict_of}
use Rattle.monitor.specs.declared.accepted.Accepted.{Accepted}
use Rattle.monitor.specs.Memory.{image_in, holds_net}
use Rattle.monitor.proofs.Calls.{holds_not_size, holds_not_end, holds_not_image, holds_zeros}
use Rattle.monitor.proofs.held.Goals as goal

abbrev Holds : List ℕ → Option Accepted → Type 0
Holds m r = MatchOption r (holds_net m ≡ false) (λ image. (image.bytes.now ≡ image_in m) × (holds_net m ≡ true))

none : (m : List ℕ) {r : Option Accepted} → r ≡ None → holds_net m ≡ false → Holds m r
none m e h = rw e h

-- the image, if there are zeros behind it
by_zeros : (m : List ℕ) (x : Accepted) {r : Option Accepted} {z : Bool} → r ≡ then_some z x → z ≡ holds_net m → x.bytes.now ≡ image_in m → Holds m r
by_zeros m x {r} {z} e h i = rw e (pick z h)
  where
    pick : (z : Bool) → z ≡ holds_net m → Holds m (then_some z x)
    pick true h = (i, sym h)
    pick false h = sym h

pub returns-then-memory-ne-MEMORY : goal.returns-then-memory-ne-MEMORY
returns-then-memory-ne-MEMORY c = holds_not_size c.args.memory.now c.if-memory-ne-MEMORY.true

pub returns-then-end-gt-MEMORY : goal.returns-then-end-gt-MEMORY
returns-then-end-gt-MEMORY c = holds_not_end c.args.memory.now c.if-memory-ne-MEMORY.false (rw (← c.end-end.ensures.0) c.if-end-gt-MEMORY.true)

pub returns-in_err-bytes : goal.returns-in_err-bytes
returns-in_err-bytes c =
    let m = c.args.memory.now in
    let a : is_accepted (verdict_of (take c.end-end.result m)) ≡ false = search rules in
    none m c.from_residual.ensures (holds_not_image m c.if-memory-ne-MEMORY.false (rw c.end-end.ensures.0 at a))

pub returns : goal.returns
returns c =
    let m = c.args.memory.now in
    let b : c.in_ok-bytes.field-0.bytes.now ≡ take c.end-end.result m = search rules in
    let a : verdict_of (take c.end-end.result m) ≡ Ok tt = search rules in
    by_zeros m _ c.then_some.ensures (c.zeros_from.ensures ∙ rw (c.end-end.ensures.0, holds_zeros m c.if-memory-ne-MEMORY.false (rw c.end-end.ensures.0 at a)))
    (b ∙ rw c.end-end.ensures.0)
