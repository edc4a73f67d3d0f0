-- A turn of `words::zeros` sees one byte more of each half; at the end what was seen decides. Assumes nothing.
use Rattle.std.proofs.Common.{◌∙◌, ap, ℕ, ◌/◌, nat_eq, length, arith}
use Rattle.words.proofs.Halves.{seen_none, seen_more, seen_all, seen_last}
use Rattle.words.proofs.zeros.Goals as goal
use Rattle.words.proofs.zeros.Goals.{then-half-s, else-half-s}

pub loop-j-init : goal.loop-j-init
loop-j-init c = let s = c.args.s.now in seen_none s (length s / 2)

pub loop-j-preserved : goal.loop-j-preserved
loop-j-preserved c =
    let l = c.loop-j in
    seen_more c.args.s.now _ l.j l.seen (omega arith) (omega arith) l.invariant

pub returns : goal.returns
returns c =
    let l = c.loop-j in
    let s = c.args.s.now in
    elim c.if-half-s.branch [
      | then-half-s w ↦ ap (λ (n : ℕ). nat_eq n 0) w.seen-is ∙ seen_last s _ l.j l.seen (omega arith) (omega arith) l.invariant
      | else-half-s w ↦ ap (λ (n : ℕ). nat_eq n 0) w.seen-is ∙ seen_all s _ l.j l.seen (omega arith) (omega arith) l.invariant
    ]
