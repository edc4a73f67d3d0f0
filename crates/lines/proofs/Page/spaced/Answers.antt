-- A turn of `Page::spaced` puts one number more, and so many numbers take at most 21 places each. Assumes nothing.
use Rattle.std.proofs.Common.{ℕ, ◌*◌, ◌≤◌, ◌<◌, List, length, take, arith, add-one}
use Rattle.std.proofs.Math.Seq.{take-suc, length-take-le}
use Rattle.lines.specs.Lines.{spaced}
use Rattle.lines.proofs.Texts.{spaced-append, spaced-length}
use Rattle.lines.proofs.Pages.{adds_then, adds_none}
use Rattle.lines.proofs.Page.spaced.Goals as goal

pub loop-n-init : goal.loop-n-init
unfolding spaced
loop-n-init c = adds_none _ (omega arith)

-- so many numbers end by then
ends : (l : List ℕ) (i : ℕ) → i ≤ length l → length (spaced (take i l)) ≤ 21 * i
ends l i h = omega (arith, spaced-length (take i l), length-take-le i l h)

pub gap-requires : goal.gap-requires
gap-requires c = omega (arith, ends c.args.numbers.now c.loop-n.n-index (omega arith))

pub loop-n-preserved : goal.loop-n-preserved
loop-n-preserved c =
    let h : c.loop-n.n-index < length c.args.numbers.now = omega arith in
    rw (add-one, take-suc c.args.numbers.now c.loop-n.n-index 0, spaced-append) (adds_then c.loop-n.invariant c.gap.ensures)
