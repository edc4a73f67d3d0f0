-- A turn of `words::move_starts` moves one start more; at the end all past the owner have moved. Assumes nothing.
use Rattle.std.proofs.Common.{◌≡◌, ◌∙◌, ap, subst, refl, get_or, ◌+◌, ◌-◌, true, false, length, length-set, arith}
use borrow.Rule.Slice.PartMut.{mid_of}
use Rattle.words.specs.Tables.{Movable}
use Rattle.words.proofs.Over.{by_one, past, up, up_true, up_false, later, length-later, later_lent, later_next, later_turn, later_done, moved_changed}
use Rattle.words.proofs.move_starts.Goals as goal
use Rattle.words.proofs.move_starts.Goals.{then-this-ne0, else-this-ne0}

pub loop-start-init : goal.loop-start-init
loop-start-init g c =
    let a = c.args in
    let e : mid_of (c.min.result + 1) (33 - (c.min.result + 1)) a.starts.now ≡ later a.owner a.starts.now =
    rw c.min.ensures (later_lent a.owner a.starts.now c.told-starts) in
    record { same_length = ap length e ∙ length-later a.owner a.starts.now c.told-starts; written = e }

pub overflow_add-start : goal.overflow_add-start
overflow_add-start g c =
    let l = c.loop-start in
    let a = c.args in
    let m : Movable true a.owner a.starts.now = subst (λ b. Movable b a.owner a.starts.now) (up_true g.row.UP c.if-this-ne0.true) c.requires in
    let next = later_next (by_one (up g.row.UP)) a.owner a.starts.now c.told-starts l.start-items l.start-index (omega (arith, l.auto.start-items, l.invariant.same_length, c.loop-start-test.true)) l.invariant.written in
    omega (arith, next, m (past a.owner + l.start-index))

pub overflow_sub-start : goal.overflow_sub-start
overflow_sub-start g c =
    let l = c.loop-start in
    let a = c.args in
    let m : Movable false a.owner a.starts.now = subst (λ b. Movable b a.owner a.starts.now) (up_false g.row.UP c.if-this-ne0.false) c.requires in
    let next = later_next (by_one (up g.row.UP)) a.owner a.starts.now c.told-starts l.start-items l.start-index (omega (arith, l.auto.start-items, l.invariant.same_length, c.loop-start-test.true)) l.invariant.written in
    omega (arith, next, m (past a.owner + l.start-index) (omega arith) (omega (arith, l.auto.start-items, l.invariant.same_length, c.loop-start-test.true)))

pub loop-start-preserved : goal.loop-start-preserved
loop-start-preserved g c =
    let l = c.loop-start in
    let a = c.args in
    let v : c.if-this-ne0.start ≡ by_one (up g.row.UP) (get_or l.start-items l.start-index 0) =
    elim c.if-this-ne0.branch [
      | then-this-ne0 w ↦ rw (up_true g.row.UP w.if-this-ne0.true, w.start-is) refl
      | else-this-ne0 w ↦ rw (up_false g.row.UP w.if-this-ne0.false, w.start-is) refl
    ] in
    record {
      same_length = simp length-set l.invariant.same_length;
      written = later_turn (by_one (up g.row.UP)) a.owner a.starts.now c.told-starts l.start-items l.start-index c.if-this-ne0.start (omega (arith, l.auto.start-items, l.invariant.same_length, c.loop-start-test.true)) v l.invariant.written;
    }

pub returns : goal.returns
returns g c =
    let l = c.loop-start in
    let a = c.args in
    rw c.min.ensures (later_done (by_one (up g.row.UP)) a.owner a.starts.now c.told-starts l.start-items l.start-index (33 - past a.owner) (omega (arith, l.auto.start-items, l.invariant.same_length, c.loop-start-test.false)) refl l.invariant.written ∙ moved_changed (up g.row.UP) a.owner a.starts.now)
