-- A turn of `words::starts` passes the records of one owner and writes a start; at the end all 33 are written. Assumes nothing.
use Rattle.std.proofs.Common.{rules, ◌≡◌, ◌∙◌, ℕ, ◌/◌, ◌*◌, ◌≤◌, ◌<◌, ltb, length, get_or, length-set, arith}
use borrow.Author.Tests.{lt-ltb, le-ltb, tests}
use Rattle.std.proofs.lemmas.Iterator.{first_from_Range}
use Rattle.words.specs.Bytes.{blank}
use Rattle.words.specs.Tables.{count_below, starts_of}
use Rattle.words.proofs.First.{first_is, first_from}
use Rattle.words.proofs.Over.{over_turn, over_done}
use Rattle.words.proofs.Index.{starts_length, start_at}
use Rattle.words.proofs.starts.Goals as goal

-- what the search of a turn found, or else the number of records
found : (c : goal.After-unwrap_or-k)
    → let s = c.args.s.now in
    let w = c.args.w in
    let n = length s / w in
    let k = c.unwrap_or-k.result in
    let t = c.loop-t.t-counter in
    (k ≤ n) × ((j : ℕ) → j < k → get_or s (w * j) 0 < t) × (k < n → t ≤ get_or s (w * k) 0)
found c =
    let s = c.args.s.now in
    let w = c.args.w in
    let t = c.loop-t.t-counter in
    let No : ℕ → Type 0 = λ j. get_or s (w * j) 0 < t in
    let Yes : ℕ → Type 0 = λ j. t ≤ get_or s (w * j) 0 in
    let m = first_from_Range _ _ _ c.find.result Yes No c.find.ensures.ran (λ x q k. search (rules, tests)) (λ x q k. search (rules, tests)) in
    rw c.unwrap_or-k.ensures (first_from No Yes c.loop-t.k (length s / w) c.find.result c.loop-t.invariant.records c.loop-t.invariant.below m)

pub overflow_cast-start : goal.overflow_cast-start
overflow_cast-start c = let f = found c in omega (arith, f.0, c.requires.1)

pub loop-t-preserved : goal.loop-t-preserved
loop-t-preserved c =
    let l = c.loop-t in
    let a = c.args in
    let s = a.s.now in
    let n = length s / a.w in
    let f = found c in
    let v = c.unwrap_or-k.result in
    let k : count_below s a.w n l.t-counter ≡ v =
    first_is (λ i. ltb (get_or s (a.w * i) 0) l.t-counter) n v f.0 (λ j b. lt-ltb _ _ (f.1 j b)) (λ h. le-ltb _ _ (f.2 h)) in
    record {
      records = f.0;
      same_length = simp length-set l.invariant.same_length;
      written = over_turn (blank 33) l.start-items (starts_of a.w s) l.t-counter v (omega arith) (omega (arith, starts_length a.w s)) (start_at a.w s l.t-counter (omega arith) ∙ k) l.invariant.written;
      below = λ j b. let o = f.1 j b in omega arith;
    }

pub returns : goal.returns
returns c =
    let l = c.loop-t in
    let a = c.args in
    over_done (blank 33) l.start-items (starts_of a.w a.s.now) l.t-counter (omega arith) (omega (arith, starts_length a.w a.s.now)) l.invariant.written
