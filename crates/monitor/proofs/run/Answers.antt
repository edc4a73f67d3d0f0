-- What the invariant leaves to show: it holds as the loop begins, each step keeps it, and at the end of the steps it is what `run` ensures.
use Rattle.std.proofs.Common.{rules, ◌≡◌, true, refl, ap, ◌∙◌, length, set, arith, None, Err}
use Rattle.monitor.specs.Memory.{holds_net, rules_held, state_held, run_memory}
use Rattle.monitor.specs.declared.RunError.TheVariants.{NoNet}
use Rattle.monitor.proofs.Holding.{held_memory, held_formed}
use Rattle.monitor.proofs.Running.{memory-next, answers_next, run_long, room_for_answers, run_none, run_through}
use Rattle.monitor.proofs.run.Goals as goal

pub returns-then-steps-answers : goal.returns-then-steps-answers
returns-then-steps-answers c =
    let h = run_long c.args.memory.now c.args.steps.now c.args.answers.now c.if-steps-answers.true in
    record { value = h.0; memory_after = h.1.0; answers_after = h.1.1 }

pub returns-in_err-image : goal.returns-in_err-image
returns-in_err-image c =
    let a : c.from_residual.result ≡ Err NoNet = search rules in
    let e : c.held.result ≡ None = search rules in
    let h = run_none c.args.memory.now c.args.steps.now c.args.answers.now c.if-steps-answers.false (rw e at c.held.ensures) in
    record { value = rw a h.0; memory_after = h.1.0; answers_after = h.1.1 }

pub loop-i-init : goal.loop-i-init
loop-i-init c =
    let e : holds_net c.args.memory.now ≡ true = search rules in
    record { memory_is = held_memory c.args.memory.now (λ k. search rules) e; answers_are = refl; same_memory = refl }

pub loop-i-preserved : goal.loop-i-preserved
loop-i-preserved c =
    let m = c.args.memory.now in
    let e : holds_net m ≡ true = search rules in
    let r = rules_held m in
    let s = state_held m in
    let steps = c.args.steps.now in
    let out = c.args.answers.now in
    let formed = held_formed m (λ k. search rules) e in
    let room = room_for_answers m steps out c.if-steps-answers.false in
    let l = c.loop-i in
    let inv = l.invariant in
    let t = c.step.ensures in
    record {
      memory_is = memory-next r s formed steps l.i inv.memory_is c.loop-i-test.true (rw c.from.ensures at t.memory_after);
      answers_are =
          ap (set l.answers l.i) c.from-in-loop-i.ensures
          ∙ answers_next r s formed steps l.i inv.memory_is c.loop-i-test.true l.answers out (omega (arith, room)) inv.answers_are (rw c.from.ensures at t.value);
      same_memory = t.same_memory ∙ inv.same_memory;
    }

pub returns : goal.returns
returns c =
    let m = c.args.memory.now in
    let e : holds_net m ≡ true = search rules in
    let l = c.loop-i in
    let h = run_through m c.args.steps.now c.args.answers.now c.if-steps-answers.false e l.i (omega arith) l.invariant.memory_is l.invariant.answers_are in
    let after : l.net.memory.now ≡ run_memory m c.args.steps.now (length c.args.answers.now) = h.1.0 in
    record { value = h.0; memory_after = search (rules, after); answers_after = h.1.1 }
