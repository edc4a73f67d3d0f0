-- One answer: for each public call, two results that satisfy its contract for the same entry coincide, in the answer and in every lent byte. Each
-- clause is an equation of the entry values, so both results are equal to one thing. What a caller learns of a call, `Learnt`, is its contract's
-- clauses as they stand in the source. Assumes nothing.
use mathlib.Core.Path.{◌≡◌, sym, ◌∙◌}
use contract.Lifetimes.{Lfts}
use borrow.Fn.Kinds.{Dens, res_t, ended_of}
use denote.Triple.Clauses.{AtExit}
use Rattle.monitor.proofs.check.Kinds as check-kinds
use Rattle.monitor.proofs.check.Reads as check
use Rattle.monitor.proofs.load.Kinds as load-kinds
use Rattle.monitor.proofs.load.Reads as load
use Rattle.monitor.proofs.save.Kinds as save-kinds
use Rattle.monitor.proofs.save.Reads as save
use Rattle.monitor.proofs.step.Kinds as step-kinds
use Rattle.monitor.proofs.step.Reads as step
use Rattle.monitor.proofs.run.Kinds as run-kinds
use Rattle.monitor.proofs.run.Reads as run
use Rattle.monitor.proofs.body.Kinds as body-kinds
use Rattle.monitor.proofs.body.Reads as body

-- check: the verdict
pub one_check : (κs : Lfts 1) (a : Dens κs check-kinds.ps) (r₁ r₂ : (res_t check-kinds.r κs).Denot) (s₁ s₂ : AtExit (ended_of 1 check-kinds.ps check-kinds.r) κs)
    → check.Learnt κs a r₁ s₁ → check.Learnt κs a r₂ s₂ → r₁ ≡ r₂
one_check κs a r₁ r₂ s₁ s₂ p q = p ∙ sym q

-- load: the verdict, and memory at exit
pub one_load : (κs : Lfts 2) (a : Dens κs load-kinds.ps) (r₁ r₂ : (res_t load-kinds.r κs).Denot) (s₁ s₂ : AtExit (ended_of 2 load-kinds.ps load-kinds.r) κs)
    → load.Learnt κs a r₁ s₁ → load.Learnt κs a r₂ s₂ → (r₁ ≡ r₂) × (s₁.1.0.now ≡ s₂.1.0.now)
one_load κs a r₁ r₂ s₁ s₂ p q = (p.0 ∙ sym q.0, p.1 ∙ sym q.1)

-- save: the answer, and the output at exit
pub one_save : (κs : Lfts 2) (a : Dens κs save-kinds.ps) (r₁ r₂ : (res_t save-kinds.r κs).Denot) (s₁ s₂ : AtExit (ended_of 2 save-kinds.ps save-kinds.r) κs)
    → save.Learnt κs a r₁ s₁ → save.Learnt κs a r₂ s₂ → (r₁ ≡ r₂) × (s₁.1.0.now ≡ s₂.1.0.now)
one_save κs a r₁ r₂ s₁ s₂ p q = (p.0 ∙ sym q.0, p.1 ∙ sym q.1)

-- step: the answer, and memory at exit
pub one_step : (κs : Lfts 1) (a : Dens κs step-kinds.ps) (r₁ r₂ : (res_t step-kinds.r κs).Denot) (s₁ s₂ : AtExit (ended_of 1 step-kinds.ps step-kinds.r) κs)
    → step.Learnt κs a r₁ s₁ → step.Learnt κs a r₂ s₂ → (r₁ ≡ r₂) × (s₁.0.now ≡ s₂.0.now)
one_step κs a r₁ r₂ s₁ s₂ p q = (p.0 ∙ sym q.0, p.1 ∙ sym q.1)

-- run: the answer, and memory and the answer bytes at exit
pub one_run : (κs : Lfts 3) (a : Dens κs run-kinds.ps) (r₁ r₂ : (res_t run-kinds.r κs).Denot) (s₁ s₂ : AtExit (ended_of 3 run-kinds.ps run-kinds.r) κs)
    → run.Learnt κs a r₁ s₁ → run.Learnt κs a r₂ s₂ → (r₁ ≡ r₂) × ((s₁.0.now ≡ s₂.0.now) × (s₁.1.1.0.now ≡ s₂.1.1.0.now))
one_run κs a r₁ r₂ s₁ s₂ p q = (p.0 ∙ sym q.0, (p.1.0 ∙ sym q.1.0, p.1.1 ∙ sym q.1.1))

-- body: the part's bytes, and where it stands in the image
pub one_body : (κs : Lfts 1) (a : Dens κs body-kinds.ps) (r₁ r₂ : (res_t body-kinds.r κs).Denot) (s₁ s₂ : AtExit (ended_of 1 body-kinds.ps body-kinds.r) κs)
    → body.Learnt κs a r₁ s₁ → body.Learnt κs a r₂ s₂ → (r₁.now ≡ r₂.now) × (r₁.ref_ptr ≡ r₂.ref_ptr)
one_body κs a r₁ r₂ s₁ s₂ p q = (p.0 ∙ sym q.0, p.1 ∙ sym q.1)
