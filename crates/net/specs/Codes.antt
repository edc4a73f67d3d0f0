-- The numbers that stand for kinds in an image, and what each stands for. Assumes nothing.
use Rattle.std.specs.Prelude.{ℕ, cond, eqb, Result, Ok, Err}
use Rattle.belnap.specs.declared.Operator.TheVariants.{And as OpAnd, Or as OpOr, Consensus, Gather, Implies, Before}
use Rattle.net.specs.declared.codes.Unknown.{Unknown}
use Rattle.net.specs.declared.codes.Tag.{Tag}
use Rattle.net.specs.declared.codes.Tag.TheVariants.{Name, Variable, Binds, Any, Binder}
use Rattle.net.specs.declared.codes.Capability.{Capability}
use Rattle.net.specs.declared.codes.Capability.TheVariants.{Put, Take, Read}
use Rattle.net.specs.declared.codes.Condition.{Condition}
use Rattle.net.specs.declared.codes.Condition.TheVariants.{Always, Not, And, Or, Equal, Test, Dominates, Grants}
use Rattle.net.specs.declared.codes.Advice.{Advice}
use Rattle.net.specs.declared.codes.Advice.TheVariants.{Constant, Of, Not as AdviceNot, Two}

-- "0 name, 1 variable 0..7, 2 binds variable 0..7, 3 any, 4 binder"
abbrev pub tag_code : Tag → ℕ
tag_code Name = 0
tag_code Variable = 1
tag_code Binds = 2
tag_code Any = 3
tag_code Binder = 4

-- the tag that a number stands for
abbrev pub tag_of : ℕ → Result Tag Unknown
tag_of n =
    cond (eqb n 0) (Ok Name)
    (cond (eqb n 1) (Ok Variable)
    (cond (eqb n 2) (Ok Binds)
    (cond (eqb n 3) (Ok Any)
    (cond (eqb n 4) (Ok Binder)
    (Err (record {}))))))

-- put, take and read
abbrev pub capability_code : Capability → ℕ
capability_code Put = 1
capability_code Take = 2
capability_code Read = 3

-- the capability that a number stands for
abbrev pub capability_of : ℕ → Result Capability Unknown
capability_of n =
    cond (eqb n 1) (Ok Put)
    (cond (eqb n 2) (Ok Take)
    (cond (eqb n 3) (Ok Read)
    (Err (record {}))))

-- "1 always, 2 not, 3 and, 4 or, 5 equal, 6 test, 7 dominates, 8 grants"
abbrev pub condition_of : ℕ → Result Condition Unknown
condition_of n =
    cond (eqb n 1) (Ok Always)
    (cond (eqb n 2) (Ok Not)
    (cond (eqb n 3) (Ok And)
    (cond (eqb n 4) (Ok Or)
    (cond (eqb n 5) (Ok Equal)
    (cond (eqb n 6) (Ok Test)
    (cond (eqb n 7) (Ok Dominates)
    (cond (eqb n 8) (Ok Grants)
    (Err (record {})))))))))

-- "16 constant, 17 of a condition, 18 not, 19 and, 20 or, 21 consensus, 22 gather, 23 implies, 24 before"
abbrev pub advice_of : ℕ → Result Advice Unknown
advice_of n =
    cond (eqb n 16) (Ok Constant)
    (cond (eqb n 17) (Ok Of)
    (cond (eqb n 18) (Ok AdviceNot)
    (cond (eqb n 19) (Ok (Two OpAnd))
    (cond (eqb n 20) (Ok (Two OpOr))
    (cond (eqb n 21) (Ok (Two Consensus))
    (cond (eqb n 22) (Ok (Two Gather))
    (cond (eqb n 23) (Ok (Two Implies))
    (cond (eqb n 24) (Ok (Two Before))
    (Err (record {}))))))))))
