-- What a reader met is in its history: HS after a take or read dominates the class and the history of the store. Assumes nothing.
use Prim.Native.Nat.{ℕ}
use lib.Dec.{T}
use Rattle.level.specs.Level.{dominates, join}
use Rattle.level.proofs.Laws.{dominates_trans, join_left, join_right}
use Rattle.net.specs.declared.Site.{Site}
use Rattle.stepping.specs.Step.{informed}

pub informed_knows : (o ho : ℕ) (x : Site) → T (dominates (informed o ho x).hs o) × T (dominates (informed o ho x).hs ho)
informed_knows o ho x =
    let known = join x.hs o in
    (dominates_trans (join known ho) known o (join_left known ho) (join_right x.hs o), join_right known ho)
