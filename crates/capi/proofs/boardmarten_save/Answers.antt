-- `capi::boardmarten_save` meets its contract: the number and the length, packed, and the output that the save leaves. Assumes nothing.
use Rattle.capi.proofs.Parts.{saved_small}
use Rattle.capi.proofs.boardmarten_save.Goals as goal

pub packed_saved-requires : goal.packed_saved-requires
packed_saved-requires c = rw c.save.ensures.value (saved_small _ _)
