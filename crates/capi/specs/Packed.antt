-- What the exported calls return: the answers of the public calls, packed into one number. Assumes nothing.
use Rattle.std.specs.Prelude.{ℕ, ◌+◌, ◌*◌, cond, List, eqb, length, Result}
use Rattle.net.specs.Image.{offset_in}
use Rattle.format.specs.Verdict.{number_of, record_of, body_of}
use Rattle.format.specs.declared.Refusal.{Refusal}
use Rattle.monitor.specs.Memory.{saved_number, saved_length}
use Rattle.monitor.specs.declared.SaveError.{SaveError}

-- number + 256 · record
abbrev pub packed_verdict : Result Unit Refusal → ℕ
packed_verdict v = number_of v + 256 * record_of v

-- number + 256 · length
abbrev pub packed_saved : Result ℕ SaveError → ℕ
packed_saved v = saved_number v + 256 * saved_length v

-- start + 2^32 · length, and 0 for the empty part
unfoldable pub packed_body : List ℕ → ℕ → ℕ
packed_body s kind = cond (eqb (length (body_of s kind)) 0) 0 (offset_in s kind + 4294967296 * length (body_of s kind))
