-- Texts put on a page one after the other are one text. Assumes nothing.
use Rattle.std.proofs.Common.{◌≡◌, ℕ, ◌≤◌, List, [], ◌++◌, length, refl, ◌∙◌, arith}
use Rattle.lines.specs.Pages.{Adds}
use Rattle.lines.specs.declared.Page.{Page}
use Rattle.lines.proofs.Texts.{put_then, put_same, put_none}

pub adds_then : {a b c : Page} {s t : List ℕ} → Adds s a b → Adds t b c → Adds (s ++ t) a c
adds_then p q = record {
  put = put_then (omega (arith, p.within, p.put.ends, p.same_length)) p.put q.put;
  same_bytes = q.same_bytes ∙ p.same_bytes;
  same_length = q.same_length ∙ p.same_length;
  within = q.within;
}

-- a text by another name
pub adds_same : {a b : Page} {s t : List ℕ} → s ≡ t → Adds s a b → Adds t a b
adds_same e p = record { put = put_same e p.put; same_bytes = p.same_bytes; same_length = p.same_length; within = p.within }

-- nothing put
pub adds_none : (a : Page) → a.at ≤ length a.bytes.now → Adds [] a a
adds_none a h = record { put = put_none a.bytes.now a.at; same_bytes = refl; same_length = refl; within = h }
