-- What putting a text on a page leaves. Assumes nothing.
use Rattle.std.specs.Prelude.{◌≡◌, ◌≤◌, ℕ, List, length}
use Rattle.lines.specs.Lines.{Put}
use Rattle.lines.specs.declared.Page.{Page}

-- a text put where a page was filled to: the page is of the same lent bytes, as many as before, and is filled to the end of the text
pub record Adds (text : List ℕ) (old new : Page) : Type 0 where
  pub put : Put old.bytes.now old.at text new.bytes.now new.at
  pub same_bytes : new.bytes.ghost_name ≡ old.bytes.ghost_name
  pub same_length : length new.bytes.now ≡ length old.bytes.now
  pub within : new.at ≤ length new.bytes.now
