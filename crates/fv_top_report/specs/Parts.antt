-- A part from the front of what was to be written.
use Rattle.std.specs.Prelude.{ℕ, List}
use Rattle.fv_outside.specs.Role.{Role}
use Rattle.fv_outside.specs.Lists.{IsPrefixOf}
use Rattle.fv_outside.specs.headline.Desk.{DeskState}
use Rattle.fv_outside.specs.Desk.{Appends}

-- a part of these bytes from their front was appended
abbrev pub AppendsPart : Role → (bytes : List ℕ) → (old new : DeskState) → Type 0
AppendsPart role bytes old new = (part : List ℕ) × IsPrefixOf part bytes × Appends role part old new
