-- The rows of refusals, as the code has them.
use Rattle.std.specs.Prelude.{ℕ, List, [], ◌∷◌, decimal}
use Rattle.std.specs.Fmt.{signed_decimal}
use Rattle.fv_top_report.specs.declared.line.Field.{Field}
use Rattle.fv_top_report.specs.declared.line.Field.TheVariants.{Word, Natural, Integer}
use Rattle.fv_top_report.specs.declared.line.Fields.{Fields}
use Rattle.fv_top_report.specs.declared.line.Fields.TheVariants.{None, One, Two, Three}
use Rattle.fv_top_report.specs.declared.line.Row.{Row as Table}
use Rattle.fv_top_report.specs.headline.Lines.{Row, row}

-- a field as it is printed
abbrev pub printed : Field → List ℕ
printed (Word word) = word.now
printed (Natural n) = decimal n
printed (Integer z) = signed_decimal z

-- the fields as they are printed
abbrev pub listed : Fields → List (List ℕ)
listed None = []
listed (One a) = printed a ∷ []
listed (Two a b) = printed a ∷ printed b ∷ []
listed (Three a b c) = printed a ∷ printed b ∷ printed c ∷ []

-- a row as it is printed
abbrev pub shown : Table → Row
shown r = row r.number r.status r.name.now (listed r.fields)
