-- Rows that hold by computing.
use Rattle.std.specs.Prelude.{◌≡◌, refl, [], ◌∷◌, codes, decimal}
use Rattle.fv_outside.specs.Role.TheVariants.{Controls}
use Rattle.fv_arity.specs.declared.refusal.ArityKind.TheVariants.{Split}
use Rattle.fv_top_report.specs.declared.refusal.Refusal.TheVariants.{TextTooLong, Arity}
use Rattle.fv_top_report.specs.headline.Lines.{row, row_of}
use Rattle.fv_top_report.specs.Lines.{status_of}

-- the row of a refusal, and a status that goes by the role
row_of_arity : row_of (Arity Split 2 3) ≡ row 16 3 (codes "Arity") (codes "split" ∷ decimal 2 ∷ decimal 3 ∷ [])
row_of_arity = refl

script_too_long : status_of (TextTooLong Controls) ≡ 4
script_too_long = refl
