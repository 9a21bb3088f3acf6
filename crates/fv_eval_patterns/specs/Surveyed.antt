-- What is known of diagrams and the nodes of a text as patterns (this project's profile).
use Rattle.std.specs.Prelude.{ℕ, List, Option}
use Rattle.fv_eval_patterns.specs.declared.survey.ShapeRow.{ShapeRow}

-- rows, with a bit for each node of the text; the rows of shapes, and of diagrams
pub record Surveyed : Type 0 where
  pub rows : List (List ℕ)
  pub steps : List (Option ShapeRow)
  pub diagrams : List (Option ℕ)
