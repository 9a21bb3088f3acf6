-- Indexes of rules at their places (this project's profile).
use Rattle.std.specs.Prelude.{List, All}
use Rattle.fv_parse.specs.Trees.{Parsed}
use Rattle.fv_eval_lookup.specs.declared.index.RuleIndex.{RuleIndex}
use Rattle.fv_eval_scopes.specs.Shows.{rules_in}
use Rattle.fv_eval_lookup.specs.Leaving.{IsIndex}

-- each index is of the rules at its place
abbrev pub AreIndexes : Parsed → List RuleIndex → Type 0
AreIndexes p xs = All (λ (x : RuleIndex). IsIndex (rules_in p x.ruled) x) xs
