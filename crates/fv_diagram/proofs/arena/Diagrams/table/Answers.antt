use Rattle.std.proofs.Common.{◌++◌, ◌∷◌, [], ap, ◌∙◌, arith}
use Rattle.fv_diagram.specs.Diagram.{AreNumbers}
use Rattle.fv_diagram.proofs.lemmas.Trees.{lists_snoc, listed_trees, listed_arena}
use Rattle.fv_diagram.proofs.arena.Diagrams.table.Goals.{In_ok-values}
use Rattle.fv_diagram.proofs.arena.Diagrams.table.Goals as goal

-- the list has numbers
are_numbers : (c : In_ok-values) → AreNumbers c.args.values.now
are_numbers c = record {
  some = c.requires;
  counted = record { sfits = omega (arith, c.if-values.false) };
  each = c.in_ok-values.ensures.numbers;
}

pub invariant_of-self-2 : goal.invariant_of-self-2
invariant_of-self-2 c =
    lists_snoc c.self.inside.entries.items c.self.inside.lists.items _ c.args.values.now c.self.invariant
    (are_numbers (goal.at.invariant_of-self-2 c).In_ok-values)
    (c.in_ok-push.ensures.items ∙ ap (λ v. c.self.inside.lists.items ++ v ∷ []) c.in_ok-values.ensures.same)

pub returns-clause-numbers : goal.returns-clause-numbers
returns-clause-numbers c = are_numbers (goal.at.returns-clause-numbers c).In_ok-values

pub returns-clause-keeps : goal.returns-clause-keeps
returns-clause-keeps c i l =
    listed_trees c.args.self.now _ c.self.inside.entries.items c.self.inside.lists.items c.args.values.now i c.self.view_is c.self.invariant
    (listed_arena c.args.self.now c.self.inside.entries.items c.self.inside.lists.items _ c.args.values.now c.self.view_is
    (c.in_ok-push.ensures.items ∙ ap (λ v. c.self.inside.lists.items ++ v ∷ []) c.in_ok-values.ensures.same))
