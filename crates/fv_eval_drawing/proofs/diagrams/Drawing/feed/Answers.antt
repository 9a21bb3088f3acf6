use Rattle.std.proofs.Common.{length, ap, ◌∙◌, arith, vec_len}
use Rattle.fv_diagram.specs.headline.Diagram.{inputs}
use Rattle.fv_diagram.specs.Arena.{tree_of}
use Rattle.fv_rules.specs.headline.Rules.{all_outputs}
use Rattle.fv_eval_drawing.specs.Makes.{trees_of}
use Rattle.fv_eval_drawing.proofs.lemmas.Gathered.{AreFor, feeds, feeds_refused}
use Rattle.fv_eval_drawing.proofs.Fed.{not_empty, not_less, none_of}
use Rattle.fv_eval_drawing.proofs.diagrams.Drawing.feed.Goals.{Else-inputs-given}
use Rattle.fv_eval_drawing.proofs.diagrams.Drawing.feed.Goals as goal

-- the function takes the arguments
are_for : (c : Else-inputs-given)
    → AreFor (tree_of c.args.self.now.diagrams c.args.function) c.in_ok-given.given
    (trees_of c.args.self.now.diagrams c.args.arguments.items)
are_for c =
    let a = c.args.self.now.diagrams in
    let given = c.args.arguments in
    let f = tree_of a c.args.function in record {
      given = c.in_ok-given.ensures ∙ ap (λ is. all_outputs (trees_of a is)) c.as_slice.ensures.value;
      few = not_less (inputs f) c.in_ok-given.given c.arity.result.inputs c.from-inputs.result c.arity.ensures.arity.0 c.from-inputs.ensures
          c.if-inputs-given.false;
      some = none_of a given.items (not_empty c.is_empty.result (vec_len given) (length given.items) c.is_empty.ensures c.if-is_empty.false
          (omega (arith, given.ok.0)));
    }

pub returns-in-Ok-clause-makes : goal.returns-in-Ok-clause-makes
returns-in-Ok-clause-makes c =
    let a = c.args.self.now in
    let b = c.fill.new.self in
    feeds a b c.lead.new.self (tree_of a.diagrams c.args.function) (tree_of b.diagrams c.args.function) c.lead.result c.in_ok-given.given
    (trees_of a.diagrams c.args.arguments.items) (trees_of b.diagrams c.in-Ok.parts.items) c.in-Ok.ensures.sides.1
    (c.in-Ok.ensures.adds.keeps.trees c.args.function c.requires.function) c.lead.ensures.makes
    (are_for (goal.at.returns-in-Ok-clause-makes c).Else-inputs-given)

pub returns-in-Err-clause-makes : goal.returns-in-Err-clause-makes
returns-in-Err-clause-makes c =
    let a = c.args.self.now in
    feeds_refused a c.fill.new.self (tree_of a.diagrams c.args.function) c.in-Err.refusal c.in_ok-given.given
    (trees_of a.diagrams c.args.arguments.items) c.in-Err.ensures.sides (are_for (goal.at.returns-in-Err-clause-makes c).Else-inputs-given)
