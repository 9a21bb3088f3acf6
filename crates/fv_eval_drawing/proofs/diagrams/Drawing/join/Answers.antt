use Rattle.std.proofs.Common.{sym, subst}
use Rattle.fv_parse_grammar.specs.declared.form.Operator.{Operator}
use Rattle.fv_diagram.specs.Arena.{tree_of}
use Rattle.fv_rules.specs.headline.Rules.{joined}
use Rattle.fv_eval_drawing.specs.Makes.{Makes}
use Rattle.fv_eval_drawing.proofs.diagrams.Drawing.join.Goals as goal

pub returns-in-Recursion-clause-makes : goal.returns-in-Recursion-clause-makes
returns-in-Recursion-clause-makes c =
    let a = tree_of c.args.self.now.diagrams c.args.left in
    let b = tree_of c.args.self.now.diagrams c.args.right in
    subst (λ (o : Operator). Makes c.args.self.now c.put.new.self (joined o a b) c.put.result) (sym c.in-Recursion.is) c.put.ensures.makes

pub returns-in-Parallel-clause-makes : goal.returns-in-Parallel-clause-makes
returns-in-Parallel-clause-makes c =
    let a = tree_of c.args.self.now.diagrams c.args.left in
    let b = tree_of c.args.self.now.diagrams c.args.right in
    subst (λ (o : Operator). Makes c.args.self.now c.put-in-Parallel.new.self (joined o a b) c.put-in-Parallel.result)
    (sym c.in-Parallel.is) c.put-in-Parallel.ensures.makes

pub returns-in-Sequence-clause-makes : goal.returns-in-Sequence-clause-makes
returns-in-Sequence-clause-makes c =
    let a = tree_of c.args.self.now.diagrams c.args.left in
    let b = tree_of c.args.self.now.diagrams c.args.right in
    subst (λ (o : Operator). Makes c.args.self.now c.put-in-Sequence.new.self (joined o a b) c.put-in-Sequence.result)
    (sym c.in-Sequence.is) c.put-in-Sequence.ensures.makes

pub returns-in-Split-clause-makes : goal.returns-in-Split-clause-makes
returns-in-Split-clause-makes c =
    let a = tree_of c.args.self.now.diagrams c.args.left in
    let b = tree_of c.args.self.now.diagrams c.args.right in
    subst (λ (o : Operator). Makes c.args.self.now c.put-in-Split.new.self (joined o a b) c.put-in-Split.result)
    (sym c.in-Split.is) c.put-in-Split.ensures.makes

pub returns-in-Merge-clause-makes : goal.returns-in-Merge-clause-makes
returns-in-Merge-clause-makes c =
    let a = tree_of c.args.self.now.diagrams c.args.left in
    let b = tree_of c.args.self.now.diagrams c.args.right in
    subst (λ (o : Operator). Makes c.args.self.now c.put-in-Merge.new.self (joined o a b) c.put-in-Merge.result)
    (sym c.in-Merge.is) c.put-in-Merge.ensures.makes

pub returns-in-Infix-clause-makes : goal.returns-in-Infix-clause-makes
returns-in-Infix-clause-makes c =
    let a = tree_of c.args.self.now.diagrams c.args.left in
    let b = tree_of c.args.self.now.diagrams c.args.right in
    subst (λ (o : Operator). Makes c.args.self.now c.operate.new.self (joined o a b) c.operate.result) (sym c.in-Infix.is)
    c.operate.ensures.makes
