use Rattle.std.proofs.Common.{sym, subst}
use Rattle.fv_parse_grammar.specs.Iteration.{Iteration as Repetition}
use Rattle.fv_num.specs.declared.op.Op.TheVariants as op
use Rattle.fv_rules.specs.headline.Rules.{gathered}
use Rattle.fv_eval_drawing.specs.Makes.{Makes, MakesValue, trees_of}
use Rattle.fv_eval_drawing.specs.Lists.{all_from_left}
use Rattle.fv_eval_drawing.proofs.lemmas.Gathered.{gathers_parallel, gathers_sequence, gathers_sum, gathers_product}
use Rattle.fv_eval_drawing.proofs.diagrams.Drawing.gather.Goals as goal

pub returns-in-Parallel-clause-makes : goal.returns-in-Parallel-clause-makes
returns-in-Parallel-clause-makes c =
    let ds = trees_of c.args.self.now.diagrams c.args.bodies.items in
    subst (λ (k : Repetition). MakesValue c.args.self.now c.from_right.new.self (gathered k ds) c.from_right.result) (sym c.in-Parallel.is)
    (gathers_parallel c.args.self.now c.from_right.new.self ds c.from_right.result c.from_right.ensures.makes)

pub returns-in-Sequence-clause-makes : goal.returns-in-Sequence-clause-makes
returns-in-Sequence-clause-makes c =
    let ds = trees_of c.args.self.now.diagrams c.args.bodies.items in
    subst (λ (k : Repetition). MakesValue c.args.self.now c.from_right-in-Sequence.new.self
    (gathered k ds) c.from_right-in-Sequence.result) (sym c.in-Sequence.is)
    (gathers_sequence c.args.self.now c.from_right-in-Sequence.new.self ds c.from_right-in-Sequence.result c.from_right-in-Sequence.ensures.makes)

pub returns-in-Sum-clause-makes : goal.returns-in-Sum-clause-makes
returns-in-Sum-clause-makes c =
    let ds = trees_of c.args.self.now.diagrams c.args.bodies.items in
    let made = subst (λ is. Makes c.args.self.now c.all_from_left.new.self
    (all_from_left op.Add (trees_of c.args.self.now.diagrams is)) c.all_from_left.result)
    c.as_slice.ensures.value c.all_from_left.ensures.makes in
    subst (λ (k : Repetition). MakesValue c.args.self.now c.all_from_left.new.self (gathered k ds) c.all_from_left.result)
    (sym c.in-Sum.is) (gathers_sum c.args.self.now c.all_from_left.new.self ds c.all_from_left.result made)

pub returns-in-Product-clause-makes : goal.returns-in-Product-clause-makes
returns-in-Product-clause-makes c =
    let ds = trees_of c.args.self.now.diagrams c.args.bodies.items in
    let made = subst (λ is. Makes c.args.self.now c.all_from_left-in-Product.new.self
    (all_from_left op.Mul (trees_of c.args.self.now.diagrams is))
    c.all_from_left-in-Product.result) c.as_slice-in-Product.ensures.value c.all_from_left-in-Product.ensures.makes in
    subst (λ (k : Repetition). MakesValue c.args.self.now c.all_from_left-in-Product.new.self
    (gathered k ds) c.all_from_left-in-Product.result) (sym c.in-Product.is)
    (gathers_product c.args.self.now c.all_from_left-in-Product.new.self ds c.all_from_left-in-Product.result made)
