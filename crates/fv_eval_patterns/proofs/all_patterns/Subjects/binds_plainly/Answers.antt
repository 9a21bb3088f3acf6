use Rattle.std.proofs.Common.{◌∙◌, ◌++◌, ap, sym, subst, arith}
use Rattle.fv_eval_scopes.proofs.lemmas.Added.{adds_longer}
use Rattle.fv_eval_patterns.specs.declared.all_patterns.Matching.{Matching}
use Rattle.fv_eval_patterns.specs.Trials.{AddsBound, Binds, Recalls}
use Rattle.fv_eval_patterns.proofs.lemmas.LongPatterns.{recalls_still}
use Rattle.fv_eval_patterns.proofs.Parametric.{walked, walked_to_none}
use Rattle.fv_eval_patterns.proofs.all_patterns.Subjects.binds_plainly.Goals.{then-is_long+in_ok-keep_few, else-is_long}
use Rattle.fv_eval_patterns.proofs.all_patterns.Subjects.binds_plainly.Goals as goal

pub returns-in_err-matches_diagram-clause-recalls : goal.returns-in_err-matches_diagram-clause-recalls
returns-in_err-matches_diagram-clause-recalls c =
    recalls_still c.args.self.now.tree.now c.args.matching.now.diagrams.now c.matches_diagram.new.diagrams c.args.matching.now.trials.now
    c.in_err-matches_diagram.ensures.adds c.requires.recalls

pub returns-then-not-branch-clause-recalls : goal.returns-then-not-branch-clause-recalls
returns-then-not-branch-clause-recalls c =
    recalls_still c.args.self.now.tree.now c.args.matching.now.diagrams.now c.matches_diagram.new.diagrams c.args.matching.now.trials.now
    c.in_ok-matches_diagram.ensures.adds c.requires.recalls

pub returns-then-not-branch-clause-answers : goal.returns-then-not-branch-clause-answers
returns-then-not-branch-clause-answers c =
    walked_to_none c.args.self.now.tree.now c.args.matching.now.diagrams.now c.matches_diagram.new.diagrams c.args.pair c.in_ok-matches_diagram.field-0
    c.new-bound.result.items c.matches_diagram.new.found.items c.new-bound.ensures.items c.if-not-branch.true c.in_ok-matches_diagram.ensures.matched

pub returns-in_err-keep_few-clause-recalls : goal.returns-in_err-keep_few-clause-recalls
returns-in_err-keep_few-clause-recalls c =
    let p = c.args.self.now.tree.now in
    let old = c.args.matching.now.diagrams.now in
    let new = c.matches_diagram.new.diagrams in
    let x = c.args.pair in
    let adds = c.in_ok-matches_diagram.ensures.adds in
    let longer = adds_longer old new adds in
    let bound = walked p old new x c.in_ok-matches_diagram.field-0 c.new-bound.result.items c.matches_diagram.new.found.items c.new-bound.ensures.items
    c.if-not-branch.false adds c.requires.pair.diagram c.in_ok-matches_diagram.ensures.matched in
    c.keep_few.ensures p new (recalls_still p old new c.args.matching.now.trials.now adds c.requires.recalls) (omega (arith, longer, c.requires.pair.diagram))
    (subst (Binds p new x) (sym c.as_slice.ensures.value) bound)

pub returns-in_err-extend_from_slice-clause-recalls : goal.returns-in_err-extend_from_slice-clause-recalls
returns-in_err-extend_from_slice-clause-recalls c =
    let p = c.args.self.now.tree.now in
    let old = c.args.matching.now.diagrams.now in
    let new = c.matches_diagram.new.diagrams in
    let x = c.args.pair in
    let adds = c.in_ok-matches_diagram.ensures.adds in
    let longer = adds_longer old new adds in
    let bound = walked p old new x c.in_ok-matches_diagram.field-0 c.new-bound.result.items c.matches_diagram.new.found.items c.new-bound.ensures.items
    c.if-not-branch.false adds c.requires.pair.diagram c.in_ok-matches_diagram.ensures.matched in
    let still = recalls_still p old new c.args.matching.now.trials.now adds c.requires.recalls in
    elim c.if-is_long.branch [
      | then-is_long+in_ok-keep_few w ↦
          subst (λ (m : Matching). Recalls p m.diagrams.now m.trials.now) (sym w.matching-is)
          (w.keep_few.ensures p new still (omega (arith, longer, c.requires.pair.diagram))
          (subst (Binds p new x) (sym w.as_slice.ensures.value) bound))
      | else-is_long w ↦ subst (λ (m : Matching). Recalls p m.diagrams.now m.trials.now) (sym w.matching-is) still
    ]

pub returns-clause-recalls : goal.returns-clause-recalls
returns-clause-recalls c =
    let p = c.args.self.now.tree.now in
    let old = c.args.matching.now.diagrams.now in
    let new = c.matches_diagram.new.diagrams in
    let x = c.args.pair in
    let adds = c.in_ok-matches_diagram.ensures.adds in
    let longer = adds_longer old new adds in
    let bound = walked p old new x c.in_ok-matches_diagram.field-0 c.new-bound.result.items c.matches_diagram.new.found.items c.new-bound.ensures.items
    c.if-not-branch.false adds c.requires.pair.diagram c.in_ok-matches_diagram.ensures.matched in
    let still = recalls_still p old new c.args.matching.now.trials.now adds c.requires.recalls in
    elim c.if-is_long.branch [
      | then-is_long+in_ok-keep_few w ↦
          subst (λ (m : Matching). Recalls p m.diagrams.now m.trials.now) (sym w.matching-is)
          (w.keep_few.ensures p new still (omega (arith, longer, c.requires.pair.diagram))
          (subst (Binds p new x) (sym w.as_slice.ensures.value) bound))
      | else-is_long w ↦ subst (λ (m : Matching). Recalls p m.diagrams.now m.trials.now) (sym w.matching-is) still
    ]

pub returns-clause-answers : goal.returns-clause-answers
returns-clause-answers c =
    let p = c.args.self.now.tree.now in
    let old = c.args.matching.now.diagrams.now in
    let new = c.matches_diagram.new.diagrams in
    let x = c.args.pair in
    let before = c.args.found.now.items in
    let found = c.matches_diagram.new.found.items in
    let after = c.extend_from_slice.new.self.items in
    let adds : AddsBound p new x before after = record {
      found = found;
      is = c.in_ok-extend_from_slice.ensures.items ∙ ap (λ ys. before ++ ys) c.as_slice-2.ensures.value;
      binds = walked p old new x c.in_ok-matches_diagram.field-0 c.new-bound.result.items found c.new-bound.ensures.items c.if-not-branch.false
          c.in_ok-matches_diagram.ensures.adds c.requires.pair.diagram c.in_ok-matches_diagram.ensures.matched;
    } in
    elim c.if-is_long.branch [
      | then-is_long+in_ok-keep_few w ↦ subst (λ (m : Matching). AddsBound p m.diagrams.now x before after) (sym w.matching-is) adds
      | else-is_long w ↦ subst (λ (m : Matching). AddsBound p m.diagrams.now x before after) (sym w.matching-is) adds
    ]
