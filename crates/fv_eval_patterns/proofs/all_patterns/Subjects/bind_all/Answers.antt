use Rattle.std.proofs.Common.{◌∙◌, refl}
use Rattle.std.proofs.lemmas.Option.{slice_get_past}
use Rattle.fv_eval_scopes.proofs.lemmas.Added.{adds_on}
use Rattle.fv_eval_patterns.proofs.lemmas.InOrder.{patterns_begin, patterns_go_on, patterns_refuse, patterns_stop, next_of, tried_to}
use Rattle.fv_eval_patterns.proofs.lemmas.InOrder.{all_valid, valid_at}
use Rattle.fv_eval_patterns.proofs.all_patterns.Subjects.bind_all.Goals as goal

pub loop-i-init : goal.loop-i-init
loop-i-init c = record {
  recalls = c.requires.recalls;
  loans = refl;
  matches = patterns_begin c.args.self.now.tree.now c.args.patterns.now c.args.self.now.values.now c.args.matching.now.diagrams.now
      c.args.matching.now.numbers.now c.args.found.now.items c.requires.known;
}

pub loop-i-preserved : goal.loop-i-preserved
loop-i-preserved c =
    let new = c.matches_one.new in
    record {
      recalls = c.in_ok-matches_one.ensures.recalls;
      loans = c.in_ok-matches_one.ensures.loans ∙ c.loop-i.invariant.loans;
      matches = patterns_go_on c.loop-i.invariant.matches (next_of c.loop-i-test.true c.index-patterns-i.is c.if-i-values.false c.index-values-i.is)
          (tried_to c.args.self.now.tree.now c.index-patterns-i.result c.index-values-i.result _ _ c.loop-i.matching.diagrams.now new.matching.diagrams.now
          c.loop-i.found.items new.found.items
          c.if-not-branch.false c.in_ok-matches_one.ensures.adds c.in_ok-matches_one.ensures.matched) c.in_ok-matches_one.ensures.known;
    }

pub matches_one-requires-clause-value : goal.matches_one-requires-clause-value
matches_one-requires-clause-value c =
    let next = next_of c.loop-i-test.true c.index-patterns-i.is c.if-i-values.false c.index-values-i.is in
    let valid = all_valid c.args.matching.now.diagrams.now c.loop-i.matching.diagrams.now c.args.self.now.values.now
    c.loop-i.invariant.matches.adds c.requires.valid in
    valid_at c.loop-i.matching.diagrams.now c.args.self.now.values.now c.loop-i.i c.index-values-i.result valid next.got

pub returns-in_err-matches_one-clause-adds : goal.returns-in_err-matches_one-clause-adds
returns-in_err-matches_one-clause-adds c =
    adds_on c.args.matching.now.diagrams.now c.loop-i.matching.diagrams.now c.matches_one.new.matching.diagrams.now
    c.loop-i.invariant.matches.adds c.in_err-matches_one.ensures.adds

pub returns-then-not-branch-clause-adds : goal.returns-then-not-branch-clause-adds
returns-then-not-branch-clause-adds c =
    adds_on c.args.matching.now.diagrams.now c.loop-i.matching.diagrams.now c.matches_one.new.matching.diagrams.now
    c.loop-i.invariant.matches.adds c.in_ok-matches_one.ensures.adds

pub returns-then-not-branch-clause-matched : goal.returns-then-not-branch-clause-matched
returns-then-not-branch-clause-matched c =
    let new = c.matches_one.new in
    patterns_refuse c.loop-i.invariant.matches (next_of c.loop-i-test.true c.index-patterns-i.is c.if-i-values.false c.index-values-i.is)
    (tried_to c.args.self.now.tree.now c.index-patterns-i.result c.index-values-i.result _ _ c.loop-i.matching.diagrams.now new.matching.diagrams.now
    c.loop-i.found.items new.found.items
    c.if-not-branch.true c.in_ok-matches_one.ensures.adds c.in_ok-matches_one.ensures.matched)

pub returns-then-i-values-clause-matched : goal.returns-then-i-values-clause-matched
returns-then-i-values-clause-matched c =
    patterns_stop c.index-patterns-i.result c.loop-i.invariant.matches c.loop-i-test.true
    (slice_get_past c.args.self.now.values.now c.loop-i.i c.if-i-values.true)
