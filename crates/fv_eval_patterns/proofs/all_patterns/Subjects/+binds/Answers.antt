use Rattle.std.proofs.Common.{◌≡◌, IfSome, drop, length, rules, sym, subst, arith}
use Rattle.std.specs.Bool.{MatchBool}
use Rattle.fv_eval_scopes.proofs.lemmas.Added.{adds_longer, adds_on}
use Rattle.fv_eval_patterns.specs.Patterns.{IsPair}
use Rattle.fv_eval_patterns.specs.Trials.{AddsBound, AreHalves, Binds, Misses}
use Rattle.fv_eval_patterns.proofs.lemmas.Matched.{pair_stays}
use Rattle.fv_eval_patterns.proofs.Parametric.{both_bind, bound_behind, second_misses}
use Rattle.fv_eval_patterns.proofs.all_patterns.Subjects.+binds.Goals as goal

pub binds-requires-2 : goal.binds-requires-2
binds-requires-2 t c =
    let p = c.args.self.now.tree.now in
    let old = c.args.matching.now.diagrams.now in
    let mid = c.binds.new.matching.diagrams.now in
    let halves : AreHalves p old c.args.pair c.in-Some-2.halves =
    subst (λ o. IfSome o (AreHalves p old c.args.pair)) c.in-Some-2.is c.in_ok-halves.ensures.halves in
    let pair : IsPair p mid c.in-Some-2.halves.1 = pair_stays p old mid c.in-Some-2.halves.1 c.in_ok-binds.ensures.adds halves.second in
    search rules

pub returns-in_err-binds-2-clause-adds : goal.returns-in_err-binds-2-clause-adds
returns-in_err-binds-2-clause-adds t c =
    adds_on c.args.matching.now.diagrams.now c.binds.new.matching.diagrams.now c.binds-2.new.matching.diagrams.now
    c.in_ok-binds.ensures.adds c.in_err-binds-2.ensures.adds

pub returns-then-not-branch-2-clause-adds : goal.returns-then-not-branch-2-clause-adds
returns-then-not-branch-2-clause-adds t c =
    adds_on c.args.matching.now.diagrams.now c.binds.new.matching.diagrams.now c.binds-2.new.matching.diagrams.now
    c.in_ok-binds.ensures.adds c.in_ok-binds-2.ensures.adds

pub returns-then-not-branch-2-clause-answers : goal.returns-then-not-branch-2-clause-answers
returns-then-not-branch-2-clause-answers t c =
    let p = c.args.self.now.tree.now in
    let old = c.args.matching.now.diagrams.now in
    let mid = c.binds.new.matching.diagrams.now in
    let lr = c.in-Some-2.halves in
    let halves : AreHalves p old c.args.pair lr = subst (λ o. IfSome o (AreHalves p old c.args.pair)) c.in-Some-2.is c.in_ok-halves.ensures.halves in
    let misses : Misses p mid lr.1 =
    subst (λ b. MatchBool b (AddsBound p c.binds-2.new.matching.diagrams.now lr.1 c.binds.new.found.items c.binds-2.new.found.items) (Misses p mid lr.1))
    c.if-not-branch-2.true c.in_ok-binds-2.ensures.answers in
    second_misses p old mid c.args.pair lr halves c.in_ok-binds.ensures.adds misses

pub returns-in_err-keep_few-clause-adds : goal.returns-in_err-keep_few-clause-adds
returns-in_err-keep_few-clause-adds t c =
    adds_on c.args.matching.now.diagrams.now c.binds.new.matching.diagrams.now c.binds-2.new.matching.diagrams.now
    c.in_ok-binds.ensures.adds c.in_ok-binds-2.ensures.adds

pub returns-clause-adds : goal.returns-clause-adds
returns-clause-adds t c =
    adds_on c.args.matching.now.diagrams.now c.binds.new.matching.diagrams.now c.binds-2.new.matching.diagrams.now
    c.in_ok-binds.ensures.adds c.in_ok-binds-2.ensures.adds

pub returns-clause-answers : goal.returns-clause-answers
returns-clause-answers t c =
    let p = c.args.self.now.tree.now in
    let old = c.args.matching.now.diagrams.now in
    let mid = c.binds.new.matching.diagrams.now in
    let new = c.binds-2.new.matching.diagrams.now in
    let lr = c.in-Some-2.halves in
    let before = c.args.found.now.items in
    let between = c.binds.new.found.items in
    let after = c.binds-2.new.found.items in
    let halves : AreHalves p old c.args.pair lr = subst (λ o. IfSome o (AreHalves p old c.args.pair)) c.in-Some-2.is c.in_ok-halves.ensures.halves in
    let first : AddsBound p mid lr.0 before between =
    subst (λ b. MatchBool b (AddsBound p mid lr.0 before between) (Misses p old lr.0)) c.if-not-branch.false c.in_ok-binds.ensures.answers in
    let second : AddsBound p new lr.1 between after =
    subst (λ b. MatchBool b (AddsBound p new lr.1 between after) (Misses p mid lr.1)) c.if-not-branch-2.false c.in_ok-binds-2.ensures.answers in
    both_bind halves c.requires.pair c.in_ok-binds.ensures.adds c.in_ok-binds-2.ensures.adds first second

pub returns-in_err-keep_few-clause-recalls : goal.returns-in_err-keep_few-clause-recalls
returns-in_err-keep_few-clause-recalls t c =
    let p = c.args.self.now.tree.now in
    let old = c.args.matching.now.diagrams.now in
    let mid = c.binds.new.matching.diagrams.now in
    let new = c.binds-2.new.matching.diagrams.now in
    let lr = c.in-Some-2.halves in
    let before = c.args.found.now.items in
    let between = c.binds.new.found.items in
    let after = c.binds-2.new.found.items in
    let halves : AreHalves p old c.args.pair lr = subst (λ o. IfSome o (AreHalves p old c.args.pair)) c.in-Some-2.is c.in_ok-halves.ensures.halves in
    let first : AddsBound p mid lr.0 before between =
    subst (λ b. MatchBool b (AddsBound p mid lr.0 before between) (Misses p old lr.0)) c.if-not-branch.false c.in_ok-binds.ensures.answers in
    let second : AddsBound p new lr.1 between after =
    subst (λ b. MatchBool b (AddsBound p new lr.1 between after) (Misses p mid lr.1)) c.if-not-branch-2.false c.in_ok-binds-2.ensures.answers in
    let both = both_bind halves c.requires.pair c.in_ok-binds.ensures.adds c.in_ok-binds-2.ensures.adds first second in
    let o = c.args.found.now.ok.0 in
    let n : c.len-before.result ≡ length before = omega (arith, o, c.len-before.ensures) in
    let longer = adds_longer old new (adds_on old mid new c.in_ok-binds.ensures.adds c.in_ok-binds-2.ensures.adds) in
    c.keep_few.ensures p new c.in_ok-binds-2.ensures.recalls (omega (arith, longer, c.requires.pair.diagram))
    (subst (λ us. Binds p new c.args.pair (drop c.len-before.result us)) (sym c.as_slice.ensures.value) (bound_behind c.len-before.result both n))

pub returns-clause-recalls : goal.returns-clause-recalls
returns-clause-recalls t c =
    let p = c.args.self.now.tree.now in
    let old = c.args.matching.now.diagrams.now in
    let mid = c.binds.new.matching.diagrams.now in
    let new = c.binds-2.new.matching.diagrams.now in
    let lr = c.in-Some-2.halves in
    let before = c.args.found.now.items in
    let between = c.binds.new.found.items in
    let after = c.binds-2.new.found.items in
    let halves : AreHalves p old c.args.pair lr = subst (λ o. IfSome o (AreHalves p old c.args.pair)) c.in-Some-2.is c.in_ok-halves.ensures.halves in
    let first : AddsBound p mid lr.0 before between =
    subst (λ b. MatchBool b (AddsBound p mid lr.0 before between) (Misses p old lr.0)) c.if-not-branch.false c.in_ok-binds.ensures.answers in
    let second : AddsBound p new lr.1 between after =
    subst (λ b. MatchBool b (AddsBound p new lr.1 between after) (Misses p mid lr.1)) c.if-not-branch-2.false c.in_ok-binds-2.ensures.answers in
    let both = both_bind halves c.requires.pair c.in_ok-binds.ensures.adds c.in_ok-binds-2.ensures.adds first second in
    let o = c.args.found.now.ok.0 in
    let n : c.len-before.result ≡ length before = omega (arith, o, c.len-before.ensures) in
    let longer = adds_longer old new (adds_on old mid new c.in_ok-binds.ensures.adds c.in_ok-binds-2.ensures.adds) in
    c.keep_few.ensures p new c.in_ok-binds-2.ensures.recalls (omega (arith, longer, c.requires.pair.diagram))
    (subst (λ us. Binds p new c.args.pair (drop c.len-before.result us)) (sym c.as_slice.ensures.value) (bound_behind c.len-before.result both n))
