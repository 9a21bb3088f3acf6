use Rattle.std.proofs.Common.{◌++◌, ◌∷◌, [], refl, sym, ap}
use Rattle.fv_eval_scopes.proofs.lemmas.Added.{adds_on}
use Rattle.fv_eval_patterns.proofs.lemmas.Matched.{taken_off, left_by, refused_by, loop_begins, pair_next, loop_goes_on, loop_falls, loop_refuses}
use Rattle.fv_eval_patterns.proofs.all_patterns.Subjects.matches_diagram.Goals as goal

-- the whole was tried alone
pub returns-then-not-branch-clause-matched : goal.returns-then-not-branch-clause-matched
returns-then-not-branch-clause-matched c =
    let new = c.advance.new in
    let found = c.args.found.now.items in
    let begun = loop_begins c.args.self.now.tree.now c.args.diagrams.now c.args.numbers.now c.args.whole (c.args.whole ∷ []) found c.requires.known
    c.requires.whole refl in
    let refuses = refused_by c.args.self.now.tree.now c.args.diagrams.now new.diagrams c.args.whole c.new-pending.result.items new.pending.items found
    new.found.items _ c.if-not-branch.true c.in_ok-advance.ensures.matched in
    loop_refuses {rest = []} new.diagrams new.found.items begun (record { is = refl }) refuses

pub loop-pair-init : goal.loop-pair-init
loop-pair-init c =
    let new = c.advance.new in
    let found = c.args.found.now.items in
    let begun = loop_begins c.args.self.now.tree.now c.args.diagrams.now c.args.numbers.now c.args.whole (c.args.whole ∷ []) found c.requires.known
    c.requires.whole refl in
    let leaves = left_by c.args.self.now.tree.now c.args.diagrams.now new.diagrams c.args.whole c.new-pending.result.items new.pending.items found
    new.found.items _ c.if-not-branch.false c.in_ok-advance.ensures.matched in
    loop_goes_on begun (record { is = ap (λ xs. xs ++ c.args.whole ∷ []) (sym c.new-pending.ensures.items) }) c.in_ok-advance.ensures.adds
    c.in_ok-advance.ensures.known leaves

pub advance-requires-in-Some-clause-pair : goal.advance-requires-in-Some-clause-pair
advance-requires-in-Some-clause-pair c = pair_next c.loop-pair.invariant (taken_off c.pop.new.self.items c.pop.ensures.items c.in-Some.is)

pub returns-in_err-advance-2-clause-adds : goal.returns-in_err-advance-2-clause-adds
returns-in_err-advance-2-clause-adds c =
    adds_on c.args.diagrams.now c.loop-pair.diagrams c.advance-in-Some.new.diagrams c.loop-pair.invariant.adds c.in_err-advance-2.ensures.adds

pub returns-then-not-branch-2-clause-adds : goal.returns-then-not-branch-2-clause-adds
returns-then-not-branch-2-clause-adds c =
    adds_on c.args.diagrams.now c.loop-pair.diagrams c.advance-in-Some.new.diagrams c.loop-pair.invariant.adds c.in_ok-advance-2.ensures.adds

pub returns-then-not-branch-2-clause-matched : goal.returns-then-not-branch-2-clause-matched
returns-then-not-branch-2-clause-matched c =
    let now = c.loop-pair in
    let new = c.advance-in-Some.new in
    let refuses = refused_by c.args.self.now.tree.now now.diagrams new.diagrams c.in-Some.pair c.pop.new.self.items new.pending.items now.found.items
    new.found.items _ c.if-not-branch-2.true c.in_ok-advance-2.ensures.matched in
    loop_refuses new.diagrams new.found.items now.invariant (taken_off c.pop.new.self.items c.pop.ensures.items c.in-Some.is) refuses

pub loop-pair-smaller : goal.loop-pair-smaller
loop-pair-smaller c =
    let now = c.loop-pair in
    let new = c.advance-in-Some.new in
    let leaves = left_by c.args.self.now.tree.now now.diagrams new.diagrams c.in-Some.pair c.pop.new.self.items new.pending.items now.found.items
    new.found.items _ c.if-not-branch-2.false c.in_ok-advance-2.ensures.matched in
    loop_falls now.invariant (taken_off c.pop.new.self.items c.pop.ensures.items c.in-Some.is) leaves

pub loop-pair-preserved : goal.loop-pair-preserved
loop-pair-preserved c =
    let now = c.loop-pair in
    let new = c.advance-in-Some.new in
    let leaves = left_by c.args.self.now.tree.now now.diagrams new.diagrams c.in-Some.pair c.pop.new.self.items new.pending.items now.found.items
    new.found.items _ c.if-not-branch-2.false c.in_ok-advance-2.ensures.matched in
    loop_goes_on now.invariant (taken_off c.pop.new.self.items c.pop.ensures.items c.in-Some.is) c.in_ok-advance-2.ensures.adds
    c.in_ok-advance-2.ensures.known leaves
