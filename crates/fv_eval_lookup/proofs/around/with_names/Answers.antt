use Rattle.std.proofs.Common.{List, subst}
use Rattle.std.proofs.lemmas.List.{take_all}
use Rattle.fv_eval_scopes.specs.Tries.{AreThere, IsWith}
use Rattle.fv_eval_lookup.specs.declared.around.TheConstants.{NAME_BITS}
use Rattle.fv_eval_lookup.specs.declared.by_name.Defined.{Defined}
use Rattle.fv_eval_lookup.proofs.Arounds.{HasNames, names_begin, names_more, names_nested}
use Rattle.fv_eval_lookup.proofs.around.with_names.Goals as goal

pub loop-defined-init : goal.loop-defined-init
loop-defined-init c = names_begin c.args.tries.now c.args.list c.args.around c.listed-listed.result.now

pub loop-defined-preserved : goal.loop-defined-preserved
loop-defined-preserved c =
    let mid = c.loop-defined.tries in
    let new = c.with.new.self in
    let root = c.loop-defined.root in
    let name = c.defined-item.result.name in
    names_more c.args.tries.now mid new c.args.list c.args.around root c.in_ok-root.root c.loop-defined.defined-index
    c.listed-listed.result.now c.defined-item.result c.loop-defined-test.true c.defined-item.is c.in_ok-root.ensures.grown
    (subst (λ k. AreThere mid NAME_BITS root → IsWith mid new NAME_BITS root name k c.in_ok-root.root) c.number.ensures c.in_ok-root.ensures.with)
    c.loop-defined.invariant

pub returns-clause-nested : goal.returns-clause-nested
returns-clause-nested c = λ there.
    let old = c.args.tries.now in
    let new = c.loop-defined.tries in
    let ds = c.listed-listed.result.now in
    names_nested c.args.definitions.now old new c.args.list c.args.around c.loop-defined.root ds c.listed-listed.ensures
    (subst (λ (xs : List Defined). HasNames old new c.args.list c.args.around c.loop-defined.root xs)
    (take_all c.loop-defined.defined-index ds c.loop-defined-test.false) c.loop-defined.invariant) there
