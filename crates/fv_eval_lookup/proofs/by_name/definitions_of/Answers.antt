use Rattle.std.proofs.Common.{◌∙◌, ◌++◌, [], ap, arith}
use Rattle.std.specs.List.{cons_option}
use Rattle.std.proofs.lemmas.List.{take_all}
use Rattle.fv_eval_lookup.specs.ByName.{defined_in}
use Rattle.fv_eval_lookup.proofs.Named.{defined_more, are_defined}
use Rattle.fv_eval_lookup.proofs.by_name.definitions_of.Goals as goal

pub loop-id-preserved : goal.loop-id-preserved
loop-id-preserved c =
    defined_more c.args.tree.now c.items-items.result.now c.loop-id.id-index c.id-item.result c.loop-id.definitions.items _ c.loop-id-test.true
    c.id-item.is c.loop-id.invariant
    (c.in_ok-keep.ensures ∙ ap (λ o. c.loop-id.definitions.items ++ cons_option o []) c.defined_by.ensures)

pub returns : goal.returns
returns c =
    are_defined c.same_names.ensures.same c.args.tree.now c.args.list c.items-items.result.now c.loop-id.definitions.items
    c.items-items.ensures.items (omega arith) c.items-items.ensures.below
    (c.loop-id.invariant ∙ ap (defined_in c.args.tree.now) (take_all c.loop-id.id-index c.items-items.result.now c.loop-id-test.false))
