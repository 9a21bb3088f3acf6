use Rattle.std.proofs.Common.{◌∙◌, length, ap}
use Rattle.fv_parse.specs.Trees.{tree_in}
use Rattle.fv_parse.specs.headline.Definitions.{defined_by}
use Rattle.fv_parse.proofs.DefinitionLists.{items_on, items_end}
use Rattle.fv_parse.proofs.definitions.definitions_of.Goals as goal

pub loop-item-preserved : goal.loop-item-preserved
loop-item-preserved c =
    items_on c.args.tree.now c.items-items.result.now
    c.loop-item.item-index c.item-item.result c.loop-item.list.items _ c.defined_by.result c.loop-item-test.true c.in_ok-keep.ensures
    (c.defined_by.ensures ∙ ap (λ id. defined_by (length c.args.tree.now.tokens.tokens) (tree_in c.args.tree.now id)) c.item-item.is) c.loop-item.invariant

pub returns : goal.returns
returns c =
    items_end c.args.tree.now c.args.id
    c.items-items.result.now c.loop-item.item-index c.loop-item.list.items c.loop-item-test.false c.items-items.ensures.items c.loop-item.invariant
