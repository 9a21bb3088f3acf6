use Rattle.std.proofs.Common.{◌<◌, Some}
use Rattle.std.proofs.lemmas.List.Elements.{All-pop}
use Rattle.fv_parse_tree.specs.declared.node.TreeId.{TreeId}
use Rattle.fv_parse_tree.specs.Arena.{trees}
use Rattle.fv_parse.specs.Trees.{size_of}
use Rattle.fv_parse.proofs.Visiting.{visit, below_pushed}
use Rattle.fv_parse.proofs.definitions.names_in.Goals as goal

pub node-node-requires : goal.node-node-requires
node-node-requires c =
    (All-pop (λ (i : TreeId). i < size_of c.args.tree.now) c.loop-next.stack.items c.pop.new.self.items
    (Some c.in-Some.next) c.in-Some.ensures.items c.loop-next.invariant.inside).1

pub loop-next-smaller : goal.loop-next-smaller
loop-next-smaller c =
    (visit (size_of c.args.tree.now) (trees c.args.tree.now.entries) c.loop-next.stack.items
    c.pop.new.self.items c.push_parts.new.stack.items c.in-Some.next c.node-node.result.now _ c.loop-next.names.items c.push_name.new.names.items _
    c.in-Some.ensures.items c.node-node.ensures.tree c.in_ok-push_name.ensures c.in_ok-push_parts.ensures c.loop-next.invariant.so_far).lighter

pub loop-next-preserved : goal.loop-next-preserved
loop-next-preserved c =
    let both = All-pop (λ (i : TreeId). i < size_of c.args.tree.now) c.loop-next.stack.items c.pop.new.self.items
    (Some c.in-Some.next) c.in-Some.ensures.items c.loop-next.invariant.inside in
    record {
      inside = below_pushed c.in-Some.next (size_of c.args.tree.now)
          c.pop.new.self.items c.push_parts.new.stack.items c.node-node.result.now both.0 c.node-node.ensures.parts both.1 c.in_ok-push_parts.ensures;
      so_far =
          (visit (size_of c.args.tree.now) (trees c.args.tree.now.entries) c.loop-next.stack.items c.pop.new.self.items
          c.push_parts.new.stack.items c.in-Some.next c.node-node.result.now _ c.loop-next.names.items c.push_name.new.names.items _
          c.in-Some.ensures.items c.node-node.ensures.tree c.in_ok-push_name.ensures c.in_ok-push_parts.ensures c.loop-next.invariant.so_far).so_far;
    }
