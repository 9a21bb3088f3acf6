use Rattle.std.proofs.Common.{Some, length}
use Rattle.std.proofs.lemmas.List.Elements.{All-pop}
use Rattle.fv_parse_tree.specs.Arena.{trees}
use Rattle.fv_parse_tree.proofs.lemmas.Arenas.{Waits}
use Rattle.fv_parse_tree.proofs.Progress.{folds_on}
use Rattle.fv_parse_tree.proofs.pending.join.Goals as goal

pub loop-part-preserved : goal.loop-part-preserved
loop-part-preserved c =
    folds_on (trees c.args.arena.now)
    (trees c.loop-part.arena) (trees c.push.new.self) c.loop-part.pending.items c.pop.new.self.items c.in-Some.part c.loop-part.tree c.in_ok-tree.tree _
    c.loop-part.invariant c.in-Some.ensures.items c.in_ok-tree.ensures.keeps c.in_ok-tree.ensures.inside c.in_ok-tree.ensures.is

pub push-requires : goal.push-requires
push-requires c = (
  (All-pop (Waits (length (trees c.loop-part.arena))) c.loop-part.pending.items c.pop.new.self.items
      (Some c.in-Some.part) c.in-Some.ensures.items c.loop-part.invariant.parts).1,
  c.loop-part.invariant.inside,
)
