use Rattle.std.proofs.Common.{◌≢◌, length}
use Rattle.fv_components.specs.declared.search.Mark.TheVariants.{New}
use Rattle.fv_components.specs.inner.Search.{IsRunning, StaysMet, mark, work, none}
use Rattle.fv_components.specs.Reach.{next_of}
use Rattle.fv_components.specs.inner.Search.{state_of}
use Rattle.fv_components.proofs.search.Search.walk.Given as goal

abbrev pub invariant-loop-self : goal.invariant-loop-self
invariant-loop-self l = record {
  running : IsRunning (next_of l.links) (length l.links) none (state_of l.self);
  met : StaysMet (state_of l.fn.self) (state_of l.self);
  root : mark (state_of l.self) l.root ≢ New;
}

abbrev pub decreases-loop-self : goal.decreases-loop-self
decreases-loop-self l = work (next_of l.links) (state_of l.self)
