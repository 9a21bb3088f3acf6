use Rattle.fv_split.specs.inner.Lists.{AreInfos}
use Rattle.fv_split.proofs.lists.infos.Given as goal

abbrev pub invariant-loop-l : goal.invariant-loop-l
invariant-loop-l l = AreInfos l.signals l.owners l.histories l.l l.infos.items
