use Rattle.std.proofs.Common.{[], length, ◌-◌}
use Rattle.fv_base.specs.declared.role.Role.TheVariants.{Input}
use Rattle.fv_outside.specs.headline.Desk.{KeepsFaults}
use Rattle.fv_outside.specs.Desk.{Takes}
use Rattle.fv_au.specs.Looking.{ahead_of}
use Rattle.fv_au.proofs.ahead.Ahead.peek.Given as goal

abbrev pub invariant-bytes : goal.invariant-bytes
invariant-bytes g l = record {
  left : Takes Input [] (ahead_of l.fn.self.desk.ghost_name l.fn.self.kept (g.D.Desk.state l.fn.self.desk.now))
      (ahead_of l.self.desk.ghost_name l.self.kept (g.D.Desk.state l.self.desk.now));
  steady : KeepsFaults (g.D.Desk.state l.fn.self.desk.now) (g.D.Desk.state l.self.desk.now);
}

abbrev pub decreases-bytes : goal.decreases-bytes
decreases-bytes g l = 4 - length l.self.kept
