use Rattle.std.proofs.Common.{subst}
use Rattle.fv_pool.specs.Layout.{HaveRoom}
use Rattle.fv_engine.specs.Stands.{EngineView, HaveLengths}
use Rattle.fv_engine.proofs.Shown.{have_lengths}
use Rattle.fv_engine.proofs.engine.Engine.layout.Goals as goal

pub returns-clause-lanes : goal.returns-clause-lanes
returns-clause-lanes c =
    let e = c.self.inside in
    subst (λ (x : EngineView). HaveLengths x.plan x.block e.lanes.layout) c.self.view_is (have_lengths e c.self.invariant)

pub returns-clause-room : goal.returns-clause-room
returns-clause-room c =
    let e = c.self.inside in subst (λ (x : EngineView). HaveRoom e.lanes.layout x.region) c.self.view_is e.lanes.entries.3
