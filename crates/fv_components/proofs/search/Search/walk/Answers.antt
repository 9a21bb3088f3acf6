use Rattle.std.proofs.Common.{◌≢◌, ◌<◌, length, sym, subst}
use Rattle.fv_components.specs.declared.search.Mark.TheVariants.{New}
use Rattle.fv_components.specs.inner.Search.{GoesOn, mark, work}
use Rattle.fv_components.specs.Reach.{next_of}
use Rattle.fv_components.specs.inner.Search.{state_of}
use Rattle.fv_components.proofs.Runs.{root_goes, root_met}
use Rattle.fv_components.proofs.search.Search.walk.Goals as goal

pub loop-self-init : goal.loop-self-init
loop-self-init c =
    let st = state_of c.args.self.now in
    let next = next_of c.args.links.now in
    let l : c.args.root < length st.marks = subst (λ k. c.args.root < k) (sym c.requires.running.search.marked.long) c.requires.root in
    let g = subst (λ s. GoesOn next (length c.args.links.now) st (work next st) s) (sym c.in_ok-visit.ensures)
    (root_goes next (length c.args.links.now) st c.args.root c.requires.links c.requires.root c.requires.empty c.requires.new c.requires.running) in
    record { running = g.running; met = g.met; root = subst (λ s. mark s c.args.root ≢ New) (sym c.in_ok-visit.ensures) (root_met next st c.args.root l) }
