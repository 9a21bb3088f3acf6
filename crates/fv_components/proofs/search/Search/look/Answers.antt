use Rattle.std.proofs.Common.{◌≡◌, ◌<◌, length, sym, ◌∙◌, subst}
use Rattle.std.proofs.lemmas.List.{get_or_read}
use Rattle.std.proofs.lemmas.Result.{on_ok_weaker}
use Rattle.fv_components.specs.declared.search.Mark.TheVariants.{New, Open, Done}
use Rattle.fv_components.specs.inner.Search.{GoesOn, mark, work}
use Rattle.fv_components.specs.Reach.{next_of}
use Rattle.fv_components.specs.inner.Search.{state_of}
use Rattle.fv_components.proofs.Runs.{run_visits, run_collapses, run_skips}
use Rattle.fv_components.proofs.search.Search.look.Goals as goal

pub returns-in-New : goal.returns-in-New
returns-in-New c =
    let st = state_of c.args.self.now in
    let l : c.args.node < length st.marks = subst (λ k. c.args.node < k) (sym c.requires.running.search.marked.long) c.requires.held.inside in
    let e : mark st c.args.node ≡ New = sym (get_or_read st.marks c.args.node c.index.result.now l c.index.ensures New) ∙ c.in-New.is in
    on_ok_weaker c.visit.result (λ h. subst (λ s. GoesOn (next_of c.args.links.now) (length c.args.links.now) st (work (next_of c.args.links.now) st) s) (sym h)
    (run_visits c.requires.links c.requires.held e c.requires.running)) c.visit.ensures

pub returns-in-Open : goal.returns-in-Open
returns-in-Open c =
    let st = state_of c.args.self.now in
    let l : c.args.node < length st.marks = subst (λ k. c.args.node < k) (sym c.requires.running.search.marked.long) c.requires.held.inside in
    let e : mark st c.args.node ≡ Open c.in-Open.place = sym (get_or_read st.marks c.args.node c.index.result.now l c.index.ensures New) ∙ c.in-Open.is in
    let h = c.collapse.ensures in
    subst (λ s. GoesOn (next_of c.args.links.now) (length c.args.links.now) st (work (next_of c.args.links.now) st) s) (sym h.2)
    (run_collapses e c.requires.held h.1 c.requires.running)

pub returns-in-Done : goal.returns-in-Done
returns-in-Done c =
    let st = state_of c.args.self.now in
    let l : c.args.node < length st.marks = subst (λ k. c.args.node < k) (sym c.requires.running.search.marked.long) c.requires.held.inside in
    let e : mark st c.args.node ≡ Done c.in-Done.field-0 = sym (get_or_read st.marks c.args.node c.index.result.now l c.index.ensures New) ∙ c.in-Done.is in
    run_skips (next_of c.args.links.now) (length c.args.links.now) st c.args.node c.in-Done.field-0 e c.requires.running
