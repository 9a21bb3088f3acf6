use Rattle.std.proofs.Common.{◌≡◌, ◌<◌, ◌≤◌, ◌-◌, length, sym, ◌∙◌, subst, arith, ap}
use Rattle.std.proofs.lemmas.List.{get_or_read}
use Rattle.fv_components.specs.declared.search.Class.{Class}
use Rattle.fv_components.specs.inner.Search.{no_class, GoesOn, class, work}
use Rattle.fv_components.specs.Reach.{next_of}
use Rattle.fv_components.specs.inner.Search.{state_of}
use Rattle.fv_components.proofs.Runs.{run_closes, run_held, run_popped}
use Rattle.fv_components.proofs.search.Search.turn.Goals as goal

pub returns-then-len-last-clause-goes : goal.returns-then-len-last-clause-goes
returns-then-len-last-clause-goes c =
    let st = state_of c.args.self.now in
    let z : c.len.result - 1 ≡ length st.classes - 1 = omega arith in
    let e : c.index-last.result.now ≡ class st (length st.classes - 1) =
    get_or_read st.classes (c.len.result - 1) c.index-last.result.now (omega arith) c.index-last.ensures no_class ∙ ap (class st) z in
    let w = ap (λ (x : Class). x.waiting) e in
    let spent : length st.pending ≤ (class st (length st.classes - 1)).waiting = omega arith in
    subst (λ s. GoesOn (next_of c.args.links.now) (length c.args.links.now) st (work (next_of c.args.links.now) st - 1) s) (sym c.close.ensures)
    (run_closes c.requires.some c.requires.running spent)

pub returns-then-len-last-clause-work : goal.returns-then-len-last-clause-work
returns-then-len-last-clause-work c =
    let st = state_of c.args.self.now in
    let some : 0 < length st.classes = c.requires.some in
    omega (arith, (returns-then-len-last-clause-goes c).less)

pub look-requires-clause-held : goal.look-requires-clause-held
look-requires-clause-held c =
    let st = state_of c.args.self.now in
    let z : c.len.result - 1 ≡ length st.classes - 1 = omega arith in
    let e : c.index-last.result.now ≡ class st (length st.classes - 1) =
    get_or_read st.classes (c.len.result - 1) c.index-last.result.now (omega arith) c.index-last.ensures no_class ∙ ap (class st) z in
    let w = ap (λ (x : Class). x.waiting) e in
    let more : (class st (length st.classes - 1)).waiting < length st.pending = omega arith in
    run_held c.pop.new.self.items c.in-Some.node c.in-Some.ensures.items c.requires.some more c.requires.running

pub look-requires-clause-running : goal.look-requires-clause-running
look-requires-clause-running c =
    let st = state_of c.args.self.now in
    let z : c.len.result - 1 ≡ length st.classes - 1 = omega arith in
    let e : c.index-last.result.now ≡ class st (length st.classes - 1) =
    get_or_read st.classes (c.len.result - 1) c.index-last.result.now (omega arith) c.index-last.ensures no_class ∙ ap (class st) z in
    let w = ap (λ (x : Class). x.waiting) e in
    let more : (class st (length st.classes - 1)).waiting < length st.pending = omega arith in
    run_popped c.pop.new.self.items c.in-Some.node c.in-Some.ensures.items c.requires.some more c.requires.running
