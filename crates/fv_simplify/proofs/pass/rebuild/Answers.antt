use Rattle.std.proofs.Common.{◌≡◌, ℕ, List, subst, sym}
use Rattle.fv_signal.specs.headline.Value.{Graph, IsGraph}
use Rattle.fv_share.specs.Drafts.{AreDistinct, graph_of}
use Rattle.fv_simplify.specs.Rebuilt.{IsMarked, IsRebuilt}
use Rattle.fv_simplify.specs.Passing.{room_in}
use Rattle.fv_simplify.proofs.Closes.{both_ok}
use Rattle.fv_simplify.proofs.pass.rebuild.Goals as goal

pub returns-clause-rebuilt : goal.returns-clause-rebuilt
returns-clause-rebuilt c =
    let Same : Graph → Type 0 = λ h. (q : ℕ → ℕ) × IsRebuilt c.args.graph.now h q (room_in c.args.rooms.now) (IsMarked c.args.marks.now) in
    let of : List ℕ → Graph = λ outputs. graph_of c.fill.new.builder outputs in
    let made = of c.deref.result.now in
    let is_same = subst (λ outputs. IsGraph (of outputs) → Same (of outputs)) (sym c.deref.ensures.value) c.in_ok-outputs.ensures.rebuilt in
    both_ok c.finish.result (λ h. h ≡ made) (IsGraph made) Same (λ h e is. subst Same (sym e) (is_same is)) c.finish.ensures.graph c.finish.ensures.whole

pub returns-clause-shared : goal.returns-clause-shared
returns-clause-shared c =
    let of : List ℕ → Graph = λ outputs. graph_of c.fill.new.builder outputs in
    let made = of c.deref.result.now in
    let Shared : Graph → Type 0 = λ h. AreDistinct h.signals in
    both_ok c.finish.result (λ h. h ≡ made) (Shared made) Shared (λ h e is. subst Shared (sym e) is) c.finish.ensures.graph c.finish.ensures.shared
