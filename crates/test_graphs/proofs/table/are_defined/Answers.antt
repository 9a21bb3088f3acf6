use Rattle.std.proofs.Common.{ℕ, ◌<◌, All, [], length, ◌≡◌, List, sym, subst, ap, ◌∙◌, rules, below_more, Vec}
use Rattle.std.specs.declared.alloc.Global.{Global}
use Rattle.std.proofs.lemmas.List.{get_or-map}
use Rattle.fv_signal.specs.headline.Value.{members}
use Rattle.fv_signal.specs.Rows.{graph_with}
use Rattle.test_graphs.proofs.table.are_defined.Goals as goal

pub loop-i-preserved : goal.loop-i-preserved
loop-i-preserved c =
    let n = length c.args.signals.now in let i = c.loop-i.i in
    let row : List ℕ = members (graph_with c.args.signals.now c.args.groups.now [] []) i in
    let all : All (λ s. s < n) c.deref.result.now = c.are_before.ensures (search rules) in
    let is : c.deref.result.now ≡ row =
    c.deref.ensures.value ∙ ap (λ (r : Vec ℕ Global). r.items) c.index-groups-i.is
    ∙ sym (get_or-map (λ (r : Vec ℕ Global). r.items) c.args.groups.now i c.index-groups-i.result [] c.loop-i-test.true) in
    below_more (λ k. All (λ s. s < n) (members (graph_with c.args.signals.now c.args.groups.now [] []) k)) i c.loop-i.invariant
    (subst (All (λ s. s < n)) is all)
