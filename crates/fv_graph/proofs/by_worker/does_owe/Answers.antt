use Rattle.std.proofs.Common.{◌==◌, ℕ, [], ap, sym, ◌∙◌}
use Rattle.std.specs.Global.{Vec}
use Rattle.std.specs.List.{list_any}
use Rattle.fv_graph.proofs.lemmas.Places.{found_times, get_map}
use Rattle.fv_graph.proofs.by_worker.does_owe.Goals as goal

pub returns : goal.returns
returns c =
    let same = c.deref.ensures.value ∙ ap (λ (v : Vec ℕ). v.items) c.index-owes-w.is
    ∙ sym (get_map (λ (v : Vec ℕ). v.items) c.args.owes.now c.args.w c.index-owes-w.result [] c.requires) in
    c.contains.ensures.value ∙ ap (list_any (λ y. y == c.args.edge)) same ∙ found_times c.args.edge _
