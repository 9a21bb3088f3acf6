use Rattle.std.proofs.Common.{ℕ, Option, ap, ◌∙◌}
use Rattle.std.specs.Option.{unwrap_or}
use Rattle.fv_ready.proofs.Found.{found, found_some}
use Rattle.fv_ready.proofs.seat.place_of.Goals as goal

pub returns : goal.returns
returns c = let f = found c.args.edges.now c.args.edge c.requires in
    let at = c.unwrap_or.ensures
    ∙ ap (λ (o : Option ℕ). unwrap_or o 0) (c.first_place.ensures ∙ found_some c.args.edges.now c.args.edge c.requires) in
    (f.xs, f.ys, f.is, at ∙ f.at, f.first)
