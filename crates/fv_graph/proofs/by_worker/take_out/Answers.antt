use Rattle.std.proofs.Common.{length, sym, ap, ◌∙◌, ◌==◌, nat_lt}
use Rattle.std.specs.List.{position, position_or_len, remove}
use Rattle.fv_graph.proofs.lemmas.Places.{without_at, without_none, chosen_some, chosen_none}
use Rattle.fv_graph.proofs.by_worker.take_out.Goals as goal

pub returns-in-Some-clause-items : goal.returns-in-Some-clause-items
returns-in-Some-clause-items c =
    let k = c.deref.ensures.value in let xs = c.args.owed.now.items in
    let h = c.in-Some.ensures ∙ ap (position (λ e. e == c.args.edge)) k in
    c.remove.ensures.items
    ∙ ap (remove xs) (chosen_some (nat_lt (position_or_len (λ e. e == c.args.edge) xs) (length xs))
    (position_or_len (λ e. e == c.args.edge) xs) c.in-Some.i h) ∙ sym (without_at c.args.edge xs)

pub returns-in_default-clause-items : goal.returns-in_default-clause-items
returns-in_default-clause-items c =
    let k = c.deref.ensures.value in let xs = c.args.owed.now.items in
    let h = sym (c.place_of.ensures ∙ ap (position (λ e. e == c.args.edge)) k) ∙ c.in_default.is in
    sym (without_none c.args.edge xs
    (chosen_none (nat_lt (position_or_len (λ e. e == c.args.edge) xs) (length xs)) (position_or_len (λ e. e == c.args.edge) xs) h))
