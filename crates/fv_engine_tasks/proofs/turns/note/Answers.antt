use Rattle.std.proofs.Common.{arith, [], ◌∷◌, ◌++◌, ap, ◌∙◌}
use Rattle.fv_engine_tasks.specs.inner.Lines.{line_of}
use Rattle.fv_engine_tasks.proofs.turns.note.Goals as goal

pub push_reserved-requires : goal.push_reserved-requires
push_reserved-requires c = let r = c.requires.room in let k = c.args.lines.now.ok.0 in omega (arith, r, k)

pub returns-clause-lines : goal.returns-clause-lines
returns-clause-lines c =
    c.push_reserved.ensures.items ∙ ap (λ n. c.args.lines.now.items ++ line_of c.args.task n ∷ []) (c.len.ensures ∙ c.args.lines.now.ok.0)
