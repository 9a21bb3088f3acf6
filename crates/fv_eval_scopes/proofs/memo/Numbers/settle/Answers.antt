use Rattle.std.proofs.Common.{◌∙◌, sym, ap, rules, SFits, w32, to_z-of_z}
use Rattle.fv_diagram.specs.headline.Diagram.{Constant}
use Rattle.fv_diagram.specs.Arena.{tree_of}
use Rattle.fv_rules.specs.headline.Matching.{number_or}
use Rattle.fv_eval_scopes.proofs.lemmas.Added.{still_remembers}
use Rattle.fv_eval_scopes.proofs.memo.Numbers.settle.Goals as goal

pub returns-in_err-integer-in-Some-clause-known : goal.returns-in_err-integer-in-Some-clause-known
returns-in_err-integer-in-Some-clause-known c =
    still_remembers c.args.diagrams.now c.put_integer.new.diagrams c.number_of.new.self c.in_err-integer-in-Some.ensures.adds
    c.in_ok-number_of.ensures.known

pub returns-in_ok-integer-in-Some-clause-tree : goal.returns-in_ok-integer-in-Some-clause-tree
returns-in_ok-integer-in-Some-clause-tree c =
    let d = tree_of c.args.diagrams.now c.args.id in
    let f : SFits w32 c.in-Some.n = search rules in
    c.in_ok-integer-in-Some.ensures.tree ∙ ap Constant (to_z-of_z f) ∙ ap (λ o. number_or o d) (sym c.in-Some.is ∙ c.in_ok-number_of.ensures.number)

pub returns-in_ok-integer-in-Some-clause-known : goal.returns-in_ok-integer-in-Some-clause-known
returns-in_ok-integer-in-Some-clause-known c =
    still_remembers c.args.diagrams.now c.put_integer.new.diagrams c.number_of.new.self c.in_ok-integer-in-Some.ensures.adds
    c.in_ok-number_of.ensures.known
