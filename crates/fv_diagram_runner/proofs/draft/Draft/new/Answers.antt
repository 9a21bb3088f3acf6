use Rattle.std.proofs.Common.{◌≡◌, [], arith, rules}
use Rattle.fv_diagram_runner.specs.History.{numbers_of}
use Rattle.fv_diagram_runner.proofs.Codes.{input_code_of}
use Rattle.fv_diagram_runner.proofs.draft.Draft.new.Goals as goal

pub invariant_of-result : goal.invariant_of-result
invariant_of-result c =
    let sources : c.new.result.items ≡ [] = search rules in
    let changes : c.new-2.result.items ≡ [] = search rules in
    let lists : numbers_of c.new-3.result.items ≡ [] = search rules in
    let loops : c.new-4.result.items ≡ [] = search rules in
    input_code_of c.args.ins c.loop-i.i _ _ _ _ _ (omega arith) c.loop-i.invariant sources changes lists loops
