use Rattle.std.proofs.Common.{◌<◌, length, refl, arith}
use Rattle.fv_parse.specs.Trees.{tree_in}
use Rattle.fv_eval_scopes.specs.declared.value.Scope.TheVariants as scope
use Rattle.fv_eval_scopes.specs.Shows.{parameters_in}
use Rattle.fv_eval.proofs.Moves.{scoped_grew}
use Rattle.fv_eval.proofs.Taking.{bound_below, last_parameter, name_is_there, parameter_takes}
use Rattle.fv_eval.proofs.machine.Machine.take_parameter.Goals as goal

pub overflow_add-more : goal.overflow_add-more
overflow_add-more c =
    let p = c.args.tree.now in
    let below = bound_below p c.args.self.now c.args.node c.args.bound c.args.env c.requires in
    let some : 0 < length (parameters_in p.tokens (tree_in p c.args.node)) = omega (arith, below) in
    let all = c.parameters-count.ensures some in
    omega (arith, below, all)

pub unreachable-requires : goal.unreachable-requires
unreachable-requires c =
    let p = c.args.tree.now in
    name_is_there p c.args.node c.args.bound c.parameter.result (bound_below p c.args.self.now c.args.node c.args.bound c.args.env c.requires)
    c.parameter.ensures c.in_default.is

pub returns-then-count-more-clause-took : goal.returns-then-count-more-clause-took
returns-then-count-more-clause-took c =
    λ v a h k. last_parameter c.args.tree.now c.args.self.now c.args.node c.args.bound c.parameters-count.result c.args.env v a c.parameters-count.ensures
    c.if-count-more.true h

pub returns-clause-grew : goal.returns-clause-grew
returns-clause-grew c =
    scoped_grew c.args.tree.now c.args.self.now c.bind.new.self (scope.Bound c.in-Some.name c.args.argument c.args.env) c.in_ok-inner.ensures.ok.1

pub returns-clause-took : goal.returns-clause-took
returns-clause-took c =
    λ v a h k. parameter_takes c.args.tree.now c.args.self.now c.bind.new.self c.args.node c.args.bound _ c.parameters-count.result c.args.env
    c.in_ok-inner.inner
    c.in-Some.name c.args.argument v a refl c.parameters-count.ensures c.if-count-more.false c.in-Some.ensures
    c.in_ok-inner.ensures.ok.0 c.in_ok-inner.ensures.ok.1 h k
