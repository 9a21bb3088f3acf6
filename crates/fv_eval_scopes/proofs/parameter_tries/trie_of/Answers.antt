use Rattle.std.proofs.Common.{◌<◌, length, refl, subst, arith}
use Rattle.std.proofs.lemmas.Option.{slice_get_within}
use Rattle.fv_eval_scopes.specs.Parameters.{ShowsName}
use Rattle.fv_eval_scopes.proofs.lemmas.Forks.{grown_none}
use Rattle.fv_eval_scopes.specs.ParameterTries.{names_in}
use Rattle.fv_eval_scopes.proofs.lemmas.NameTries.{grown_on}
use Rattle.fv_eval_scopes.proofs.lemmas.NameTries.{trie_begins, trie_ends}
use Rattle.fv_eval_scopes.proofs.parameter_tries.trie_of.Goals as goal

pub loop-i-init : goal.loop-i-init
loop-i-init c = (grown_none c.args.tries.now, trie_begins c.args.tree.now c.args.tries.now c.args.node)

pub loop-i-preserved : goal.loop-i-preserved
loop-i-preserved c =
    let p = c.args.tree.now in
    let node = c.args.node in
    let i = c.loop-i.i in
    let now = c.loop-i.invariant in (
      grown_on c.args.tries.now c.loop-i.tries c.with_parameter.new.tries now.0 c.in_ok-root.ensures.grown,
      c.in_ok-root.ensures.trie p node i refl (λ x at.
          let some : 0 < length (names_in p node) = omega (arith, slice_get_within (names_in p node) i x at) in
          subst (ShowsName p.tokens c.parameter.result) at (c.parameter.ensures some)) now.1,
    )

pub returns-clause-trie : goal.returns-clause-trie
returns-clause-trie c =
    trie_ends c.args.tree.now c.loop-i.tries c.args.node c.loop-i.i c.loop-i.root
    (λ some. omega (arith, c.loop-i-test.false, c.loop-i.auto.i-end, c.parameters-count.ensures some)) c.loop-i.invariant.1
