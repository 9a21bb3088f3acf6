use Rattle.fv_eval_lookup.specs.Chosen.{nodes_of}
use Rattle.fv_eval_lookup.proofs.Wanting.{all_places}
use Rattle.fv_eval_lookup.proofs.index.RuleIndex.new.Goals as goal

pub returns-clause-index : goal.returns-clause-index
returns-clause-index c = record {
  every = all_places c.args.tree.now (nodes_of c.args.rules) c.len-2.result c.in_ok-every.every c.len-2.ensures c.in_ok-every.ensures;
  positions = c.in_ok-positions.ensures;
}
