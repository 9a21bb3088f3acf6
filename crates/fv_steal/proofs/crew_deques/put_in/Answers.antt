use Rattle.std.proofs.Common.{◌++◌, ◌∷◌, [], ◌<◌, refl, ◌∙◌, sym, ap, subst, arith}
use Rattle.fv_outside.specs.Tasks.{times}
use Rattle.fv_graph.proofs.lemmas.Counts.{get_map}
use Rattle.fv_graph.proofs.lemmas.Places.{map_at, map_same}
use Rattle.fv_steal.specs.declared.rule.Account.{Account}
use Rattle.fv_steal.specs.declared.handles.TaskDeque.{TaskDeque}
use Rattle.fv_steal.specs.Deques.{account_of}
use Rattle.fv_steal.specs.inner.Made.{rest_of}
use Rattle.fv_steal.proofs.crew_deques.put_in.Goals as goal

pub push-requires : goal.push-requires
push-requires c = let o = c.args.deques.now.ok.0 in let t = c.requires.there in let r = c.index_mut.result.now in record {
  below = subst (λ (d : TaskDeque). c.args.task < d.room) (sym c.index_mut.ensures.value) (c.requires.below c.args.w r (omega arith));
  fresh = ap (λ (d : TaskDeque). times c.args.task (account_of d).put) c.index_mut.ensures.value
      ∙ ap (times c.args.task) (sym (get_map (λ (d : TaskDeque). (account_of d).put) c.args.deques.now.items c.args.w r [] (omega arith))) ∙ c.requires.fresh;
}

pub returns : goal.returns
returns c = let o = c.args.deques.now.ok.0 in let t = c.requires.there in record {
  puts = map_at (λ (d : TaskDeque). (account_of d).put) (λ l. l ++ c.args.task ∷ []) c.args.deques.now.items c.args.w c.push.new.self c.index_mut.result.now []
      (omega arith) c.index_mut.ensures.value (ap (λ (a : Account). a.put) c.push.ensures.account);
  rests = map_same rest_of c.args.deques.now.items c.args.w c.push.new.self c.index_mut.result.now
      (omega arith) c.index_mut.ensures.value (λ i. (c.push.ensures.room i, (c.push.ensures.account i).lent, (c.push.ensures.account i).taken));
  workers = refl;
}
