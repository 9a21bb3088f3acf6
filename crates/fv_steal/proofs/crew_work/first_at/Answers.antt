use Rattle.std.proofs.Common.{◌≡◌, ◌∙◌, ◌++◌, ◌∷◌, [], ap, refl, subst, arith, set, MatchOption}
use Rattle.fv_steal.specs.declared.handles.Victim.{Victim}
use Rattle.fv_steal.specs.Deques.{robs, taken_by}
use Rattle.fv_steal.proofs.Boards.{stolen, map_set_same}
use Rattle.fv_steal.proofs.crew_work.first_at.Goals as goal

pub returns : goal.returns
returns c =
    let vs = c.args.victims.now.items in let now = c.index_mut.result.now in let a = c.steal.new.self in record {
      taken = stolen c.steal.result vs (set vs c.args.i a) c.args.i a now (let t = c.requires.there in let o = c.args.victims.now.ok.0 in omega arith) refl
          (subst (λ (v : Victim). MatchOption c.steal.result (taken_by a ≡ taken_by v)
          (λ x. taken_by a ≡ taken_by v ++ x ∷ [])) c.index_mut.ensures.value c.steal.ensures.found);
      same = map_set_same robs vs c.args.i a now (let t = c.requires.there in let o = c.args.victims.now.ok.0 in omega arith)
          (c.steal.ensures.place ∙ ap robs c.index_mut.ensures.value);
      count = refl;
    }
