use Rattle.std.proofs.Common.{◌+◌, sym, ap, ◌∙◌, subst}
use Rattle.std.specs.Global.{Vec}
use Rattle.fv_outside.specs.declared.tasks.Reads.{Reads}
use Rattle.test_blocks.specs.Pairs.{AreBefore}
use Rattle.test_blocks.proofs.Paired.{passed_by, one_pair}
use Rattle.test_blocks.proofs.plans.add_pairs.Goals as goal
use Rattle.test_blocks.proofs.plans.add_pairs.Goals.{then-next_u32-percent+in_ok-push, else-next_u32-percent}

pub loop-source-preserved : goal.loop-source-preserved
loop-source-preserved c =
    let loops = c.args.loops in let reader = c.args.reader in let source = c.loop-source.source in let rs = c.loop-source.pairs.items in
    let h = c.loop-source.invariant.before in elim c.if-next_u32-percent.branch [
      | then-next_u32-percent+in_ok-push w ↦ record {
        before = subst (λ xs. AreBefore loops reader (source + 1) xs) (sym (ap (λ (v : Vec Reads). v.items) w.pairs-is ∙ w.in_ok-push.ensures.items))
            (one_pair loops reader source rs h c.requires.there c.loop-source-test.true);
      }
      | else-next_u32-percent w ↦ record {
        before = subst (λ xs. AreBefore loops reader (source + 1) xs) (sym (ap (λ (v : Vec Reads). v.items) w.pairs-is)) (passed_by loops reader source rs h);
      }
    ]
